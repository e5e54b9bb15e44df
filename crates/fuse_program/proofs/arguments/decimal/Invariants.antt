use Rattle.std.proofs.Common.{◌≡◌, ◌<◌, ◌^◌, drop}
use Rattle.fuse_program.specs.Form.{value_after}
use Rattle.fuse_program.proofs.arguments.decimal.Given as goal

-- the digits that are left finish the number, and the value so far is small
abbrev pub invariant-loop-byte : goal.invariant-loop-byte
invariant-loop-byte l = record {
  finishes : value_after l.value (drop l.byte-index l.word) ≡ value_after 0 l.word;
  small : l.value < 10 ^ l.byte-index;
}
