-- The complement of a set takes the bits that have a name.
use Rattle.std.proofs.Common.{◌≡◌, refl, ◌∙◌, ap, ◌-◌, ◌^◌}
use Rattle.std.specs.Int.RustNames.{bit_and}
use Rattle.bitflags.specs.Sets.{known_bits, known_from}
use Rattle.fuse_wire.specs.FlagNames.{init_flags_table}
use Rattle.fuse_config.specs.Configuration.{known}
use Rattle.fuse_config.proofs.kernel_config.known_beside.Goals as goal

known-named : known_bits init_flags_table ≡ known
unfolding known_from
known-named = refl

pub returns : goal.returns
returns c = c.complement.ensures tt ∙ ap (bit_and (2 ^ 64 - 1 - c.args.offered.0)) known-named
