-- What `gen` does: it writes the generated messages.
use Rattle.std.specs.Prelude.{◌≡◌, ◌⊎◌, ℕ, true, false}
use Rattle.std.specs.List.{concat}
use Rattle.fuse_wire.specs.ByteSink.{ByteSinkState}
use Rattle.fuse_wire.specs.StreamSink.{WritesAll}
use Rattle.fuse_hello.specs.Generated.{stream}
use Rattle.fuse_program.specs.declared.arguments.GenForm.{GenForm}

-- With the status 0 all bytes of the stream were written, and with 8 those up to a write that failed, which the output counted.
abbrev pub Generates : GenForm → (exit : ℕ) → (output output' : ByteSinkState) → Type 0
Generates form exit output output' =
    ((exit ≡ 0) × WritesAll true (concat (stream form.seed form.count)) output output')
    ⊎ ((exit ≡ 8) × WritesAll false (concat (stream form.seed form.count)) output output')
