-- What is granted is taken from what was offered.
use Rattle.std.proofs.Common.{refl}
use Rattle.std.specs.Int.RustNames.{bit_or}
use Rattle.std.specs.Int.Bits.{and_self}
use Rattle.std.proofs.lemmas.Nat.{and_assoc}
use Rattle.fuse_wire.specs.Flags.{FUSE_INIT_EXT}
use Rattle.fuse_config.proofs.laws.grants_only_what_was_offered.Goals as goal

pub returns : goal.returns
returns c config offered = rw (and_assoc offered (bit_or config.requested FUSE_INIT_EXT) offered) (rw (and_self offered) refl)
