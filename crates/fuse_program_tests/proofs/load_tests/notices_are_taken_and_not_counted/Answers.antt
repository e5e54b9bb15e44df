use Rattle.std.proofs.Common.{refl}
use Rattle.fuse_wire.specs.Numbers.{number}
use Rattle.fuse_program_tests.proofs.load_tests.notices_are_taken_and_not_counted.Goals as goal

pub send-requires : goal.send-requires
unfolding number
send-requires g c = refl

pub send-requires-2 : goal.send-requires-2
unfolding number
send-requires-2 g c = refl

pub send-requires-3 : goal.send-requires-3
unfolding number
send-requires-3 g c = refl
