-- What is promised of a reply that is put off.
use Rattle.fuse_dispatch.specs.Promise.{MayAnswer}

-- any answer to any call
abbrev pub any_answer : {F : Type 0} → MayAnswer F
any_answer fs request call answer = Unit {0}
