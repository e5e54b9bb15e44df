-- A filesystem that wants nothing of its own.
use Rattle.std.specs.Prelude.{◌≡◌, Ok, false}
use Rattle.fuse_dispatch.specs.Defaults.{default_answer, default_mark}
use Rattle.fuse_dispatch.specs.Promise.{Promise}

-- every kernel is accepted, and nothing is asked of it; each call is answered by default, and so is each forget; nothing happens when
-- the session is over
abbrev pub promise : {F : Type 0} → Promise F
promise = record {
  may_init = λ old request before result new after. (result ≡ Ok tt) × (after ≡ before) × (new ≡ old);
  may_answer = λ fs request call a. default_answer call ≡ a;
  may_honour = λ fs request target. ⊥;
  may_note = λ fs request call mark. mark ≡ default_mark;
  may_destroy = λ old new. new ≡ old;
  defers = false;
}
