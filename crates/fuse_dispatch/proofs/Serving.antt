-- What a request comes to is what its message is owed.
use Rattle.std.proofs.Common.{◌≡◌, ℕ, List, length, subst, Bool, true, false, inl, inr, nat_lt, Result, Ok, Err}
use Rattle.std.specs.Prelude.{if◌then◌else◌}
use Rattle.fuse_wire.specs.Numbers.{number}
use Rattle.fuse_dispatch.specs.declared.access.Terms.{Terms}
use Rattle.fuse_header.specs.declared.error.RequestError.{RequestError}
use Rattle.fuse_header.specs.declared.error.RequestError.TheVariants.{ShortReadHeader, ShortRead, InsufficientData}
use Rattle.fuse_header.specs.declared.header.Header.{Header}
use Rattle.fuse_header.specs.Header.{header, header_fields, body, request_of}
use Rattle.fuse_reply.specs.Reply.{RepliesWith}
use Rattle.fuse_reply.specs.declared.out.Out.{Out}
use Rattle.fuse_reply.specs.declared.out.Out.TheVariants.{Deferred}
use Rattle.fuse_header.specs.declared.request.Request.{Request}
use Rattle.fuse_wire.specs.declared.newtypes.RequestId.{RequestId}
use Rattle.fuse_loop.specs.Incoming.{IsBroken, id_of}
use Rattle.fuse_request.specs.Call.{Call}
use Rattle.fuse_request.specs.Call.Call.{Interrupt}
use Rattle.fuse_dispatch.specs.Promise.{MayHonour, Promise}
use Rattle.fuse_dispatch.specs.Verdict.{Verdict, verdict, verdict_by}
use Rattle.fuse_dispatch.specs.Verdict.Verdict.{Broken, Ends, Fixed, Forgets, Calls}
use Rattle.fuse_dispatch.specs.OwedMessage.{HonoursCall, OwedByPromise, OwedBy}

ok-header : (a b c : Bool) (x y z : RequestError) (f h : Header)
    → (if a then Err x else if b then Err y else if c then Err z else Ok f) ≡ Ok h → h ≡ f
ok-header true b c x y z f h is = absurd (let bad : ⊥ = cc in bad)
ok-header false true c x y z f h is = absurd (let bad : ⊥ = cc in bad)
ok-header false false true x y z f h is = absurd (let bad : ⊥ = cc in bad)
ok-header false false false x y z f h is = cc

-- a good header is its fields
pub header-fields : (m : List ℕ) (h : Header) → header m ≡ Ok h → h ≡ header_fields m
header-fields m h is =
    ok-header (nat_lt (length m) 40) (nat_lt (length m) (number m 0 4)) (nat_lt (number m 0 4) 40)
    (ShortReadHeader (length m)) (ShortRead (length m) (number m 0 4)) InsufficientData (header_fields m) h is

-- an interrupt that is honoured is no such mark
no-mark-honoured : {F : Type 0} (may_honour : MayHonour F) (fs : F) (request : Request) (c : Call) (id number : ℕ) (of : RequestId)
    → HonoursCall may_honour fs request c id (Deferred number of) → ⊥
no-mark-honoured may_honour fs request (Interrupt target) id number of honoured = let is = honoured.1 in let bad : ⊥ = cc in bad
no-mark-honoured may_honour fs request c id number of honoured = honoured

-- a filesystem that never defers owes no mark of a reply that comes later
no-mark : {F : Type 0} (promise : Promise F) (fs : F) (request : Request) (v : Verdict) (seq id number : ℕ) (of : RequestId) → promise.defers ≡ false
    → OwedBy promise fs request v seq id (Deferred number of) → ⊥
no-mark promise fs request (Broken e) seq id number of never owed = owed
no-mark promise fs request Ends seq id number of never owed = let bad : ⊥ = cc in bad
no-mark promise fs request (Fixed errno) seq id number of never owed = let bad : ⊥ = cc in bad
no-mark promise fs request (Forgets c) seq id number of never owed = let is = owed.2 in let bad : ⊥ = cc in bad
no-mark promise fs request (Calls c) seq id number of never (inl answered) = by_reply answered.replies where
  by_reply : RepliesWith id answered.answer (Deferred number of) → ⊥
  by_reply (inl is) = let bad : ⊥ = cc in bad
  by_reply (inr is) = let at = is.1 in let bad : ⊥ = cc in bad
no-mark promise fs request (Calls c) seq id number of never (inr (inl poll)) = let is = poll.1 in let bad : ⊥ = cc in bad
no-mark promise fs request (Calls c) seq id number of never (inr (inr (inl later))) = let is = later.0 in let bad : ⊥ = cc in bad
no-mark promise fs request (Calls c) seq id number of never (inr (inr (inr honoured))) = no-mark-honoured promise.may_honour fs request c id number of honoured

pub OwedByPromise-at_once : {F : Type 0} (promise : Promise F) (fs : F) (agreed : Terms) → promise.defers ≡ false
    → (seq : ℕ) (m : List ℕ) (number : ℕ) (of : RequestId) → OwedByPromise promise fs agreed seq m (Deferred number of) → ⊥
OwedByPromise-at_once promise fs agreed never seq m number of owed =
    no-mark promise fs (request_of (header_fields m)) (verdict agreed m) seq (id_of m) number of never owed

-- nothing is owed to a message without a good header
pub OwedByPromise-broken : {F : Type 0} (promise : Promise F) (fs : F) (agreed : Terms) (seq : ℕ) (m : List ℕ) (out : Out)
    → OwedByPromise promise fs agreed seq m out → IsBroken m → ⊥
OwedByPromise-broken promise fs agreed seq m out owed broken =
    subst (λ (r : Result Header RequestError). OwedBy promise fs (request_of (header_fields m)) (verdict_by agreed r (body m)) seq (id_of m) out)
    broken.1 owed
