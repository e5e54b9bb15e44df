-- What a work of these tests owes, some of whose replies come later.
use Rattle.std.specs.Prelude.{◌≡◌, ◌⊎◌, ℕ, List}
use Rattle.std.proofs.Common.{inl, inr}
use Rattle.fuse_reply.specs.Answer.Answer.{Empty}
use Rattle.fuse_reply.specs.Frame.{reply}
use Rattle.fuse_reply.specs.declared.out.Out.{Out}
use Rattle.fuse_reply.specs.declared.out.Out.TheVariants.{Deferred, Frame}
use Rattle.fuse_loop.specs.Answering.{IsRequest, request-is-no-destroy}
use Rattle.fuse_loop.specs.Incoming.{id_of, incoming}
use Rattle.fuse_loop.specs.Incoming.Incoming.{Destroy}

-- an empty reply, or to a request the mark of one that comes later
abbrev pub NowOrLater : (seq : ℕ) → (m : List ℕ) → Out → Type 0
NowOrLater seq m out =
    (out ≡ Frame (reply (id_of m) Empty)) ⊎ (IsRequest m × (out ≡ Deferred seq (record { 0 = id_of m })))

-- so DESTROY is owed the empty reply alone
pub NowOrLater-destroy : (seq : ℕ) (m : List ℕ) (out : Out) → incoming m ≡ Destroy → NowOrLater seq m out
    → out ≡ Frame (reply (id_of m) Empty)
NowOrLater-destroy seq m out is (inl now) = now
NowOrLater-destroy seq m out is (inr later) = absurd (let no : ⊥ = request-is-no-destroy m later.0 is in no)
