use Rattle.std.proofs.Common.{◌≡◌, ◌++◌, [], ℕ, List, length}
use Rattle.fuse_line.specs.Hand.{hand}
use Rattle.fuse_line.specs.declared.hand.Kind.TheVariants.{First}
use Rattle.fuse_reply.specs.declared.parcel.Parcel.{Parcel}
use Rattle.fuse_core.specs.OnePerMessage.{number_of}
use Rattle.fuse_workers.specs.Pairing.{outs_of}
use Rattle.fuse_workers.specs.Relays.{relay_of}
use Rattle.fuse_loop.specs.Answering.{answering}
use Rattle.fuse_workers.proofs.ServingAlone.{ServesOn}
use Rattle.fuse_workers.proofs.alone.answer_in_turn_alone.Given as goal

-- these requests were taken and answered so far
abbrev pub invariant-loop : goal.invariant-loop
invariant-loop g l =
    (l.pass.line ≡ l.context.frames.now) × (l.answerer.notifier.line ≡ l.fn.answerer.notifier.line)
    × (more : List Parcel) × (l.pass.hand ≡ hand First 0 [] (l.fn.pass.hand.taken ++ more)) × (outs_of (l.fn.pass.hand.taken ++ more) ≡ [])
    × (ms : List (List ℕ)) × (number_of (length ms) ≡ l.seq)
    × ServesOn (answering (g.W.Work.owed l.context.work.now) g.W.Work.DEFERS) ms more l.fn.intake l.intake (relay_of l.fn.relay.outlet l.fn.relay.book)
    (relay_of l.relay.outlet l.relay.book)
    × (l.answerer.doors ≡ l.fn.answerer.doors)
