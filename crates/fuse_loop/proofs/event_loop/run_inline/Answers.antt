use Rattle.std.proofs.Common.{◌≡◌, ◌∙◌, ℕ, List, [], ap, subst, sym}
use Rattle.fuse_line.specs.declared.hand.Hand.{Hand}
use Rattle.fuse_reply.specs.declared.parcel.Parcel.{Parcel}
use Rattle.fuse_loop.specs.EventLoop.{Run}
use Rattle.fuse_loop.specs.Lines.{LinesState, notices_in, unasked_of}
use Rattle.fuse_core.specs.OnePerMessage.{InOrder}
use Rattle.fuse_loop.specs.Progress.{Progress, beside, nothing_yet, progress}
use Rattle.fuse_loop.proofs.Quieting.{PassesOnAll-quiet}
use Rattle.fuse_loop.proofs.event_loop.run_inline.Goals as goal

pub returns-clause-run : goal.returns-clause-run
returns-clause-run g c =
    let run = Run (InOrder (g.W.Work.owed c.args.work.now) 0) c.answer_in_turn-end.result in
    let opened = c.open-channel in
    let closed = c.close-source in
    let first = notices_in c.lines.inside.frames.hand.taken in
    let last = notices_in c.answer_in_turn-end.new.frames.hand.taken in
    let none : first ≡ [] =
    ap (λ (l : LinesState). unasked_of l) (c.lines.view_is ∙ opened.ensures.lines)
    ∙ ap (λ (h : Hand Parcel). notices_in h.taken) c.requires.unused.frames in
    let begins : Progress → Progress = λ p. beside p first in
    let start : begins opened.result.0.progress ≡ progress (g.S.Source.told c.args.source) (g.K.Sink.told c.args.sink) nothing_yet [] =
    ap begins opened.ensures.channel
    ∙ ap (λ (u : List (List ℕ)). progress (g.S.Source.told c.args.source) (g.K.Sink.told c.args.sink) nothing_yet u) none in
    let ended : List (List ℕ) → Progress = λ u. progress (g.S.Source.told closed.result.0) (g.K.Sink.told closed.result.1) closed.result.3 u in
    let finish : beside c.answer_in_turn-end.new.channel.progress last ≡ ended (unasked_of closed.result.2) =
    ap (λ (p : Progress). beside p last) closed.ensures.channel
    ∙ ap (λ (l : LinesState). ended (unasked_of l)) (sym closed.ensures.lines) in
    subst (λ (q : Progress). run (progress (g.S.Source.told c.args.source) (g.K.Sink.told c.args.sink) nothing_yet []) q) finish
    (subst (λ (p : Progress). run p (beside c.answer_in_turn-end.new.channel.progress last)) start c.answer_in_turn-end.ensures.run)

pub returns-clause-notices : goal.returns-clause-notices
returns-clause-notices g c quiet = PassesOnAll-quiet (returns-clause-run g c).moved quiet
