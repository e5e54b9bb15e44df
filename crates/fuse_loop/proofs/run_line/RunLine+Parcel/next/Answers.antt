-- What comes off the line is no prompt, and the pass stays alone.
use Rattle.std.proofs.Common.{◌≡◌, false, rules, subst, MatchResult}
use Rattle.fuse_line.specs.Hand.{with_taken}
use Rattle.fuse_line.specs.Seen.{Seen}
use Rattle.fuse_reply.specs.Parcel.{is_prompt}
use Rattle.fuse_reply.specs.declared.parcel.Parcel.{Parcel}
use Rattle.std.specs.Arc.{arc_value}
use Rattle.fuse_loop.proofs.FrameLines.{popped-alone, popped-unprompted}
use Rattle.fuse_loop.proofs.run_line.RunLine+Parcel.next.Goals as goal

pub invariant_of-self : goal.invariant_of-self
invariant_of-self g c =
    let line = arc_value c.self.inside.line in
    let at : c.pop_or_empty.new.pass.line ≡ line = search rules in
    popped-alone line c.self.inside.pass c.pop_or_empty.new.pass c.pop_or_empty.result c.self.invariant at c.pop_or_empty.ensures.hand c.pop_or_empty.ensures.front

pub returns-clause-taken : goal.returns-clause-taken
returns-clause-taken g c =
    let line = arc_value c.self.inside.line in
    let at : c.pop_or_empty.new.pass.line ≡ line = search rules in
    let same : c.self.inside.pass ≡ c.args.self.now = search rules in
    subst (λ (old : Seen Parcel). MatchResult c.pop_or_empty.result
    (λ parcel. (c.pop_or_empty.new.pass ≡ record old { hand = with_taken old.hand parcel }) × (is_prompt parcel ≡ false))
    (λ _. c.pop_or_empty.new.pass ≡ old)) same
    (popped-unprompted line c.self.inside.pass c.pop_or_empty.new.pass c.pop_or_empty.result c.self.invariant at c.pop_or_empty.ensures.hand c.pop_or_empty.ensures.front)
