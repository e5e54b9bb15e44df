use Rattle.std.proofs.Common.{subst, sym}
use Rattle.fuse_reply.specs.Late.{LateSeen}
use Rattle.fuse_reply.specs.declared.out.Out.{Out}
use Rattle.fuse_core.specs.AreMatched.{Tag}
use Rattle.fuse_workers.specs.Relays.{SendsOut, TakesMark, is_own, relay_of}
use Rattle.fuse_core.specs.declared.book.Book.{Book}
use Rattle.fuse_workers.proofs.relay.Relay.deliver.Goals as goal

-- the mark came into the book, and what it let go was sent
pub returns-in-Deferred : goal.returns-in-Deferred
returns-in-Deferred g c =
    let tag : Tag = (c.in-Deferred.seq, c.in-Deferred.id.0) in
    let takes : TakesMark tag c.mark-go.result c.args.self.now.book c.mark-go.new.self = record {
      booked = c.mark-go.ensures.keeps;
      own = c.mark-go.ensures.own is_own;
    } in
    subst (λ (out : Out). SendsOut out (relay_of c.args.self.now.outlet c.args.self.now.book) (relay_of c.send_late.new.self.outlet c.send_late.new.self.book))
    (sym c.in-Deferred.is) (
      c.mark-go.result,
      subst (λ (book : Book LateSeen). TakesMark tag c.mark-go.result c.args.self.now.book book) (sym c.send_late.ensures.book) takes,
      c.send_late.ensures.sent,
    )
