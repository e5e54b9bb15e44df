use Rattle.std.proofs.Common.{◌≡◌, Option, subst, sym}
use Rattle.fuse_reply.specs.Late.{LateSeen}
use Rattle.fuse_reply.specs.declared.parcel.Parcel.{Parcel}
use Rattle.fuse_core.specs.Marks.{late_tag}
use Rattle.fuse_workers.specs.Relays.{SendsParcel, TakesLate, relay_of}
use Rattle.fuse_core.specs.declared.book.Book.{Book}
use Rattle.fuse_workers.proofs.Relaying.{TakesLate-by}
use Rattle.fuse_workers.proofs.relay.Relay.deliver_parcel.Goals as goal

-- the late frame came into the book, and what was let go was sent
pub returns-in-Late : goal.returns-in-Late
returns-in-Late g c =
    let late : LateSeen = c.in-Late.late in
    let go : Option LateSeen = c.late-go.result in
    let tag : (c.seq-seq.result, c.id-id.result.0) ≡ late_tag late = λ i. (c.seq-seq.ensures i, c.id-id.ensures i) in
    let takes : TakesLate late go c.args.self.now.book c.late-go.new.self =
    TakesLate-by late (c.seq-seq.result, c.id-id.result.0) go c.args.self.now.book c.late-go.new.self tag c.late-go.ensures.keeps c.late-go.ensures.own in
    subst (λ (parcel : Parcel). SendsParcel parcel (relay_of c.args.self.now.outlet c.args.self.now.book)
    (relay_of c.send_late.new.self.outlet c.send_late.new.self.book)) (sym c.in-Late.is) (
      go,
      subst (λ (book : Book LateSeen). TakesLate late go c.args.self.now.book book) (sym c.send_late.ensures.book) takes,
      c.send_late.ensures.sent,
    )
