-- What whoever sends hands to the sink: each parcel that was taken off the line, in order, but the late frames, which go as the book
-- lets them.
use Rattle.std.specs.Prelude.{◌≡◌, ◌++◌, ℕ, Bool, true, List, [], ◌∷◌, Option, None, Some, IfSome, map}
use Rattle.std.specs.List.{AllByRecursion}
use Rattle.fuse_wire.specs.Source.{SourceState}
use Rattle.fuse_wire.specs.Sink.{Note}
use Rattle.fuse_line.specs.declared.hand.Hand.{Hand}
use Rattle.fuse_line.specs.declared.hand.Kind.TheVariants.{Inner}
use Rattle.fuse_reply.specs.Late.{IsReplyTo, LateSeen}
use Rattle.fuse_reply.specs.declared.out.Out.{Out}
use Rattle.fuse_reply.specs.declared.out.Out.TheVariants.{Frame, Note as Noting, Deferred}
use Rattle.fuse_reply.specs.declared.parcel.Parcel.{Parcel}
use Rattle.fuse_reply.specs.declared.parcel.Parcel.TheVariants.{Prompt, Notice, Late}
use Rattle.fuse_core.specs.Book.{EachWaiting, IsBookOf, tagged}
use Rattle.fuse_loop.specs.Lines.{lates_in, notices_in}
use Rattle.fuse_core.specs.Marks.{late_tag}
use Rattle.fuse_core.specs.AreMatched.{Tag, same}
use Rattle.fuse_workers.specs.Pairing.{Parts, outs_of}
use Rattle.fuse_loop.specs.Progress.{LeavesOut, Moves, OutletState, SendsNotice, SendsOnce, progress}
use Rattle.fuse_core.specs.declared.book.Book.{Book}

-- whoever sends: the end that frames go out by, and the book of replies that come later
pub record RelayState : Type 0 where
  pub outlet : OutletState
  pub book : Book LateSeen

abbrev pub relay_of : OutletState → Book LateSeen → RelayState
relay_of outlet book = record { outlet = outlet; book = book }

-- a late frame with its tag
abbrev pub with_tag : LateSeen → Tag × LateSeen
with_tag late = (late_tag late, late)

-- it has that tag
abbrev pub is_own : Tag → LateSeen → Bool
is_own tag late = same (late_tag late) tag

-- a late frame, as it goes out
abbrev pub late_out : LateSeen → Out
late_out late = Frame late.frame

-- it is the reply to the request of its id
abbrev pub IsLateReply : LateSeen → Type 0
IsLateReply late = IsReplyTo late.id late.frame

-- a mark of this tag came into the book, which let the frame go, where there is one
pub record TakesMark (tag : Tag) (go : Option LateSeen) (before after : Book LateSeen) : Type 0 where
  pub booked : (marks : List Tag) (came gone : List (Tag × LateSeen)) → IsBookOf before marks came gone
      → IsBookOf after (marks ++ tag ∷ []) came (gone ++ tagged tag go)
  pub own : EachWaiting is_own before → EachWaiting is_own after × IfSome go (λ l. is_own tag l ≡ true)

-- a late frame came into the book, which let the frame go, where there is one
pub record TakesLate (late : LateSeen) (go : Option LateSeen) (before after : Book LateSeen) : Type 0 where
  pub booked : (marks : List Tag) (came gone : List (Tag × LateSeen)) → IsBookOf before marks came gone
      → IsBookOf after marks (came ++ with_tag late ∷ []) (gone ++ tagged (late_tag late) go)
  pub own : EachWaiting is_own before → EachWaiting is_own after × IfSome go (λ l. is_own (late_tag late) l ≡ true)

-- the frame that was let go, where there is one, was handed to the sink
abbrev pub SendsLate : (go : Option LateSeen) → (before after : OutletState) → Type 0
SendsLate None before after = after ≡ before
SendsLate (Some late) before after = SendsOnce (late_out late) before after × IsLateReply late

-- what goes out for a message was handed to the sink; what marks that its reply comes later came into the book
abbrev pub SendsOut : Out → (before after : RelayState) → Type 0
SendsOut (Deferred seq id) before after =
    (go : Option LateSeen) × TakesMark (seq, id.0) go before.book after.book × SendsLate go before.outlet after.outlet
SendsOut (Frame f) before after = SendsOnce (Frame f) before.outlet after.outlet × (after.book ≡ before.book)
SendsOut (Noting id mark) before after = SendsOnce (Noting id mark) before.outlet after.outlet × (after.book ≡ before.book)

-- one parcel was handed on
abbrev pub SendsParcel : Parcel → (before after : RelayState) → Type 0
SendsParcel (Prompt seq out) before after = SendsOut out before after
SendsParcel (Notice frame) before after = SendsNotice frame before.outlet after.outlet × (after.book ≡ before.book)
SendsParcel (Late late) before after =
    (go : Option LateSeen) × TakesLate late go before.book after.book × SendsLate go before.outlet after.outlet

-- the parcels were handed on one after the other, in their order
abbrev pub HandsEach : List Parcel → (before after : RelayState) → Type 0
HandsEach [] before after = after ≡ before
HandsEach (p ∷ ps) before after = (between : RelayState) × SendsParcel p before between × HandsEach ps between after

-- Of the parcels each frame, note and notice was, in that order, appended to the sink or refused by it, and so were, among them, the late
-- frames that were let go; the marks and the late frames came into the book; and nothing else was appended.
pub record Relays (parcels : List Parcel) (before after : RelayState) : Type 0 where
  pub each : HandsEach parcels before after
  pub outs : List Out
  pub gone : List (Tag × LateSeen)
  pub mixed : LeavesOut (map (λ l. late_out l.1) gone) outs (outs_of parcels)
  pub replies : AllByRecursion (λ l. IsLateReply l.1) gone
  pub own : EachWaiting is_own before.book → EachWaiting is_own after.book × AllByRecursion (λ l. is_own l.0 l.1 ≡ true) gone
  pub sent : List (List ℕ)
  pub notes : List Note
  pub marks : List Note
  pub lost : List Out
  pub parts : Parts outs sent notes marks lost
  pub booked : (ms : List Tag) (came let_go : List (Tag × LateSeen)) → IsBookOf before.book ms came let_go
      → IsBookOf after.book (ms ++ marks) (came ++ map with_tag (lates_in parcels)) (let_go ++ gone)
  pub moved : (source : SourceState) (unasked : List (List ℕ))
      → Moves 0 sent notes lost (progress source before.outlet.sink before.outlet.counts unasked)
      (progress source after.outlet.sink after.outlet.counts (unasked ++ notices_in parcels))

-- the sender's pass: it pushed nothing, and the parcels that it took were handed on
pub record IsRelayed (frames : Hand Parcel) (before after : RelayState) : Type 0 where
  pub kind : frames.kind ≡ Inner
  pub no_put : frames.put ≡ []
  pub relays : Relays frames.taken before after
