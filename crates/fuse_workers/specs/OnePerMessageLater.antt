-- One frame or note for each message, where replies may come later: it went out at once, or a mark did, and the frame of that mark
-- later.
use Rattle.std.specs.Prelude.{◌⊎◌, ℕ, List, length, map}
use Rattle.std.specs.List.{All, AllByRecursion, Contains}
use Rattle.fuse_wire.specs.Sink.{Note as Noted}
use Rattle.fuse_reply.specs.Late.{LateSeen}
use Rattle.fuse_reply.specs.declared.out.Out.{Out}
use Rattle.fuse_core.specs.Marks.{late_tag}
use Rattle.fuse_core.specs.AreMatched.{HasUnused, AreMatched}
use Rattle.fuse_core.specs.OnePerMessage.{OnePerMessage, Owing}
use Rattle.fuse_loop.specs.Progress.{LeavesOut}
use Rattle.fuse_workers.specs.Relays.{IsLateReply, late_out}

-- Each message is owed a frame that was sent at once, a note, a mark, or what was lost at once. Beside those frames the late ones were
-- sent that were let go, but for those lost: these go to different marks, each with its number and id.
pub record OnePerMessageLater (owed : Owing) (broken : List ℕ → Type 0) (messages frames : List (List ℕ)) (notes : List Noted) (lost : List Out) : Type 0 where
  pub at_once : List (List ℕ)
  pub marks : List Noted
  pub lost_at_once : List Out
  pub gone : List LateSeen
  pub late : List LateSeen
  pub lost_late : List LateSeen
  pub each : OnePerMessage owed broken 0 messages at_once notes marks (length lost_at_once)
  pub sent : LeavesOut (map (λ l. l.frame) late) frames at_once
  pub missed : LeavesOut (map late_out lost_late) lost lost_at_once
  pub parted : LeavesOut lost_late gone late
  pub replies : AllByRecursion IsLateReply gone
  pub matched : AreMatched marks (map late_tag gone)

-- each late frame that came was let go, or no mark of its number and id is unused
abbrev pub EachLetGo : (marks : List Noted) → (came gone : List LateSeen) → Type 0
EachLetGo marks came gone = All (λ l. Contains gone l ⊎ ¬ (HasUnused marks (map late_tag gone) (late_tag l))) came

-- The same; and where all could be recorded, each late frame that was let go had come, and none that came was held back whose mark
-- came.
pub record NoneHeldBack (owed : Owing) (broken : List ℕ → Type 0) (came : List LateSeen) (recorded : Type 0)
    (messages frames : List (List ℕ)) (notes : List Noted) (lost : List Out) : Type 0 where
  pub one_per_message : OnePerMessageLater owed broken messages frames notes lost
  pub arrived : recorded → All (Contains came) one_per_message.gone
  pub let_go : recorded → EachLetGo one_per_message.marks came one_per_message.gone
