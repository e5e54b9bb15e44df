-- What a call is answered where a filesystem wants nothing of its own: what the Rust crate's default methods answer.
use Rattle.std.specs.Prelude.{◌≡◌, ℕ, List, [], ◌∷◌}
use Rattle.fuse_wire.specs.ErrorNumbers.{EPERM, ENOSYS}
use Rattle.fuse_request.specs.Call.{Call}
use Rattle.fuse_request.specs.Call.Call.{SymLink, Link, Open, StatFs, Release, OpenDir, ReleaseDir}
use Rattle.fuse_reply.specs.Answer.{Answer}
use Rattle.fuse_reply.specs.Answer.Answer.{Error, Empty, Open as Opened, Statfs}

-- no links; a file or a directory is open under the number 0, and needs nothing when it is released; a filesystem without blocks and
-- without inodes, of which a block has 512 bytes and a name at most 255; and nothing else
abbrev pub default_answer : Call → Answer
default_answer (SymLink parent link_name target) = Error EPERM
default_answer (Link ino newparent newname) = Error EPERM
default_answer (Open ino flags) = Opened 0 0
default_answer (OpenDir ino flags) = Opened 0 0
default_answer (Release ino fh flags lock_owner flush) = Empty
default_answer (ReleaseDir ino fh flags) = Empty
default_answer (StatFs ino) = Statfs 0 0 0 0 0 512 255 0
default_answer c = Error ENOSYS

-- the mark of a forget
abbrev pub default_mark : ℕ
default_mark = 0

-- one call of what forgets a row: it may give this mark, and leave this for the next call
abbrev pub Forgets : Type 0 → Type 1
Forgets F = (forget : F) (ino nlookup mark : ℕ) (left : F) → Type 0

-- The mark after a batch of forgets, where it was one before: each row is forgotten, in order, by what the row before it left, and
-- the mark is the one that came of the last.
abbrev pub IsMarkAfter : {F : Type 0} → Forgets F → (forget : F) → (rows : List (ℕ × ℕ)) → (before after : ℕ) → Type 0
IsMarkAfter Calls forget [] before after = after ≡ before
IsMarkAfter {F} Calls forget (row ∷ rows) before after =
    (mark : ℕ) × (left : F) × Calls forget row.0 row.1 mark left × IsMarkAfter Calls left rows mark after
