-- That a frame of these parts is that of a notice, one lemma for each kind whose length is not fixed.
use Rattle.std.proofs.Common.{◌≡◌, ◌∙◌, ◌≤◌, ◌+◌, ◌++◌, [], ◌∷◌, ap, arith, length, pos, ℕ, ℤ, List, length-append}
use Rattle.std.proofs.lemmas.List.{append-nil}
use Rattle.fuse_reply.specs.Sizes.{max_payload}
use Rattle.fuse_reply.specs.Frame.{frame}
use Rattle.fuse_reply.specs.Notice.{Notice, IsNoticeFrame, HasRanges, FitsFrame, notice, notice_payload}
use Rattle.fuse_reply.specs.Notice.Notice.{InvalInode, InvalEntry, Store, Delete}
use Rattle.fuse_notify.specs.Heads.{entry_head, wide_head}

-- the frame of a notice in range
pub is_notice_frame : (f : List ℕ) (n : Notice) → f ≡ notice n → HasRanges n → FitsFrame n → IsNoticeFrame f
is_notice_frame f n same ranges fits = record { notice_of = n; in_range = record { ranges = ranges; fits = fits }; is_notice = same }

pub range_frame : (f payload : List ℕ) (ino : ℕ) (offset len : ℤ) → f ≡ frame 0 (pos 2) payload → payload ≡ notice_payload (InvalInode ino offset len)
    → f ≡ notice (InvalInode ino offset len)
range_frame f payload ino offset len made same = made ∙ ap (frame 0 (pos 2)) same

pub entry_frame : (f head : List ℕ) (parent : ℕ) (name : List ℕ) → f ≡ frame 0 (pos 3) (head ++ name ++ 0 ∷ [])
    → head ≡ entry_head parent (length name) → f ≡ notice (InvalEntry parent name)
unfolding entry_head
entry_frame f head parent name made same = made ∙ ap (λ h. frame 0 (pos 3) (h ++ name ++ 0 ∷ [])) same

pub entry_fits : (parent : ℕ) (name : List ℕ) → 16 + length name + 1 ≤ max_payload → FitsFrame (InvalEntry parent name)
entry_fits parent name within = omega (arith, within, length-append name (0 ∷ []))

pub store_frame : (f head : List ℕ) (ino offset : ℕ) (bytes : List ℕ) → f ≡ frame 0 (pos 4) (head ++ bytes ++ [])
    → head ≡ wide_head ino offset (length bytes) → f ≡ notice (Store ino offset bytes)
unfolding wide_head
store_frame f head ino offset bytes made same =
    made ∙ ap (frame 0 (pos 4)) (append-nil (head ++ bytes)) ∙ ap (λ h. frame 0 (pos 4) (h ++ bytes)) same

pub store_fits : (ino offset : ℕ) (bytes : List ℕ) → 24 + length bytes + 0 ≤ max_payload → FitsFrame (Store ino offset bytes)
store_fits ino offset bytes within = omega (arith, within)

pub delete_frame : (f head : List ℕ) (parent child : ℕ) (name : List ℕ) → f ≡ frame 0 (pos 6) (head ++ name ++ 0 ∷ [])
    → head ≡ wide_head parent child (length name) → f ≡ notice (Delete parent child name)
unfolding wide_head
delete_frame f head parent child name made same = made ∙ ap (λ h. frame 0 (pos 6) (h ++ name ++ 0 ∷ [])) same

pub delete_fits : (parent child : ℕ) (name : List ℕ) → 24 + length name + 1 ≤ max_payload → FitsFrame (Delete parent child name)
delete_fits parent child name within = omega (arith, within, length-append name (0 ∷ []))
