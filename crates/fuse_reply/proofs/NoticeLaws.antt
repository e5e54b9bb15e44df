-- Notices: what the status of their frames reads, and that each in range is one frame on a stream.
use Rattle.std.proofs.Common.{◌≡◌, ◌^◌, ◌&&◌, ◌∙◌, ℕ, List, pos, true, ap, arith, nat_lt}
use Rattle.fuse_wire.specs.Frames.{IsFrame}
use Rattle.fuse_reply.specs.Frame.{frame_status, is_set_aside}
use Rattle.fuse_reply.specs.Notice.{Notice, IsNotice, IsNoticeFrame, notice, notice_payload, notify_code}
use Rattle.fuse_reply.specs.Notice.Notice.{Poll, InvalInode, InvalEntry, Store, Delete}
use Rattle.fuse_reply.proofs.FrameLaws.{is_frame-frame, number-frame_status, frame_status-frame}

-- the status of a notice is its code
pub frame_status-notice : (n : Notice) → frame_status (notice n) ≡ pos (notify_code n)
frame_status-notice (Poll kh) = frame_status-frame 0 (pos 1) (notice_payload (Poll kh)) (omega arith)
frame_status-notice (InvalInode ino offset len) = frame_status-frame 0 (pos 2) (notice_payload (InvalInode ino offset len)) (omega arith)
frame_status-notice (InvalEntry parent name) = frame_status-frame 0 (pos 3) (notice_payload (InvalEntry parent name)) (omega arith)
frame_status-notice (Store ino offset bytes) = frame_status-frame 0 (pos 4) (notice_payload (Store ino offset bytes)) (omega arith)
frame_status-notice (Delete parent child name) = frame_status-frame 0 (pos 6) (notice_payload (Delete parent child name)) (omega arith)

-- a notice is set aside
pub set_aside-notice : (n : Notice) → is_set_aside (notice n) ≡ true
set_aside-notice (Poll kh) =
    ap (λ s. nat_lt 0 s && nat_lt s (2 ^ 31)) (number-frame_status 0 (pos 1) (notice_payload (Poll kh)) (omega arith))
set_aside-notice (InvalInode ino offset len) =
    ap (λ s. nat_lt 0 s && nat_lt s (2 ^ 31)) (number-frame_status 0 (pos 2) (notice_payload (InvalInode ino offset len)) (omega arith))
set_aside-notice (InvalEntry parent name) =
    ap (λ s. nat_lt 0 s && nat_lt s (2 ^ 31)) (number-frame_status 0 (pos 3) (notice_payload (InvalEntry parent name)) (omega arith))
set_aside-notice (Store ino offset bytes) =
    ap (λ s. nat_lt 0 s && nat_lt s (2 ^ 31)) (number-frame_status 0 (pos 4) (notice_payload (Store ino offset bytes)) (omega arith))
set_aside-notice (Delete parent child name) =
    ap (λ s. nat_lt 0 s && nat_lt s (2 ^ 31)) (number-frame_status 0 (pos 6) (notice_payload (Delete parent child name)) (omega arith))

-- a notice in range is one frame on a stream
pub is_frame-notice : (n : Notice) → IsNotice n → IsFrame (notice n)
is_frame-notice n valid = is_frame-frame 0 (pos (notify_code n)) (notice_payload n) valid.fits

-- bytes that are a notice's frame are set aside
pub set_aside-is_notice_frame : (f : List ℕ) → IsNoticeFrame f → is_set_aside f ≡ true
set_aside-is_notice_frame f n = ap is_set_aside n.is_notice ∙ set_aside-notice n.notice_of
