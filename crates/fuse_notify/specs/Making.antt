-- What comes of making a notice.
use Rattle.std.specs.Prelude.{◌≡◌, ◌<◌, ℕ, List, length, Result, Ok, Err}
use Rattle.fuse_reply.specs.Sizes.{inline_size}
use Rattle.fuse_reply.specs.Notice.{Notice, FitsFrame, IsTooBig, notice, notice_payload}
use Rattle.fuse_notify.specs.declared.notice.NoticeError.{NoticeError}
use Rattle.fuse_notify.specs.declared.notice.NoticeError.TheVariants.{TooBig, Memory}

-- The frame of the notice, where a frame can carry it. Memory may be wanting for a payload that is not held inline.
abbrev pub Makes : Result (List ℕ) NoticeError → Notice → Type 0
Makes (Ok frame) n = (frame ≡ notice n) × FitsFrame n
Makes (Err TooBig) n = IsTooBig n
Makes (Err Memory) n = FitsFrame n × (inline_size < length (notice_payload n))
