-- How large frames are.
use Rattle.std.specs.Prelude.{ℕ, ◌-◌, ◌^◌}

-- the bytes of a frame's header: `struct fuse_out_header` of `fuse.h`
abbrev pub out_header_size : ℕ
out_header_size = 16

-- the bytes of the longest payload: the length field has 4 bytes, and counts the header too
abbrev pub max_payload : ℕ
max_payload = 2 ^ 32 - 1 - out_header_size

-- the bytes of the longest payload that is held without memory of its own
abbrev pub inline_size : ℕ
inline_size = 144

-- the bytes in front of those that an ioctl gives back: `struct fuse_ioctl_out` of `fuse.h`
abbrev pub ioctl_out_size : ℕ
ioctl_out_size = 16
