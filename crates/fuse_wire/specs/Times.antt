-- Points in time, as the protocol has them: `atime` and `atimensec` of `struct fuse_attr`, and the like.
use Rattle.std.specs.Prelude.{ℕ, ℤ, pos, negsuc, ◌-◌, ◌^◌, ◌/◌, ◌%◌, ◌+ℤ◌, ◌*ℤ◌, nat_le, if◌then◌else◌}

-- the nanoseconds of a second
abbrev pub nanos_per_second : ℕ
nanos_per_second = 1000000000

-- the seconds and nanoseconds of a time in nanoseconds: the seconds are rounded down, so that the nanoseconds are above them;
-- past the last second of an i64 its last moment, and before the first second that one
abbrev pub time_out : ℤ → ℤ × ℕ
time_out (pos n) =
    if nat_le (2 ^ 63) (n / nanos_per_second) then (pos (2 ^ 63 - 1), nanos_per_second - 1) else (pos (n / nanos_per_second), n % nanos_per_second)
time_out (negsuc n) =
    if nat_le (2 ^ 63) (n / nanos_per_second) then (negsuc (2 ^ 63 - 1), 0)
    else (negsuc (n / nanos_per_second), nanos_per_second - 1 - n % nanos_per_second)

-- the time in nanoseconds of so many seconds and nanoseconds
abbrev pub time_in : ℤ → ℕ → ℤ
time_in secs nanos = (secs *ℤ pos nanos_per_second) +ℤ pos nanos
