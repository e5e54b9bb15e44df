-- What the filesystem can set: the configuration after each setter, and what it answers. That is the value before. Where the
-- setter refuses, the configuration is as it was, and the answer is a value in its place: the limit that was passed, or
-- the power of ten below.
use Rattle.std.specs.Prelude.{ℕ, zero, suc, ◌-◌, ◌^◌, ◌==◌, Some, Result, Ok, Err, nat_lt, if◌then◌else◌}
use Rattle.std.specs.Int.RustNames.{bit_and, bit_or}
use Rattle.fuse_wire.specs.Times.{nanos_per_second}
use Rattle.fuse_wire.specs.declared.consts.TheConstants.{MAX_WRITE_SIZE}
use Rattle.fuse_wire.specs.declared.flags.init_flags.InitFlags.{InitFlags}
use Rattle.fuse_config.specs.Values.{Configuration}
use Rattle.fuse_config.specs.Configuration.{known, threshold_of}

-- how many filesystems may be stacked (`FILESYSTEM_MAX_STACK_DEPTH` of the kernel's `fs.h`)
abbrev pub deepest_stack : ℕ
deepest_stack = 2

abbrev pub set_max_stack_depth : ℕ → Configuration → Configuration × Result ℕ ℕ
set_max_stack_depth depth config =
    if nat_lt deepest_stack depth then (config, Err deepest_stack)
    else (record config { max_stack_depth = depth }, Ok config.max_stack_depth)

abbrev pub set_max_write : ℕ → Configuration → Configuration × Result ℕ ℕ
set_max_write bytes config =
    if bytes == 0 then (config, Err 1)
    else if nat_lt MAX_WRITE_SIZE bytes then (config, Err MAX_WRITE_SIZE)
    else (record config { max_write = bytes }, Ok config.max_write)

-- 0 is refused with 1, even where the kernel's own readahead is 0
abbrev pub set_max_readahead : ℕ → Configuration → Configuration × Result ℕ ℕ
set_max_readahead bytes config =
    if bytes == 0 then (config, Err 1)
    else if nat_lt config.kernel_readahead bytes then (config, Err config.kernel_readahead)
    else (record config { max_readahead = bytes }, Ok config.max_readahead)

abbrev pub set_max_background : ℕ → Configuration → Configuration × Result ℕ ℕ
set_max_background requests config =
    if requests == 0 then (config, Err 1)
    else (record config { max_background = requests }, Ok config.max_background)

-- the value before is the threshold that held, whether it was set or not
abbrev pub set_congestion_threshold : ℕ → Configuration → Configuration × Result ℕ ℕ
set_congestion_threshold requests config =
    if requests == 0 then (config, Err 1)
    else (record config { congestion_threshold = Some requests }, Ok (threshold_of config))

-- the greatest power of ten that is at most n, of those up to 10^most; 1 where n is 0
unfoldable pub power_up_to : (most n : ℕ) → ℕ
power_up_to zero n = 1
power_up_to (suc most) n = if nat_lt n (10 ^ suc most) then power_up_to most n else 10 ^ suc most

-- the greatest power of ten that is at most n, for n up to a second
abbrev pub power_of_ten_below : ℕ → ℕ
power_of_ten_below n = power_up_to 9 n

-- a power of ten in nanoseconds, at most a second
abbrev pub set_time_granularity : ℕ → Configuration → Configuration × Result ℕ ℕ
set_time_granularity nanos config =
    if nanos == 0 then (config, Err 1)
    else if nat_lt nanos_per_second nanos then (config, Err nanos_per_second)
    else if nanos == power_of_ten_below nanos then (record config { time_granularity = nanos }, Ok config.time_granularity)
    else (config, Err (power_of_ten_below nanos))

-- the known bits that were not offered
abbrev pub known_not_offered : ℕ → ℕ
known_not_offered offered = bit_and (2 ^ 64 - 1 - offered) known

-- offered capabilities alone may be requested; a refusal names the known ones among those that were not offered
abbrev pub add_capabilities : InitFlags → Configuration → Configuration × Result (Unit {0}) InitFlags
add_capabilities flags config =
    if bit_and config.offered flags.0 == flags.0 then (record config { requested = bit_or config.requested flags.0 }, Ok tt)
    else (config, Err record { 0 = bit_and flags.0 (known_not_offered config.offered) })
