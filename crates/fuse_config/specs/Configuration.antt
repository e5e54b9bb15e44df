-- A configuration at the start, and the payloads of the INIT reply (`struct fuse_init_out` of `fuse.h`).
use Rattle.std.specs.Prelude.{ℕ, ◌+◌, ◌-◌, ◌*◌, ◌/◌, ◌%◌, ◌^◌, ◌++◌, ◌==◌, List, Option, None, Some, min, max, take, nat_lt, if◌then◌else◌, replicate}
use Rattle.std.specs.Int.{w16, w32, to_le_bytes}
use Rattle.std.specs.Int.RustNames.{bit_and, bit_or}
use Rattle.fuse_wire.specs.declared.consts.TheConstants.{FUSE_KERNEL_VERSION, FUSE_KERNEL_MINOR_VERSION, MAX_WRITE_SIZE}
use Rattle.fuse_wire.specs.Flags.{FUSE_ASYNC_READ, FUSE_BIG_WRITES, FUSE_INIT_EXT, FUSE_MAX_PAGES, FUSE_PASSTHROUGH}
use Rattle.fuse_wire.specs.declared.newtypes.Version.{Version}
use Rattle.fuse_config.specs.Values.{Configuration}

-- all capabilities that have a name: the bits 0 to 42
abbrev pub known : ℕ
known = 2 ^ 43 - 1

-- those that a filesystem is told: INIT_EXT says only that there are more than 32
abbrev pub known_without_ext : ℕ
known_without_ext = known - FUSE_INIT_EXT

-- before the filesystem has its say
abbrev pub start : ℕ → ℕ → Version → Configuration
start offered readahead version = record {
  offered = offered;
  kernel_abi = version;
  kernel_readahead = readahead;
  requested = bit_or (bit_or FUSE_ASYNC_READ FUSE_BIG_WRITES) (bit_and offered FUSE_MAX_PAGES);
  max_readahead = readahead;
  max_background = 16;
  congestion_threshold = None;
  max_write = MAX_WRITE_SIZE;
  time_granularity = 1;
  max_stack_depth = 0;
}

-- what is granted: what was requested, and INIT_EXT, as far as it was offered
abbrev pub granted_of : Configuration → ℕ → ℕ
granted_of config offered = bit_and (bit_or config.requested FUSE_INIT_EXT) offered

-- the congestion threshold: the one that was set, or three quarters of max_background, and never above max_background
abbrev pub least_threshold : Option ℕ → ℕ → ℕ
least_threshold None most = most * 3 / 4
least_threshold (Some set) most = min set most

abbrev pub threshold_of : Configuration → ℕ
threshold_of config = least_threshold config.congestion_threshold config.max_background

-- how many pages the larger of max_write and max_readahead takes, at most 65535
abbrev pub max_pages_of : Configuration → ℕ → ℕ
max_pages_of config page = min 65535 ((max config.max_write config.max_readahead - 1) / page + 1)

-- the stack depth, which is sent where PASSTHROUGH is granted
abbrev pub depth_of : Configuration → ℕ → ℕ
depth_of config offered = if bit_and (granted_of config offered) FUSE_PASSTHROUGH == FUSE_PASSTHROUGH then config.max_stack_depth else 0

-- major4 minor4 max_readahead4 flags4 max_background2 congestion_threshold2 max_write4 time_gran4 max_pages2 _2 flags2 4 max_stack_depth4 _24
abbrev pub init_layout : (max_readahead flags max_background threshold max_write time_gran max_pages flags2 depth : ℕ) → List ℕ
init_layout max_readahead flags max_background threshold max_write time_gran max_pages flags2 depth =
    to_le_bytes w32 FUSE_KERNEL_VERSION ++ to_le_bytes w32 FUSE_KERNEL_MINOR_VERSION ++ to_le_bytes w32 max_readahead ++ to_le_bytes w32 flags
    ++ to_le_bytes w16 max_background ++ to_le_bytes w16 threshold ++ to_le_bytes w32 max_write ++ to_le_bytes w32 time_gran
    ++ to_le_bytes w16 max_pages ++ replicate 2 0 ++ to_le_bytes w32 flags2 ++ to_le_bytes w32 depth ++ replicate 24 0

-- how many bytes these are
abbrev pub init_out_size : ℕ
init_out_size = 64

-- how many of them an earlier minor version takes (`FUSE_COMPAT_22_INIT_OUT_SIZE` of `fuse.h`)
abbrev pub compat_22_init_out_size : ℕ
compat_22_init_out_size = 24

-- the first minor version that takes them all
abbrev pub long_reply_minor : ℕ
long_reply_minor = 23

-- how many of these bytes a kernel of that minor version takes
abbrev pub init_payload_length : ℕ → ℕ
init_payload_length minor = if nat_lt minor long_reply_minor then compat_22_init_out_size else init_out_size

-- the payload of the INIT reply
unfoldable pub init_payload : Configuration → (offered minor page : ℕ) → List ℕ
init_payload config offered minor page =
    let granted = granted_of config offered in
    take (init_payload_length minor) (init_layout
    config.max_readahead (granted % 2 ^ 32) config.max_background (threshold_of config) config.max_write
    config.time_granularity (max_pages_of config page) (granted / 2 ^ 32) (depth_of config offered))

-- the reply to a kernel of a later major version: the version that is spoken, and zeros
abbrev pub version_payload : List ℕ
version_payload = to_le_bytes w32 FUSE_KERNEL_VERSION ++ to_le_bytes w32 FUSE_KERNEL_MINOR_VERSION ++ replicate 56 0
