-- INIT: what a kernel offers (`struct fuse_init_in` of `fuse.h`).
use Rattle.std.specs.Prelude.{ℕ, ◌+◌, ◌*◌, ◌^◌, if◌then◌else◌}
use Rattle.fuse_args.specs.declared.fixed.InitArguments.{InitArguments}
use Rattle.fuse_wire.specs.declared.newtypes.Version.{Version}
use Rattle.fuse_wire.specs.Flags.{FUSE_INIT_EXT}
use Rattle.fuse_request.specs.Fields.{has_flag}
use Rattle.fuse_request.specs.declared.operation.Init.{Init}

-- the arguments that it carries
abbrev pub arguments_of : Init → InitArguments
arguments_of init = init.arguments

-- the capabilities offered: `flags`, and `flags2` above them, which is valid where `flags` has `FUSE_INIT_EXT`
abbrev pub offered : InitArguments → ℕ
offered init = if has_flag FUSE_INIT_EXT init.flags then init.flags + init.flags2 * 2 ^ 32 else init.flags

-- the kernel's version
abbrev pub version : InitArguments → Version
version init = record { 0 = init.major; 1 = init.minor }
