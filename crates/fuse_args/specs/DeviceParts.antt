-- The parts of requests of locks, blocks and devices: the structs of `fuse.h` field by field.
use Rattle.std.specs.Prelude.{ℕ, List, Option}
use Rattle.std.specs.Int.{w32}
use Rattle.fuse_wire.specs.Numbers.{number, signed}
use Rattle.fuse_args.specs.Arguments.{fixed}
use Rattle.fuse_args.specs.declared.fixed.devices.BMapArguments.{BMapArguments}
use Rattle.fuse_args.specs.declared.fixed.devices.GetLkArguments.{GetLkArguments}
use Rattle.fuse_args.specs.declared.fixed.devices.IoCtlArguments.{IoCtlArguments}
use Rattle.fuse_args.specs.declared.fixed.devices.PollArguments.{PollArguments}

-- GETLK, SETLK and SETLKW: fh8 owner8 start8 end8 typ4i pid4 lk_flags4 _4 (`struct fuse_lk_in`)
abbrev pub getlk_at : List ℕ → Option (GetLkArguments × List ℕ)
getlk_at = fixed 48 (λ b. record {
  fh = number b 0 8;
  owner = number b 8 8;
  start = number b 16 8;
  end = number b 24 8;
  typ = signed w32 b 32;
  pid = number b 36 4;
  lk_flags = number b 40 4;
})

-- BMAP: block8 blocksize4 _4 (`struct fuse_bmap_in`)
abbrev pub bmap_at : List ℕ → Option (BMapArguments × List ℕ)
bmap_at = fixed 16 (λ b. record { block = number b 0 8; blocksize = number b 8 4 })

-- IOCTL: fh8 flags4 cmd4 arg8 in_size4 out_size4 (`struct fuse_ioctl_in`)
abbrev pub ioctl_at : List ℕ → Option (IoCtlArguments × List ℕ)
ioctl_at = fixed 32 (λ b. record {
  fh = number b 0 8;
  flags = number b 8 4;
  cmd = number b 12 4;
  arg = number b 16 8;
  in_size = number b 24 4;
  out_size = number b 28 4;
})

-- POLL: fh8 kh8 flags4 events4 (`struct fuse_poll_in`)
abbrev pub poll_at : List ℕ → Option (PollArguments × List ℕ)
poll_at = fixed 24 (λ b. record {
  fh = number b 0 8;
  kh = number b 8 8;
  flags = number b 16 4;
  events = number b 20 4;
})
