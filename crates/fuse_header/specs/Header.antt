-- A message's header and body (`struct fuse_in_header` of `fuse.h`).
use Rattle.std.specs.Prelude.{ℕ, ◌-◌, List, Result, Ok, Err, length, take, drop, nat_lt, if◌then◌else◌}
use Rattle.fuse_wire.specs.Numbers.{number}
use Rattle.fuse_header.specs.declared.error.RequestError.{RequestError}
use Rattle.fuse_header.specs.declared.error.RequestError.TheVariants.{ShortReadHeader, ShortRead, InsufficientData}
use Rattle.fuse_header.specs.declared.header.Header.{Header}
use Rattle.fuse_header.specs.declared.request.Request.{Request}

-- the fields at their places: len4 opcode4 unique8 nodeid8 uid4 gid4 pid4 _4
abbrev pub header_fields : List ℕ → Header
header_fields m = record {
  opcode = number m 4 4;
  unique = record { 0 = number m 8 8 };
  nodeid = record { 0 = number m 16 8 };
  uid = number m 24 4;
  gid = number m 28 4;
  pid = number m 32 4;
}

-- the header, or why there is none
abbrev pub header : List ℕ → Result Header RequestError
header m =
    if nat_lt (length m) 40 then Err (ShortReadHeader (length m))
    else if nat_lt (length m) (number m 0 4) then Err (ShortRead (length m) (number m 0 4))
    else if nat_lt (number m 0 4) 40 then Err InsufficientData
    else Ok (header_fields m)

-- the bytes after the header that it counts
abbrev pub body : List ℕ → List ℕ
body m = take (number m 0 4 - 40) (drop 40 m)

-- who asks
abbrev pub request_of : Header → Request
request_of h = record { unique = h.unique; uid = h.uid; gid = h.gid; pid = h.pid }
