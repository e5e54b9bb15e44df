-- Who asks: what a filesystem is told of every request.
use Rattle.std.specs.Prelude.{ℕ}
use Rattle.fuse_wire.specs.declared.newtypes.RequestId.{RequestId}
use Rattle.fuse_header.specs.declared.request.Request.{Request}

abbrev pub unique_of : Request → RequestId
unique_of request = request.unique

abbrev pub uid_of : Request → ℕ
uid_of request = request.uid

abbrev pub gid_of : Request → ℕ
gid_of request = request.gid

abbrev pub pid_of : Request → ℕ
pid_of request = request.pid
