use Rattle.std.proofs.Common.{sym, ap}
use Rattle.fuse_hello.specs.Tree.{contents}
use Rattle.fuse_hello.proofs.hello.contents.Goals as goal

pub returns-in-3 : goal.returns-in-3
returns-in-3 c = sym (ap contents c.in-3.is)
