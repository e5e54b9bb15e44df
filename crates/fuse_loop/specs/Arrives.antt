-- What the code finds a message after the handshake to be.
use Rattle.std.specs.Prelude.{◌≡◌, ℕ, List, Err}
use Rattle.fuse_header.specs.Header.{header}
use Rattle.fuse_loop.specs.Answering.{IsRequest}
use Rattle.fuse_loop.specs.Incoming.{incoming, id_of}
use Rattle.fuse_loop.specs.Incoming.Incoming.{Destroy as IsDestroy}
use Rattle.fuse_loop.specs.declared.incoming.Incoming.{Incoming}
use Rattle.fuse_loop.specs.declared.incoming.Incoming.TheVariants.{Broken, Destroy, Request}

abbrev pub Arrives : Incoming → List ℕ → Type 0
Arrives (Broken e) m = header m ≡ Err e
Arrives (Destroy id) m = (incoming m ≡ IsDestroy) × (id.0 ≡ id_of m)
Arrives Request m = IsRequest m
