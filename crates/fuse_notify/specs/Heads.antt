-- What stands in a notice's payload in front of its name or data (the structs of `fuse.h`).
use Rattle.std.specs.Prelude.{ℕ, ◌++◌, List, replicate}
use Rattle.std.specs.Int.{w32, w64, to_le_bytes}

-- parent8 namelen4 _4: `struct fuse_notify_inval_entry_out`
unfoldable pub entry_head : (parent namelen : ℕ) → List ℕ
entry_head parent namelen = to_le_bytes w64 parent ++ to_le_bytes w32 namelen ++ replicate 4 0

-- nodeid8 offset8 size4 _4: `struct fuse_notify_store_out`; parent8 child8 namelen4 _4: `struct fuse_notify_delete_out`
unfoldable pub wide_head : (first second size : ℕ) → List ℕ
wide_head first second size = to_le_bytes w64 first ++ to_le_bytes w64 second ++ to_le_bytes w32 size ++ replicate 4 0
