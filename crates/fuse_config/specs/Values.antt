-- What INIT negotiates, as plain values.
use Rattle.std.specs.Prelude.{ℕ, Option}
use Rattle.fuse_wire.specs.declared.newtypes.Version.{Version}

-- the bits offered, the kernel's version and readahead, and what the filesystem can set; the granularity is in nanoseconds
pub record Configuration : Type 0 where
  pub offered : ℕ
  pub kernel_abi : Version
  pub kernel_readahead : ℕ
  pub requested : ℕ
  pub max_readahead : ℕ
  pub max_background : ℕ
  pub congestion_threshold : Option ℕ
  pub max_write : ℕ
  pub time_granularity : ℕ
  pub max_stack_depth : ℕ
