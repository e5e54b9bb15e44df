-- The rows of BATCH_FORGET (`struct fuse_forget_one` of `fuse.h`).
use Rattle.std.specs.Prelude.{ℕ, zero, suc, ◌+◌, ◌/◌, List, [], ◌∷◌, length}
use Rattle.fuse_wire.specs.Numbers.{number}
use Rattle.fuse_request.specs.declared.forgets.ForgetList.{ForgetList}
use Rattle.fuse_request.specs.declared.forgets.ForgetOne.{ForgetOne}

-- so many rows from a place on: nodeid8 nlookup8
unfoldable pub rows_from : (count at : ℕ) → List ℕ → List (ℕ × ℕ)
rows_from zero at bytes = []
rows_from (suc count) at bytes = (number bytes at 8, number bytes (at + 8) 8) ∷ rows_from count (at + 16) bytes

-- the rows that bytes are: a node and how many lookups of it are given back, each
abbrev pub rows_in : List ℕ → List (ℕ × ℕ)
rows_in bytes = rows_from (length bytes / 16) 0 bytes

-- the bytes of the rows
abbrev pub row_bytes : ForgetList → List ℕ
row_bytes list = list.rows.now

-- the rows of a list
abbrev pub rows_of : ForgetList → List (ℕ × ℕ)
rows_of list = rows_in (row_bytes list)

-- one row
abbrev pub row_of : ForgetOne → ℕ × ℕ
row_of one = (one.nodeid.0, one.nlookup)
