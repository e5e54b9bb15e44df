-- What is compared and hashed as a number.
use Rattle.std.specs.Prelude.{ℕ, pos, Bool, true, List, [], ◌∷◌, Option, Some, IsTrue, ◌≡◌, ◌==◌, ◌&&◌, ◌++◌, ◌↔◌}
use Rattle.std.specs.declared.cmp.Ordering.{Ordering}
use Rattle.std.specs.Ordering.{int_eq, nat_cmp, ordering_then}
use Rattle.std.specs.Hash as fed
use Rattle.fuse_wire.specs.declared.file_attr.FileAttr.{FileAttr}
use Rattle.fuse_wire.specs.declared.file_attr.FileType.{FileType}

-- the equality, the order and the hash of a type over a u64 are those of the number
pub record AsNumber {A : Type 0} (number : A → ℕ) (eq : A → A → Bool) (partial_cmp : A → A → Option Ordering)
    (cmp : A → A → Ordering) (hash_input : A → List (List ℕ)) : Type 0 where
  pub equality : (x y : A) → eq x y ≡ (number x == number y)
  pub partial_order : (x y : A) → partial_cmp x y ≡ Some (nat_cmp (number x) (number y))
  pub order : (x y : A) → cmp x y ≡ nat_cmp (number x) (number y)
  pub hash : (x : A) → hash_input x ≡ fed.u64 (number x)

-- the same of a pair of u32: the second counts in the order where the first is the same
pub record AsTwoNumbers {A : Type 0} (first : A → ℕ) (second : A → ℕ) (eq : A → A → Bool)
    (partial_cmp : A → A → Option Ordering) (cmp : A → A → Ordering) (hash_input : A → List (List ℕ)) : Type 0 where
  pub equality : (x y : A) → eq x y ≡ (first x == first y && second x == second y)
  pub partial_order : (x y : A) → partial_cmp x y ≡ Some (cmp x y)
  pub order : (x y : A) → cmp x y ≡ ordering_then (nat_cmp (first x) (first y)) (nat_cmp (second x) (second y))
  pub hash : (x : A) → hash_input x ≡ fed.u32 (first x) ++ fed.u32 (second x)

-- the equality and the order of a type are those of the numbers that its values stand for
pub record OrderedAs {A : Type 0} {N : Type 0} (number : A → N) (equals : N → N → Bool) (compare : N → N → Ordering)
    (eq : A → A → Bool) (partial_cmp : A → A → Option Ordering) (cmp : A → A → Ordering) : Type 0 where
  pub equality : (x y : A) → eq x y ≡ equals (number x) (number y)
  pub partial_order : (x y : A) → partial_cmp x y ≡ Some (compare (number x) (number y))
  pub order : (x y : A) → cmp x y ≡ compare (number x) (number y)

-- the equality and the hash of a set of flags or of a flag number are those of its bits
pub record AsBits {A : Type 0} {N : Type 0} (bits : A → N) (equals : N → N → Bool) (feed : N → List (List ℕ)) (eq : A → A → Bool)
    (hash_input : A → List (List ℕ)) : Type 0 where
  pub equality : (x y : A) → eq x y ≡ equals (bits x) (bits y)
  pub hash : (x : A) → hash_input x ≡ feed (bits x)

-- the equality of a type says whether two values are the same
pub record SaysSame {A : Type 0} (eq : A → A → Bool) : Type 0 where
  pub same : (x y : A) → IsTrue (eq x y) ↔ (x ≡ y)

-- what an enum's variant is hashed as: its number, from 0 in the order of the variants
abbrev pub variant : ℕ → List (List ℕ)
variant number = fed.isize (pos number)

-- all of these
abbrev pub every : List Bool → Bool
every [] = true
every (b ∷ bs) = b && every bs

-- attributes are equal where each field is
abbrev pub same_attributes : (same_kind : FileType → FileType → Bool) → FileAttr → FileAttr → Bool
same_attributes same_kind x y = every (
    (x.ino.0 == y.ino.0) ∷ (x.size == y.size) ∷ (x.blocks == y.blocks)
    ∷ int_eq x.atime.0 y.atime.0 ∷ int_eq x.mtime.0 y.mtime.0 ∷ int_eq x.ctime.0 y.ctime.0 ∷ int_eq x.crtime.0 y.crtime.0
    ∷ same_kind x.kind y.kind ∷ (x.perm == y.perm) ∷ (x.nlink == y.nlink) ∷ (x.uid == y.uid) ∷ (x.gid == y.gid)
    ∷ (x.rdev == y.rdev) ∷ (x.blksize == y.blksize) ∷ (x.flags == y.flags) ∷ [])
