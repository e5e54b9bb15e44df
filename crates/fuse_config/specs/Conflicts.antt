-- Which options of a mount conflict.
use Rattle.std.specs.Prelude.{◌≡◌, ◌≢◌, ◌≤◌, ◌<◌, ℕ, List, Some}
use Rattle.std.specs.List.{slice_get}
use Rattle.fuse_config.specs.declared.mount_option.MountOption.{MountOption}
use Rattle.fuse_config.specs.Options.{conflict_of}

-- the options at these two places say the contrary of each other, and the second stands behind the first
pub record ConflictAt (options : List MountOption) (first second : ℕ) : Type 0 where
  pub option : MountOption
  pub contrary : MountOption
  pub at_first : slice_get options first ≡ Some option
  pub at_second : slice_get options second ≡ Some contrary
  pub contraries : conflict_of option ≡ Some contrary
  pub behind : first < second

-- no two options conflict
abbrev pub NoConflict : List MountOption → Type 0
NoConflict options = (first second : ℕ) → ¬ (ConflictAt options first second)

-- the conflict that is named: the least place whose option conflicts with a later one, and the least such later place
pub record FirstConflict (options : List MountOption) (first second : ℕ) : Type 0 where
  pub conflict : ConflictAt options first second
  pub least_first : (i j : ℕ) → ConflictAt options i j → first ≤ i
  pub least_second : (j : ℕ) → ConflictAt options first j → second ≤ j

-- an option is not listed
abbrev pub NotListed : MountOption → List MountOption → Type 0
NotListed option options = (i : ℕ) → slice_get options i ≢ Some option

-- the least place at which an option is listed
pub record FirstListed (option : MountOption) (options : List MountOption) (place : ℕ) : Type 0 where
  pub here : slice_get options place ≡ Some option
  pub least : (i : ℕ) → slice_get options i ≡ Some option → place ≤ i

-- no option that is listed says the contrary of this one
abbrev pub NoContrary : MountOption → List MountOption → Type 0
NoContrary option options = (contrary : MountOption) → conflict_of option ≡ Some contrary → NotListed contrary options

-- the least place at which the contrary of this one is listed
abbrev pub FirstContrary : MountOption → List MountOption → (place : ℕ) → Type 0
FirstContrary option options place =
    (contrary : MountOption) × (conflict_of option ≡ Some contrary) × FirstListed contrary options place
