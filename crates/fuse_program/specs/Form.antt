-- The words that start the program, `serve THREADS ACL OWNER PAGE`, `gen SEED COUNT` or `load SEED COUNT THREADS`, as lists of bytes.
use Rattle.std.specs.Prelude.{◌≡◌, ℕ, ◌+◌, ◌-◌, ◌*◌, ◌&&◌, List, [], ◌∷◌, Option, None, Some, Bool, length, nat_lt, if◌then◌else◌, codes}
use Rattle.std.specs.Str.{bytes_eq}
use Rattle.fuse_config.specs.declared.session_acl.SessionACL.{SessionACL}
use Rattle.fuse_config.specs.declared.session_acl.SessionACL.TheVariants.{All, RootAndOwner, Owner}
use Rattle.fuse_program.specs.declared.arguments.ServeForm.{ServeForm}
use Rattle.fuse_program.specs.declared.arguments.GenForm.{GenForm}
use Rattle.fuse_program.specs.declared.arguments.LoadForm.{LoadForm}

-- a byte from '0' to '9'
abbrev pub is_digit : ℕ → Bool
is_digit byte = nat_lt 47 byte && nat_lt byte 58

-- the value in base ten of these digits, written after digits of the value `front`; none where a byte is no digit
abbrev pub value_after : ℕ → List ℕ → Option ℕ
value_after front [] = Some front
value_after front (byte ∷ bytes) = if is_digit byte then value_after (10 * front + (byte - 48)) bytes else None

-- a number: one to ten digits
abbrev pub decimal_of : List ℕ → Option ℕ
decimal_of bytes = if nat_lt 0 (length bytes) && nat_lt (length bytes) 11 then value_after 0 bytes else None

-- a number within two limits
abbrev pub within : ℕ → ℕ → Option ℕ → Option ℕ
within least most None = None
within least most (Some value) = if nat_lt value least then None else if nat_lt most value then None else Some value

abbrev pub number_within : ℕ → ℕ → List ℕ → Option ℕ
number_within least most bytes = within least most (decimal_of bytes)

-- whose requests are served
abbrev pub acl_of : List ℕ → Option SessionACL
acl_of bytes =
    if bytes_eq bytes (codes "all") then Some All
    else if bytes_eq bytes (codes "root") then Some RootAndOwner
    else if bytes_eq bytes (codes "owner") then Some Owner
    else None

-- a form has all of its parts
abbrev pub formed : Option ℕ → Option SessionACL → Option ℕ → Option ℕ → Option ServeForm
formed (Some threads) (Some acl) (Some owner) (Some page) = Some record { threads = threads; acl = acl; owner = owner; page = page }
formed _ _ _ _ = None

-- the form of `serve` that the words are: five of them, `serve`, at most 1024 threads, and a page that is not empty
abbrev pub form_of : List (List ℕ) → Option ServeForm
form_of (serve ∷ threads ∷ acl ∷ owner ∷ page ∷ []) =
    if bytes_eq serve (codes "serve")
    then formed (number_within 0 1024 threads) (acl_of acl) (number_within 0 4294967295 owner) (number_within 1 4294967295 page)
    else None
form_of _ = None

-- a form of `gen` has both of its parts
abbrev pub gen_formed : Option ℕ → Option ℕ → Option GenForm
gen_formed (Some seed) (Some count) = Some record { seed = seed; count = count }
gen_formed _ _ = None

-- the form of `gen` that the words are: three of them, `gen`, a seed below 2^31, and at most 65535 requests
abbrev pub gen_form_of : List (List ℕ) → Option GenForm
gen_form_of (gen ∷ seed ∷ count ∷ []) =
    if bytes_eq gen (codes "gen") then gen_formed (number_within 0 2147483647 seed) (number_within 0 65535 count) else None
gen_form_of _ = None

-- a form of `load` has all of its parts
abbrev pub load_formed : Option ℕ → Option ℕ → Option ℕ → Option LoadForm
load_formed (Some seed) (Some count) (Some threads) = Some record { seed = seed; count = count; threads = threads }
load_formed _ _ _ = None

-- the form of `load` that the words are: four of them, `load`, a seed and a number of requests as for `gen`, and at most 1024 threads
abbrev pub load_form_of : List (List ℕ) → Option LoadForm
load_form_of (load ∷ seed ∷ count ∷ threads ∷ []) =
    if bytes_eq load (codes "load")
    then load_formed (number_within 0 2147483647 seed) (number_within 0 65535 count) (number_within 0 1024 threads)
    else None
load_form_of _ = None

-- the words are none of these
abbrev pub IsNoForm : List (List ℕ) → Type 0
IsNoForm words = (form_of words ≡ None) × (gen_form_of words ≡ None) × (load_form_of words ≡ None)
