-- Which options their own texts name.
use Rattle.std.proofs.Common.{◌≡◌, ◌≢◌, ◌||◌, ◌↔◌, ℕ, List, [], ◌∷◌, Option, Some, None}
use Rattle.std.proofs.Common.{Bool, true, false, IsTrue, not, is_some, option_map, unwrap_or, if◌then◌else◌, refl}
use Rattle.std.specs.Str.{bytes_eq}
use Rattle.fuse_config.specs.declared.mount_option.MountOption.{MountOption}
use Rattle.fuse_config.specs.declared.mount_option.MountOption.TheVariants.{FSName, Subtype, CUSTOM, AutoUnmount, DefaultPermissions}
use Rattle.fuse_config.specs.declared.mount_option.MountOption.TheVariants.{Dev, NoDev, Suid, NoSuid, RO, RW, Exec, NoExec, Atime, NoAtime}
use Rattle.fuse_config.specs.declared.mount_option.MountOption.TheVariants.{DirSync, Sync, Async}
use Rattle.fuse_config.specs.Options.{after_front, fsname_front, is_read_back, option_named, option_of, plain_options, subtype_front, text_of}

-- no option of a list is CUSTOM
abbrev NoneCustom : List MountOption → Type 0
NoneCustom [] = Unit {0}
NoneCustom (option ∷ options) = ((text : List ℕ) → option ≢ CUSTOM text) × NoneCustom options

none_custom : NoneCustom plain_options
none_custom = (
  λ t e. cc,
  (
    λ t e. cc,
    (
      λ t e. cc,
      (
        λ t e. cc,
        (
          λ t e. cc,
          (
            λ t e. cc,
            (
              λ t e. cc,
              (
                λ t e. cc,
                (
                  λ t e. cc,
                  (
                    λ t e. cc,
                    (λ t e. cc, (λ t e. cc, (λ t e. cc, (λ t e. cc, (λ t e. cc, tt))))),
                  ),
                ),
              ),
            ),
          ),
        ),
      ),
    ),
  ),
)

-- a list without CUSTOM names none
named_once : (option : MountOption) (others : Option MountOption) (text : List ℕ) → option ≢ CUSTOM text → others ≢ Some (CUSTOM text) →
    (same : Bool) → (if same then Some option else others) ≢ Some (CUSTOM text)
named_once option others text this rest true e = let same : option ≡ CUSTOM text = cc e in this same
named_once option others text this rest false e = rest e

option_named-plain : (options : List MountOption) → NoneCustom options → (text : List ℕ) → option_named text options ≢ Some (CUSTOM text)
option_named-plain [] none text = λ e. cc e
option_named-plain (option ∷ options) none text =
    named_once option (option_named text options) text (none.0 text) (option_named-plain options none.1 text) (bytes_eq text (text_of option))

-- the choice is CUSTOM exactly where nothing else is there
chosen : (plain : Option MountOption) (source subtype : Option (List ℕ)) (text : List ℕ) → plain ≢ Some (CUSTOM text) →
    IsTrue (not (is_some plain || is_some source || is_some subtype))
    ↔ (unwrap_or plain (unwrap_or (option_map FSName source) (unwrap_or (option_map Subtype subtype) (CUSTOM text))) ≡ CUSTOM text)
chosen (Some option) source subtype text other = (λ t. cc t, λ e. absurd (other (cc e)))
chosen None (Some name) subtype text other = (λ t. cc t, λ e. cc e)
chosen None None (Some name) text other = (λ t. cc t, λ e. cc e)
chosen None None None text other = (λ t. refl, λ e. refl)

-- an option is read back from its own text, each but a CUSTOM whose text names another
pub read_back : (option : MountOption) → IsTrue (is_read_back option) ↔ (option_of (text_of option) ≡ option)
read_back (FSName name) = (λ t. refl, λ e. refl)
read_back (Subtype name) = (λ t. refl, λ e. refl)
read_back (CUSTOM text) =
    chosen (option_named text plain_options) (after_front fsname_front text) (after_front subtype_front text) text
    (option_named-plain plain_options none_custom text)
read_back AutoUnmount = (λ t. refl, λ e. refl)
read_back DefaultPermissions = (λ t. refl, λ e. refl)
read_back Dev = (λ t. refl, λ e. refl)
read_back NoDev = (λ t. refl, λ e. refl)
read_back Suid = (λ t. refl, λ e. refl)
read_back NoSuid = (λ t. refl, λ e. refl)
read_back RO = (λ t. refl, λ e. refl)
read_back RW = (λ t. refl, λ e. refl)
read_back Exec = (λ t. refl, λ e. refl)
read_back NoExec = (λ t. refl, λ e. refl)
read_back Atime = (λ t. refl, λ e. refl)
read_back NoAtime = (λ t. refl, λ e. refl)
read_back DirSync = (λ t. refl, λ e. refl)
read_back Sync = (λ t. refl, λ e. refl)
read_back Async = (λ t. refl, λ e. refl)
