-- Options of a mount, as `man mount` and `man mount.fuse` have them: their texts, groups, flags and contraries.
use Rattle.std.specs.Prelude.{ℕ, ◌==◌, ◌||◌, ◌++◌, List, [], ◌∷◌, Option, None, Some, Bool, true, not, is_some, option_map, unwrap_or, codes, if◌then◌else◌}
use Rattle.std.specs.Str.{bytes_eq}
use Rattle.fuse_config.specs.declared.mount_option.MountOption.{MountOption}
use Rattle.fuse_config.specs.declared.mount_option.MountOption.TheVariants.{FSName, Subtype, CUSTOM, AutoUnmount, DefaultPermissions}
use Rattle.fuse_config.specs.declared.mount_option.MountOption.TheVariants.{Dev, NoDev, Suid, NoSuid, RO, RW, Exec, NoExec, Atime, NoAtime}
use Rattle.fuse_config.specs.declared.mount_option.MountOption.TheVariants.{DirSync, Sync, Async}
use Rattle.fuse_config.specs.declared.mount_option.MountOptionGroup.{MountOptionGroup}
use Rattle.fuse_config.specs.declared.mount_option.MountOptionGroup.TheVariants.{KernelOption, KernelFlag, Fusermount}

-- what stands before the name of a source, and before that of a subtype
abbrev pub fsname_front : List ℕ
fsname_front = codes "fsname="

abbrev pub subtype_front : List ℕ
subtype_front = codes "subtype="

-- the text of an option
abbrev pub text_of : MountOption → List ℕ
text_of (FSName name) = fsname_front ++ name
text_of (Subtype name) = subtype_front ++ name
text_of (CUSTOM text) = text
text_of AutoUnmount = codes "auto_unmount"
text_of DefaultPermissions = codes "default_permissions"
text_of Dev = codes "dev"
text_of NoDev = codes "nodev"
text_of Suid = codes "suid"
text_of NoSuid = codes "nosuid"
text_of RO = codes "ro"
text_of RW = codes "rw"
text_of Exec = codes "exec"
text_of NoExec = codes "noexec"
text_of Atime = codes "atime"
text_of NoAtime = codes "noatime"
text_of DirSync = codes "dirsync"
text_of Sync = codes "sync"
text_of Async = codes "async"

-- the options that hold no text
abbrev pub plain_options : List MountOption
plain_options = AutoUnmount ∷ DefaultPermissions ∷ Dev ∷ NoDev ∷ Suid ∷ NoSuid ∷ RO ∷ RW ∷ Exec ∷ NoExec ∷ Atime ∷ NoAtime
    ∷ DirSync ∷ Sync ∷ Async ∷ []

-- the first of these options that has this text
abbrev pub option_named : List ℕ → List MountOption → Option MountOption
option_named text [] = None
option_named text (option ∷ options) = if bytes_eq text (text_of option) then Some option else option_named text options

-- what comes after this front, where a text begins with it
abbrev pub after_front : (front text : List ℕ) → Option (List ℕ)
after_front [] text = Some text
after_front (x ∷ front) [] = None
after_front (x ∷ front) (y ∷ text) = if y == x then after_front front text else None

-- the option that a text names: one without a text, the name of a source, the name of a subtype, or one of no other name
abbrev pub option_of : List ℕ → MountOption
option_of text = unwrap_or (option_named text plain_options)
    (unwrap_or (option_map FSName (after_front fsname_front text))
    (unwrap_or (option_map Subtype (after_front subtype_front text)) (CUSTOM text)))

-- a text that names an option which is not CUSTOM
abbrev pub names_another : List ℕ → Bool
names_another text = is_some (option_named text plain_options) || is_some (after_front fsname_front text)
    || is_some (after_front subtype_front text)

-- an option that its own text names: each but a CUSTOM whose text names another
abbrev pub is_read_back : MountOption → Bool
is_read_back (CUSTOM text) = not (names_another text)
is_read_back _ = true

-- what takes an option
abbrev pub group_of : MountOption → MountOptionGroup
group_of (FSName _) = Fusermount
group_of (Subtype _) = Fusermount
group_of AutoUnmount = Fusermount
group_of (CUSTOM _) = KernelOption
group_of DefaultPermissions = KernelOption
group_of _ = KernelFlag

-- the flag of `mount(2)` that an option is (`linux/mount.h`): 0 where it is what holds without a flag, and none for the others
abbrev pub flag_of : MountOption → Option ℕ
flag_of RO = Some 1
flag_of NoSuid = Some 2
flag_of NoDev = Some 4
flag_of NoExec = Some 8
flag_of Sync = Some 16
flag_of DirSync = Some 128
flag_of NoAtime = Some 1024
flag_of Dev = Some 0
flag_of Suid = Some 0
flag_of RW = Some 0
flag_of Exec = Some 0
flag_of Atime = Some 0
flag_of Async = Some 0
flag_of _ = None

-- the option that says the contrary of this one
abbrev pub conflict_of : MountOption → Option MountOption
conflict_of Dev = Some NoDev
conflict_of NoDev = Some Dev
conflict_of Suid = Some NoSuid
conflict_of NoSuid = Some Suid
conflict_of RO = Some RW
conflict_of RW = Some RO
conflict_of Exec = Some NoExec
conflict_of NoExec = Some Exec
conflict_of Atime = Some NoAtime
conflict_of NoAtime = Some Atime
conflict_of Sync = Some Async
conflict_of Async = Some Sync
conflict_of _ = None
