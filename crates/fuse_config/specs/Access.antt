-- The option of a mount that goes with an access rule.
use Rattle.std.specs.Prelude.{ℕ, List, Option, None, Some, codes}
use Rattle.fuse_config.specs.declared.session_acl.SessionACL.{SessionACL}
use Rattle.fuse_config.specs.declared.session_acl.SessionACL.TheVariants.{All, RootAndOwner, Owner}

-- the kernel passes on the requests of others than the owner where it is mounted with `allow_other`
abbrev pub mount_option_of : SessionACL → Option (List ℕ)
mount_option_of All = Some (codes "allow_other")
mount_option_of RootAndOwner = Some (codes "allow_other")
mount_option_of Owner = None
