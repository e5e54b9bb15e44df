-- A directory with one file in it.
use Rattle.std.specs.Prelude.{◌==◌, ◌&&◌, ℕ, List, [], ◌∷◌, Option, None, Some, codes, if◌then◌else◌}
use Rattle.std.specs.Str.{bytes_eq}
use Rattle.fuse_wire.specs.FileAttr.{root_attr}
use Rattle.fuse_wire.specs.Times.{nanos_per_second}
use Rattle.fuse_wire.specs.declared.file_attr.FileAttr.{FileAttr}
use Rattle.fuse_wire.specs.declared.file_attr.FileType.TheVariants.{Directory, RegularFile}
use Rattle.fuse_read_only.specs.Tree.{Member, Tree}

-- the directory 1 of mode 0o755, and the file 2 of mode 0o444
abbrev pub attributes : (ino : ℕ) → Option FileAttr
attributes ino =
    if ino == 1 then Some (root_attr 1 Directory 493 2 0)
    else if ino == 2 then Some (root_attr 2 RegularFile 292 1 19)
    else None

abbrev pub members : List Member
members =
    record { ino = 1; kind = Directory; name = codes "." }
    ∷ record { ino = 1; kind = Directory; name = codes ".." }
    ∷ record { ino = 2; kind = RegularFile; name = codes "note" }
    ∷ []

abbrev pub one_file : Tree
one_file = record {
  attributes = attributes;
  names = λ parent name. if (parent == 1) && bytes_eq name (codes "note") then attributes 2 else None;
  contents = λ ino. if ino == 2 then Some (codes "Remember the milk.\n") else None;
  entries = λ ino. if ino == 1 then members else [];
  ttl = nanos_per_second;
}
