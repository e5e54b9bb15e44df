-- What a LOOKUP and a GETATTR are answered, by the attributes that were found.
use Rattle.std.specs.Prelude.{ℕ, Option, None, Some}
use Rattle.fuse_wire.specs.ErrorNumbers.{ENOENT}
use Rattle.fuse_wire.specs.declared.file_attr.FileAttr.{FileAttr}
use Rattle.fuse_reply.specs.Answer.{Answer}
use Rattle.fuse_reply.specs.Answer.Answer.{Error, Entry, Attr}

-- an entry and its attributes hold for so many nanoseconds, and their generation is 0; without one the answer is ENOENT
abbrev pub found_entry : (ttl : ℕ) → Option FileAttr → Answer
found_entry ttl None = Error ENOENT
found_entry ttl (Some found) = Entry ttl ttl 0 found

abbrev pub found_attributes : (ttl : ℕ) → Option FileAttr → Answer
found_attributes ttl None = Error ENOENT
found_attributes ttl (Some found) = Attr ttl found
