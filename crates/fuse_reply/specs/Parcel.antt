-- What goes from whoever answers to whoever sends.
use Rattle.std.specs.Prelude.{Bool, true, false}
use Rattle.fuse_reply.specs.declared.parcel.Parcel.{Parcel}
use Rattle.fuse_reply.specs.declared.parcel.Parcel.TheVariants.{Prompt, Notice, Late}

-- what goes out for a message, and neither a notice nor a frame that comes later
abbrev pub is_prompt : Parcel → Bool
is_prompt (Prompt seq out) = true
is_prompt (Notice frame) = false
is_prompt (Late frame) = false
