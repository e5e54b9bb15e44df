-- The status stands in the header, in front of the payload.
use Rattle.std.proofs.Common.{◌≡◌, ◌∙◌, ◌++◌, ap, sym, rules, ℕ, List, to_z, of_z}
use Rattle.std.specs.Int.{w32, cast_signed}
use Rattle.fuse_wire.specs.Numbers.{signed}
use Rattle.fuse_wire.proofs.NumberFront.{number-append}
use Rattle.fuse_reply.specs.Frame.{frame_status}
use Rattle.fuse_reply.proofs.packed.Packed.status.Goals as goal

pub returns : goal.returns
returns c =
    let header : List ℕ = c.self.inside.header in
    let payload : List ℕ = c.self.inside.payload.items in
    let read : to_z w32 (of_z w32 c.i32_at.result) ≡ signed w32 header 4 = search rules in
    let front : signed w32 (header ++ payload) 4 ≡ signed w32 header 4 = ap (cast_signed w32) (number-append header payload 4 4 (search rules)) in
    read ∙ sym front ∙ ap frame_status (search rules)
