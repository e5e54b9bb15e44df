use Rattle.std.proofs.Common.{◌≡◌, ◌≤◌, ◌++◌, take, drop, length, rules}
use Rattle.std.specs.Io.KnownBytes.{Appends}
use Rattle.fuse_device.proofs.Carrying.{dropped_then}
use Rattle.fuse_device.proofs.frame_writer.FrameWriter.write_joined.Goals as goal

pub returns-in-Wrote-2-clause-through : goal.returns-in-Wrote-2-clause-through
returns-in-Wrote-2-clause-through g c =
    let held = c.args.self.now.held.items in
    let n = c.in-Wrote-2.count in
    let within : n ≤ length held = search rules in
    let put : Appends (g.W.Write.contents c.args.self.now.writer) (g.W.Write.contents c.put_below-done.new.writer) (take n (held ++ c.args.piece.now)) = search rules in
    let rest : c.drop_front.new.bytes.items ≡ drop n (take (length held) (held ++ c.args.piece.now)) = search rules in
    dropped_then c.write_apart-in-Wrote-2.result c.args.piece.now _ _ _ n _ _ _ _ _ within put rest c.write_apart-in-Wrote-2.ensures.through
