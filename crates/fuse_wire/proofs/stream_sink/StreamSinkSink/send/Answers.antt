-- The stream stands as the sink tells it, after a frame, after a write that failed and after a refused send.
use Rattle.std.proofs.Common.{◌++◌, refl}
use Rattle.fuse_wire.specs.Frames.{IsFrame}
use Rattle.fuse_wire.proofs.StreamLaws.{kept_more, kept_torn, kept_refused, Puts-more, Refuses-torn, IsFrame-joined}
use Rattle.fuse_wire.proofs.stream_sink.StreamSinkSink.send.Goals as goal

pub invariant_of-self : goal.invariant_of-self
invariant_of-self g c = record { stands = kept_refused _ _ c.args.self.now.refused _ _ c.if-self.true c.args.self.now.stands }

pub invariant_of-self-then-write_frame : goal.invariant_of-self-then-write_frame
invariant_of-self-then-write_frame g c =
    let is_frame : IsFrame (c.args.header.now ++ c.args.payload.now) = IsFrame-joined c.args.header.now c.args.payload.now c.told-header c.requires in
    record {
      stands = kept_more (c.args.header.now ++ c.args.payload.now) _ (g.O.ByteSink.told c.args.self.now.inner) _ _ _
          c.if-self.false is_frame c.if-write_frame.ensures c.args.self.now.stands;
    }

pub returns-then-write_frame-clause-sends : goal.returns-then-write_frame-clause-sends
returns-then-write_frame-clause-sends g c =
    let is_frame : IsFrame (c.args.header.now ++ c.args.payload.now) = IsFrame-joined c.args.header.now c.args.payload.now c.told-header c.requires in (
      Puts-more (c.args.header.now ++ c.args.payload.now) _ _ _ _ c.args.self.now.broken c.if-self.false is_frame
          c.if-write_frame.ensures c.args.self.now.stands,
      refl,
    )

pub invariant_of-self-2 : goal.invariant_of-self-2
invariant_of-self-2 g c =
    let is_frame : IsFrame (c.args.header.now ++ c.args.payload.now) = IsFrame-joined c.args.header.now c.args.payload.now c.told-header c.requires in
    record {
      stands = kept_torn (c.args.header.now ++ c.args.payload.now) _ (g.O.ByteSink.told c.args.self.now.inner) _ _
          c.args.self.now.broken c.if-self.false is_frame c.if-write_frame.ensures c.args.self.now.stands;
    }

pub returns-clause-sends : goal.returns-clause-sends
returns-clause-sends g c =
    let is_frame : IsFrame (c.args.header.now ++ c.args.payload.now) = IsFrame-joined c.args.header.now c.args.payload.now c.told-header c.requires in (
      Refuses-torn (c.args.header.now ++ c.args.payload.now) _ _ _ _ c.args.self.now.broken c.if-self.false is_frame
          c.if-write_frame.ensures c.args.self.now.stands,
      refl,
    )
