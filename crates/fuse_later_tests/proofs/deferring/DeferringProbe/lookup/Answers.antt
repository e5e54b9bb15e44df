-- Each thing that comes of a lookup is allowed.
use Rattle.std.proofs.Common.{ℕ, List, Result, inl, inr, lit<}
use Rattle.fuse_request.specs.Call.Call.{Lookup}
use Rattle.fuse_header.specs.declared.request.Request.{Request}
use Rattle.fuse_reply.specs.Door.{DoorSeen}
use Rattle.fuse_reply.specs.declared.door.NoDoor.{NoDoor}
use Rattle.fuse_reply.specs.declared.out.Out.{Out}
use Rattle.fuse_dispatch.proofs.Answering.{Answered-error}
use Rattle.fuse_wire.specs.ErrorNumbers.{EIO, ENOENT}
use Rattle.fuse_testing.specs.Probing.{IsAnswered}
use Rattle.fuse_later_tests.specs.Deferring.{ComesOfLookup}
use Rattle.fuse_later_tests.proofs.deferring.DeferringProbe.lookup.Goals as goal

comes-answered : (request : Request) (parent : ℕ) (name : List ℕ) (id : ℕ) (door : Result DoorSeen NoDoor) (out : Out)
    → ComesOfLookup id door out → IsAnswered (λ c a. Unit {0}) request (Lookup parent name) id door out
comes-answered request parent name id door out (inl unknown) = Answered-error {door = door} ENOENT (lit< tt) (lit< tt) tt unknown
comes-answered request parent name id door out (inr (inl fault)) = Answered-error {door = door} EIO (lit< tt) (lit< tt) tt fault
comes-answered request parent name id door out (inr (inr put_off)) = inr put_off

pub returns : goal.returns
returns g c = comes-answered _ _ _ _ _ _ c.look_up.ensures
