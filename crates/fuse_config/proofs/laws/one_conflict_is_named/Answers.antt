-- The places are the least ones.
use Rattle.fuse_config.proofs.ConflictLaws.{FirstConflict-once}
use Rattle.fuse_config.proofs.laws.one_conflict_is_named.Goals as goal

pub returns : goal.returns
returns c options one other x y =
    let places = FirstConflict-once options one.first one.second other.first other.second x y in
    λ i. record { first = places.0 i; second = places.1 i }
