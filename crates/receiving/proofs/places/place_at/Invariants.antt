use Rattle.std.proofs.Common.{◌-◌, ◌≤◌}
use Rattle.receiving.specs.Places.{IsPlaceIn}
use Rattle.receiving.proofs.places.place_at.Given as goal

abbrev pub invariant-loop-place : goal.invariant-loop-place
invariant-loop-place l = record {
  place : IsPlaceIn l.bytes l.place;
  within : l.place.at ≤ l.end;
}

abbrev pub decreases-loop-place : goal.decreases-loop-place
decreases-loop-place l = l.end - l.place.at
