use Rattle.std.proofs.Common.{◌≡◌, ◌++◌, drop, flat_map, string_bytes}
use Rattle.receiving.specs.Places.{IsPlaceIn, lined_fault}
use Rattle.shapes.specs.View.{faults_of}
use Rattle.receiving.proofs.lines.lined_faults.Given as goal

abbrev pub invariant-loop-fault : goal.invariant-loop-fault
invariant-loop-fault l = record {
  place : IsPlaceIn l.bytes l.place;
  text : string_bytes l.text ++ flat_map (lined_fault l.bytes) (faults_of (drop l.fault-index l.faults)) ≡ flat_map (lined_fault l.bytes) (faults_of l.faults);
}
