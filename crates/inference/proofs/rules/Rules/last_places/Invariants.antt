use Rattle.std.proofs.Common.{take}
use Rattle.inference.specs.Differences.{AreLastPlaces}
use Rattle.inference.proofs.rules.Rules.last_places.Given as goal

abbrev pub invariant-loop-place : goal.invariant-loop-place
invariant-loop-place l = AreLastPlaces l.self.problem.now.forms (take l.place l.list) l.last
