use Rattle.std.proofs.Common.{map, take}
use Rattle.std.specs.Prelude.{slice_index}
use Rattle.cert_check.specs.Additions.{PutsIndividuals}
use Rattle.generated_part.proofs.part.put_individuals.Given as goal

abbrev pub invariant-loop-number : goal.invariant-loop-number
invariant-loop-number l = PutsIndividuals (take l.number (map (slice_index l.places) l.individuals)) l.initial.part l.part
