use Rattle.std.proofs.Common.{◌≡◌, length, map}
use Rattle.certificate.specs.View.{listed_of, pair_row_of}
use Rattle.interpretation_spec.proofs.Unsatisfied.{SatisfiedBefore}
use Rattle.listed_model.specs.PropertyTests.{AreShown}
use Rattle.listed_model.specs.Interpretations.{listed_interpretation}
use Rattle.listed_model.proofs.tester.Tester.first_failing.Given as goal

abbrev pub invariant-loop-index : goal.invariant-loop-index
invariant-loop-index l = record {
  room : length l.room.seen ≡ l.self.listed.now.domain;
  shown : AreShown (map pair_row_of l.self.listed.now.pairs.items) l.room.shown;
  so_far : SatisfiedBefore l.self.ontology.now (listed_interpretation l.self.ontology.now (listed_of l.self.listed.now)) l.index;
}
