use Rattle.std.proofs.Common.{◌≡◌, map, take, Some}
use Rattle.axioms.specs.View.{expr_numbers}
use Rattle.cert_check.specs.Derivation.{IsDerivation, at_numbers}
use Rattle.certificate.specs.Certificate.{Individual, Sub}
use Rattle.exactness.proofs.Derivable.{conclusions}
use Rattle.explain.specs.LinesOfFacts.{Lengthens}
use Rattle.explain.specs.Uses.{IsAmong, Uses}
use Rattle.explain.proofs.exchange.class_exchanged.Given as goal

abbrev pub invariant-loop-place : goal.invariant-loop-place
invariant-loop-place g l = record {
  derivation : IsDerivation l.basis.closed.now.ontology l.derivation;
  longer : Lengthens l.fn.derivation l.derivation;
  at : at_numbers (conclusions l.derivation) l.numbers.items ≡ Some (map (Sub (Individual l.new.0)) (take l.place (expr_numbers l.operands.items)));
  used : Uses l.fn.derivation l.derivation (IsAmong (take l.place l.known)) l.numbers.items;
}
