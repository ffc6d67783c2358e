use Rattle.std.proofs.Common.{◌∷◌, [], drop}
use Rattle.axioms.specs.declared.ids.IndId.{IndId}
use Rattle.cert_check.specs.Derivation.{IsDerivation}
use Rattle.explain.specs.LinesOfFacts.{Lengthens}
use Rattle.explain.specs.Paths.{IsChain}
use Rattle.explain.specs.SameLines.{SaysSame}
use Rattle.explain.specs.Uses.{IsAmong, Uses}
use Rattle.explain.proofs.same.same_along.Given as goal

abbrev pub invariant-loop-place : goal.invariant-loop-place
invariant-loop-place g l = record {
  derivation : IsDerivation l.basis.closed.now.ontology l.derivation;
  longer : Lengthens l.fn.derivation l.derivation;
  chain : (j : IndId) → IsChain l.basis.closed.now.saturation.state.problem.forms l.first l.chain j → IsChain l.basis.closed.now.saturation.state.problem.forms l.at (drop l.place l.chain) j;
  says : SaysSame l.derivation l.number l.first l.at;
  used : Uses l.fn.derivation l.derivation (IsAmong []) (l.number ∷ []);
}
