use Rattle.std.proofs.Common.{◌≡◌, drop}
use Rattle.axioms.specs.declared.ids.PropId.{PropId}
use Rattle.cert_check.specs.Derivation.{IsDerivation}
use Rattle.explain.specs.Uses.{IsAmong, Uses}
use Rattle.explain.specs.LinesOfFacts.{AreShowing, Lengthens}
use Rattle.facts.specs.declared.contexts.Fact.TheVariants.{Edge}
use Rattle.normal_forms.specs.declared.forms.PropId2.TheVariants.{Property}
use Rattle.normalise.specs.Problem.{prefixes_of}
use Rattle.explain.specs.Paths.{IsPath}
use Rattle.explain.proofs.lifting.lifted.Given as goal

abbrev pub invariant-loop-form : goal.invariant-loop-form
invariant-loop-form g l = record {
  derivation : IsDerivation l.basis.closed.now.ontology l.derivation;
  longer : Lengthens l.initial.derivation l.derivation;
  shown : (r : PropId) × (to : PropId) × (l.fn.above ≡ Property to) × IsPath l.initial.paths r (drop l.form-index l.form-items) to × AreShowing (prefixes_of l.basis.closed.now.saturation.normal) l.derivation l.lines.items (Edge l.edge.ends.source (Property r) l.edge.ends.target);
  used : Uses l.initial.derivation l.derivation (IsAmong l.fn.numbers.items) l.lines.items;
}
