use Rattle.std.proofs.Common.{Some, subst}
use Rattle.axioms.specs.Growth.{IsBounded}
use Rattle.exactness.specs.Acceptance.{IsListedFor}
use Rattle.exactness.specs.Theorems.{HaveFacts}
use Rattle.classification.proofs.Writing.{derivation_has_text}
use Rattle.classification.proofs.classification.certificate_of_closure.Goals as goal

pub returns : goal.returns
returns g c =
    let o = c.args.closed.now.ontology in
    let lines = c.in_ok-lines.lines in
    let is = c.in_ok-text.ensures in
    let listed = Some is.listed in
    let has_text = derivation_has_text o (subst IsBounded c.ontology-ontology.ensures c.bounded.ensures) g.F.FormatType.format lines listed c.in_ok-lines.ensures.derivation c.bounded-2.ensures is.within is.numbers in
    record {
      certificate = record { lines = lines; listed = listed };
      text_of = record { has_text = has_text; spelled = is.spelled };
      derivation = c.in_ok-lines.ensures.derivation;
      shown = subst (λ asked. HaveFacts o asked lines × IsListedFor o asked is.listed) c.requires.unasked (c.in_ok-lines.ensures.facts, is.is_listed);
    }
