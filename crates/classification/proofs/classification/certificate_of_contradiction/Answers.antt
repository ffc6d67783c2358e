use Rattle.std.proofs.Common.{None, subst}
use Rattle.axioms.specs.Growth.{IsBounded}
use Rattle.std.proofs.lemmas.List.Elements.{All-nil}
use Rattle.classification.proofs.Writing.{derivation_has_text}
use Rattle.classification.proofs.classification.certificate_of_contradiction.Goals as goal

pub returns : goal.returns
returns g c =
    let lines = c.in_ok-lines.lines in
    let derives = c.in_ok-lines.ensures in
    let has_text = derivation_has_text c.args.closed.now.ontology (subst IsBounded c.ontology-ontology.ensures c.bounded.ensures) g.F.FormatType.format lines None derives.2.derivation c.bounded-2.ensures tt (All-nil _) in
    record {
      certificate = record { lines = lines; listed = None };
      text_of = record { has_text = has_text; spelled = c.in_ok-text.ensures };
      derivation = derives.2.derivation;
      shown = derives;
    }
