use Rattle.classification.proofs.Following.{contradictory}
use Rattle.answers.proofs.derived.derived_contradiction.Goals as goal

pub returns : goal.returns
returns c =
    let (subject, top, derives) = c.in_ok-lines.ensures in
    record {
      contradictory = (contradictory c.args.closed.now.ontology c.well_formed-2.ensures.ontology c.args.closed.now.saturation c.well_formed-2.ensures.saturated).1 c.requires.contradictory;
      subject = subject;
      top = top;
      derives = derives;
    }
