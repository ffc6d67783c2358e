use Rattle.interpretation_spec.proofs.Folding.{stays, axiom_stays, first_stays}
use Rattle.interpretation_spec.proofs.theory.folded_interpretations.Goals as goal

pub returns : goal.returns
returns c = record {
  hold = λ o w i j f fo e x le lx. stays o w i j f fo e x le lx;
  satisfy = λ o w i j f fo v b g. axiom_stays o w i j f fo v b g;
  first = λ o w i j f fo v n. first_stays o w i j f fo v n;
}
