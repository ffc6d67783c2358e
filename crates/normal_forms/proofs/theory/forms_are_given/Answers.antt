use Rattle.normal_forms.proofs.Sources.{forms_given, given_forms, right_reached, reached_right, left_reached, reached_left}
use Rattle.normal_forms.proofs.theory.forms_are_given.Goals as goal

pub returns : goal.returns
returns c = record {
  forms = λ o asked g. (forms_given o asked g, given_forms o asked g);
  sides = λ o asked e. ((right_reached o asked e, reached_right o asked e), (left_reached o asked e, reached_left o asked e));
}
