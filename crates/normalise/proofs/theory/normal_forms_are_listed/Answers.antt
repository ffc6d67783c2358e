use Rattle.normalise.proofs.Grown.{listed_forms}
use Rattle.normalise.proofs.theory.normal_forms_are_listed.Goals as goal

pub returns : goal.returns
returns c = listed_forms
