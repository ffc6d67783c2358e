use Rattle.normal_forms.proofs.Suffice.{suffice}
use Rattle.normal_forms.proofs.theory.property_forms_suffice.Goals as goal

pub returns : goal.returns
returns c = suffice
