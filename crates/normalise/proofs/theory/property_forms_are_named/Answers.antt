use Rattle.normalise.proofs.Naming.{named}
use Rattle.normalise.proofs.theory.property_forms_are_named.Goals as goal

pub returns : goal.returns
returns c = named
