use Rattle.cert_check.proofs.Listwise.{adds_nothing}
use Rattle.cert_check.proofs.superclasses.put_below.Goals as goal

pub returns-in_default : goal.returns-in_default
returns-in_default c = adds_nothing _ _ c.in_default.ensures
