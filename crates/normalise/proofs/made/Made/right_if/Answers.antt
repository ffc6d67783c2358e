use Rattle.normalise.proofs.Adding.{from_same}
use Rattle.normal_forms.specs.declared.forms.Origin.TheVariants as origins
use Rattle.normalise.proofs.made.Made.right_if.Goals as goal

pub returns-in_ok-right : goal.returns-in_ok-right
returns-in_ok-right c = from_same (origins.Expr c.args.whole) _ _ (λ g h. (c.if-occurs.true, h)) (λ g h. h.1) c.in_ok-right.ensures
