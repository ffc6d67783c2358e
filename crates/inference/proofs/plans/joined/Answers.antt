use Rattle.std.proofs.Common.{◌≡◌, ◌↔◌, Some, List, subst}
use Rattle.normal_forms.specs.declared.forms.Form.TheVariants.{N6}
use Rattle.facts.specs.declared.contexts.Fact.{Fact}
use Rattle.facts.specs.Closure.{Concludes}
use Rattle.inference.specs.Plans.{HasAboveBehind}
use Rattle.inference.proofs.Lists.{two_elements}
use Rattle.inference.proofs.plans.joined.Goals as goal

pub returns-in-len2 : goal.returns-in-len2
returns-in-len2 c = λ k f closed.
    let P : List Fact → Type 0 = λ older. HasAboveBehind k.forms c.args.above older → (c.joined_two.result ≡ Some f) ↔ Concludes k (N6 c.args.chain.first c.args.chain.second c.args.chain.whole) older f in
    subst P (two_elements c.args.older.now _ _ c.in-len2.len_at_least c.in-len2.len_below) (c.joined_two.ensures k f closed)
