use Rattle.std.proofs.Common.{◌≡◌, List, ℕ, ◌≤◌, subst, sym, ap, ◌∙◌}
use Rattle.axioms.specs.declared.ids.IndId.{IndId}
use Rattle.normal_forms.specs.declared.forms.Form.{Form}
use Rattle.facts.specs.Closure.{AreSame}
use Rattle.indexes.specs.Groups.{least_in}
use Rattle.indexes.proofs.Grouping.{links_suffice}
use Rattle.indexes.proofs.same_individuals.Groups.least.Goals as goal

is_least : (c : goal.After-entry) → c.entry.result ≡ least_in c.self.inside.least.items c.args.individual
is_least c = c.entry.ensures ∙ ap (λ (t : List ℕ). least_in t c.args.individual) c.deref.ensures.value

pub returns-clause-same : goal.returns-clause-same
returns-clause-same c = λ forms is.
    let a = c.args.individual in
    let same : AreSame c.self.inside.links a c.entry.result = subst (λ (b : IndId). AreSame c.self.inside.links a b) (sym (is_least c)) (c.self.invariant.same a) in
    (links_suffice forms a c.entry.result).0 (subst (λ (fs : List Form). AreSame fs a c.entry.result) (c.self.view_is ∙ is) same)

pub returns-clause-low : goal.returns-clause-low
returns-clause-low c = λ forms other is same.
    let a = c.args.individual in
    let inside : AreSame c.self.inside.links a other = subst (λ (fs : List Form). AreSame fs a other) (sym (c.self.view_is ∙ is)) ((links_suffice forms a other).1 same) in
    subst (λ (b : IndId). b.0 ≤ other.0) (sym (is_least c)) (c.self.invariant.low a other inside)
