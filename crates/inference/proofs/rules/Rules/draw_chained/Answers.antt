use Rattle.std.proofs.Common.{sym, ap, ◌∙◌, subst}
use Rattle.normal_forms.specs.declared.forms.PropId2.{PropId2}
use Rattle.inference.specs.Visits.{AllChainsDrawn}
use Rattle.inference.proofs.Lists.{one_value}
use Rattle.inference.proofs.Growth.{grows_same}
use Rattle.inference.proofs.Drawing.{draws}
use Rattle.inference.proofs.Edges.{edges_have}
use Rattle.inference.proofs.Visiting.{behind_chained}
use Rattle.inference.proofs.rules.Rules.draw_chained.Goals as goal

pub draw_chains-requires-clause-second : goal.draw_chains-requires-clause-second
draw_chains-requires-clause-second c = behind_chained c.args.older.facts.now c.in-Some.first c.in-Some.second (sym c.chained.ensures ∙ c.in-Some.is)

pub draw_chains-requires-clause-has : goal.draw_chains-requires-clause-has
draw_chains-requires-clause-has c = (edges_have c.args.self.now.problem.now c.args.self.now.closed c.requires.derived c.args.older.numbers.now c.args.older.facts.now c.in-Some.first c.in-Some.second c.requires.older (sym c.chained.ensures ∙ c.in-Some.is)).0

pub draw_chains-requires-clause-has_second : goal.draw_chains-requires-clause-has_second
draw_chains-requires-clause-has_second c = (edges_have c.args.self.now.problem.now c.args.self.now.closed c.requires.derived c.args.older.numbers.now c.args.older.facts.now c.in-Some.first c.in-Some.second c.requires.older (sym c.chained.ensures ∙ c.in-Some.is)).1

pub returns-in_ok-draw_chains : goal.returns-in_ok-draw_chains
returns-in_ok-draw_chains c = draws c.draw_chains.ensures.grows (λ p q is.
    let same = one_value _ (c.in-Some.first, c.in-Some.second) (p, q) (sym c.chained.ensures ∙ c.in-Some.is) is in
    subst (AllChainsDrawn c.args.self.now.problem.now c.args.older.facts.now c.draw_chains.new.facts.facts) (ap (λ (pair : PropId2 × PropId2). pair.0) same) c.in_ok-draw_chains.ensures.drawn)

pub returns-in_default : goal.returns-in_default
returns-in_default c = draws (grows_same c.requires.derived) (λ p q is. let none = c.chained.ensures in let default = c.in_default.is in absurd (cc))
