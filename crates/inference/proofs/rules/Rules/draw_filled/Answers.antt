use Rattle.std.proofs.Common.{sym, ap, ◌∙◌, subst}
use Rattle.normal_forms.specs.declared.forms.Class2.{Class2}
use Rattle.normal_forms.specs.declared.forms.PropId2.{PropId2}
use Rattle.inference.specs.Visits.{AllRestrictionsDrawn}
use Rattle.inference.proofs.Lists.{one_value}
use Rattle.inference.proofs.Growth.{grows_same}
use Rattle.inference.proofs.Drawing.{draws}
use Rattle.inference.proofs.Edges.{filled_has}
use Rattle.inference.proofs.rules.Rules.draw_filled.Goals as goal

pub draw_restrictions-requires-clause-filled : goal.draw_restrictions-requires-clause-filled
draw_restrictions-requires-clause-filled c = sym c.filled.ensures ∙ c.in-Some.is

pub draw_restrictions-requires-clause-has : goal.draw_restrictions-requires-clause-has
draw_restrictions-requires-clause-has c = filled_has c.args.self.now.problem.now c.args.self.now.closed c.requires.derived c.args.older.numbers.now c.args.older.facts.now c.in-Some.property c.in-Some.filler c.requires.older (sym c.filled.ensures ∙ c.in-Some.is)

pub returns-in_ok-draw_restrictions : goal.returns-in_ok-draw_restrictions
returns-in_ok-draw_restrictions c = draws c.draw_restrictions.ensures.grows (λ p x is.
    let same = one_value _ (c.in-Some.property, c.in-Some.filler) (p, x) (sym c.filled.ensures ∙ c.in-Some.is) is in
    subst (AllRestrictionsDrawn c.args.self.now.problem.now c.args.older.facts.now c.draw_restrictions.new.facts.facts) (ap (λ (pair : PropId2 × Class2). pair.1) same) c.in_ok-draw_restrictions.ensures.drawn)

pub returns-in_default : goal.returns-in_default
returns-in_default c = draws (grows_same c.requires.derived) (λ p x is. let none = c.filled.ensures in let default = c.in_default.is in absurd (cc))
