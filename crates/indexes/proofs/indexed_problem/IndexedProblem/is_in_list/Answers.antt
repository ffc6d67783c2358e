use Rattle.std.proofs.Common.{ap, ◌∙◌}
use Rattle.facts.specs.Closure.{Problem}
use Rattle.indexes.specs.Disjoint.{operands_from}
use Rattle.indexes.proofs.Parting.{has_operand, in_list}
use Rattle.indexes.proofs.indexed_problem.IndexedProblem.is_in_list.Goals as goal

pub returns-clause-yes : goal.returns-clause-yes
returns-clause-yes c = λ yes.
    let w = c.has.ensures.yes yes in
    in_list c.args.self.now c.self.inside.disjoint (c.self.invariant.listed ∙ ap (λ (p : Problem). operands_from 0 p.apart.classes) c.self.view_is) c.args.class w.0 (rw (← c.key_of_class.ensures) w.1)

pub returns-clause-no : goal.returns-clause-no
returns-clause-no c = λ no w.
    let p = has_operand c.args.self.now c.self.inside.disjoint (c.self.invariant.listed ∙ ap (λ (p : Problem). operands_from 0 p.apart.classes) c.self.view_is) c.args.class w in
    c.has.ensures.no no p.0 (rw (c.key_of_class.ensures) p.1)
