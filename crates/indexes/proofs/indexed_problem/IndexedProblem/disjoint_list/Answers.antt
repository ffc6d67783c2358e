use Rattle.std.proofs.Common.{ap, ◌∙◌}
use Rattle.facts.specs.Closure.{Problem}
use Rattle.indexes.specs.Disjoint.{operands_from}
use Rattle.indexes.proofs.Parting.{apart_pair, some_apart}
use Rattle.indexes.proofs.indexed_problem.IndexedProblem.disjoint_list.Goals as goal

pub returns-clause-some : goal.returns-clause-some
returns-clause-some c =
    some_apart c.args.self.now c.self.inside.disjoint (c.self.invariant.listed ∙ ap (λ (p : Problem). operands_from 0 p.apart.classes) c.self.view_is) c.args.first c.args.second c.list_of.result
    (rw (← c.key_of_class.ensures, ← c.key_of_class-2.ensures) c.list_of.ensures.some)

pub returns-clause-none : goal.returns-clause-none
returns-clause-none c = λ none l w.
    c.list_of.ensures.none none l
    (rw (c.key_of_class.ensures, c.key_of_class-2.ensures) (apart_pair c.args.self.now c.self.inside.disjoint (c.self.invariant.listed ∙ ap (λ (p : Problem). operands_from 0 p.apart.classes) c.self.view_is) c.args.first c.args.second l w))
