use Rattle.closure.specs.Closure.{Expression, Individual}
use Rattle.countermodel.specs.Elements.{contexts_of}
use Rattle.countermodel.specs.Leading.{IsElementBy}
use Rattle.countermodel.specs.Sets.{IsAdmitted}
use Rattle.countermodel.proofs.Listing.{all_done, expressions_done}
use Rattle.countermodel.proofs.elements.Elements.among.Goals as goal

pub list_individuals-requires-clause-contexts : goal.list_individuals-requires-clause-contexts
list_individuals-requires-clause-contexts c =
    expressions_done (IsAdmitted c.args.satisfiable.now) (IsElementBy c.args.satisfiable.now c.args.groups.now) c.expression_count-many.result (contexts_of c.list_expressions.new.contexts.items) c.in_ok-list_expressions.ensures.listed
    (λ e. (λ admitted. (admitted, tt), λ is_element. is_element.0))
    (λ e t. rw c.expression_count-many.ensures (c.requires.within (Expression e) t))

pub returns : goal.returns
returns c =
    all_done (IsElementBy c.args.satisfiable.now c.args.groups.now) _ (contexts_of c.list_individuals.new.contexts.items) c.in_ok-list_individuals.ensures.listed
    (λ a t. rw c.individuals-many.ensures.count (c.requires.within (Individual a) t.0))
