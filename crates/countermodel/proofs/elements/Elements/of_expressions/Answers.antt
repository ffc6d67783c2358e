use Rattle.std.proofs.Common.{ℕ, ◌<◌, length, get_or, arith}
use Rattle.std.proofs.lemmas.List.Elements.{Contains-get_or}
use Rattle.closure.specs.Closure.{Expression, Individual}
use Rattle.countermodel.specs.Elements.{contexts_of}
use Rattle.countermodel.specs.Leading.{IsElementBy}
use Rattle.countermodel.proofs.Listing.{all_done}
use Rattle.countermodel.proofs.PlacedExpressions.{expressions_in_order}
use Rattle.countermodel.proofs.elements.Elements.of_expressions.Goals as goal

pub place_expressions-requires-clause-within : goal.place_expressions-requires-clause-within
place_expressions-requires-clause-within c = λ k d low.
    let e : ℕ = get_or c.args.numbers.now k d in
    let within : e < length c.args.ontology.now.nodes = c.requires.within (Expression e) ((c.requires.numbers e).0 (Contains-get_or c.args.numbers.now k d low)) in
    omega (arith, within, c.deref_mut.ensures.len, c.in_ok-expressions.ensures.len, c.expression_count.ensures)

pub list_individuals-requires-clause-contexts : goal.list_individuals-requires-clause-contexts
list_individuals-requires-clause-contexts c =
    expressions_in_order (IsElementBy c.args.satisfiable.now c.args.groups.now) c.args.numbers.now c.place_expressions.new.contexts.items c.in_ok-place_expressions.ensures.listed c.requires.ascend
    (λ e. (λ there. ((c.requires.numbers e).0 there, tt), λ is. (c.requires.numbers e).1 is.0))

pub returns : goal.returns
returns c =
    all_done (IsElementBy c.args.satisfiable.now c.args.groups.now) _ (contexts_of c.list_individuals.new.contexts.items) c.in_ok-list_individuals.ensures.listed
    (λ a t. rw c.individuals-count_individuals.ensures.count (c.requires.within (Individual a) t.0))
