use Rattle.std.proofs.Common.{List, subst, sym}
use Rattle.facts.specs.declared.contexts.Fact.{Fact}
use Rattle.facts.specs.Closure.{Concludes}
use Rattle.inference.proofs.Lists.{no_elements, one_element, two_elements}
use Rattle.inference.proofs.Visiting.{kind_given}
use Rattle.inference.proofs.visits.visited.Goals as goal

pub returns-in-empty : goal.returns-in-empty
returns-in-empty c = λ n form f at none unfilled gives.
    let P : List Fact → Type 0 = λ older. Concludes c.args.problem.now form older f in
    (c.given.ensures n).1 (form, at, kind_given form f (subst P (sym (no_elements c.args.older.now c.in-empty.len_below)) gives))

pub returns-in-len1 : goal.returns-in-len1
returns-in-len1 c = λ n form f at none unfilled gives.
    let P : List Fact → Type 0 = λ older. Concludes c.args.problem.now form older f in
    c.visited_by_one.ensures n form f at (subst P (sym (one_element c.args.older.now _ c.in-len1.len_at_least c.in-len1.len_below)) gives)

pub returns-in-len2 : goal.returns-in-len2
returns-in-len2 c = λ n form f at none unfilled gives.
    let P : List Fact → Type 0 = λ older. Concludes c.args.problem.now form older f in
    c.visited_by_two.ensures n form f at none unfilled (subst P (sym (two_elements c.args.older.now _ _ c.in-len2.len_at_least c.in-len2.len_below)) gives)
