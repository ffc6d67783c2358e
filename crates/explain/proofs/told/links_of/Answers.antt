use Rattle.std.proofs.Common.{◌↔◌, ◌++◌, ℕ, List, Contains, ap, ◌∙◌, subst}
use Rattle.explain.proofs.Telling.{links_joined}
use Rattle.explain.proofs.told.links_of.Goals as goal

pub returns : goal.returns
returns c =
    let first = c.linked_first.result.now in
    let second = c.linked_second.result.now in
    let sorted = c.sort_ascending.new.list.items in
    let begun = c.in_ok-extend_from_slice.ensures.items ∙ ap (λ (l : List ℕ). l ++ first) c.new-numbers.ensures.items in
    let both = c.in_ok-extend_from_slice-2.ensures.items ∙ ap (λ (l : List ℕ). l ++ second) begun in
    links_joined c.args.problem.now.forms c.args.individual first second sorted c.linked_first.ensures c.linked_second.ensures
    (subst (λ (l : List ℕ). (n : ℕ) → Contains sorted n ↔ Contains l n) both c.sort_ascending.ensures.same)
