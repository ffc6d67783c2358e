use Rattle.std.proofs.Common.{◌↔◌, ◌++◌, ap, sym, ◌∙◌, subst, List, ℕ, Contains}
use Rattle.std.proofs.lemmas.Cmp.{ranked}
use Rattle.std.specs.declared.cmp.Ordering.TheVariants.{Less}
use Rattle.countermodel.proofs.Numbers.{Ascends-from_pairs}
use Rattle.countermodel.proofs.ascending.ascending.Goals as goal

pub returns-clause-ascends : goal.returns-clause-ascends
returns-clause-ascends c = Ascends-from_pairs _ (λ i j d low within. ranked _ _ Less (sym (c.sort_ascending.ensures.ascending i j d low within)))

pub returns-clause-same : goal.returns-clause-same
returns-clause-same c =
    subst (λ (xs : List ℕ). (n : ℕ) → Contains c.sort_ascending.new.list.items n ↔ Contains xs n) (c.in_ok-extend_from_slice.ensures.items ∙ ap (λ xs. xs ++ c.args.list.now) c.in_ok-numbers.ensures.items)
    c.sort_ascending.ensures.same
