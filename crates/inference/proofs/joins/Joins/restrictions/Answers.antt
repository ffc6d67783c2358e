use Rattle.std.proofs.Common.{◌≡◌, ℕ, List, Contains, length, slice_get, sym, ap, ◌∙◌, subst}
use Rattle.std.proofs.lemmas.Option.{slice_get_within}
use Rattle.indexes.specs.declared.keys.Key.TheVariants.{Whole}
use Rattle.indexes.specs.FormsUnderKeys.{numbers_under}
use Rattle.indexes.specs.Keys.{by_restricted}
use Rattle.indexes.proofs.Counting.{numbers_are_under, under_are_numbers}
use Rattle.number_sets.specs.Pieces.{list_at}
use Rattle.inference.proofs.joins.Joins.restrictions.Goals as goal

pub returns-in-Property : goal.returns-in-Property
returns-in-Property c = λ forms are n.
    let p = c.in-Property.property in
    let is : c.at.result.now ≡ numbers_under by_restricted (slice_get forms) (Whole p.0) (length forms) = c.at.ensures ∙ ap (λ fillers. list_at fillers.restrictions c.index.result) c.as_ref.ensures ∙ ap (list_at c.args.self.now.fillers.value.restrictions) c.index.ensures ∙ are.fillers.restrictions p.0 in
    rw c.in-Property.is (
      λ there. (numbers_are_under by_restricted (slice_get forms) (Whole p.0) (length forms) n (subst (λ (l : List ℕ). Contains l n) is there)).1,
      λ under. subst (λ (l : List ℕ). Contains l n) (sym is) (under_are_numbers by_restricted (slice_get forms) (Whole p.0) (length forms) n (slice_get_within forms n under.0 under.1) under),
    )
