use Rattle.std.proofs.Common.{◌≡◌, ◌↔◌, ◌<◌, ◌∷◌, true, ℕ, List, All, length, Some, sym, ap, ◌∙◌, subst, arith}
use Rattle.std.proofs.lemmas.Option.{slice_get-get_or}
use Rattle.number_sets.specs.Members.{has}
use Rattle.generated_part.specs.Search.{IsFound}
use Rattle.generated_part.proofs.Made.{pairs_bounded, individuals_within, is_generated}
use Rattle.generated_part.proofs.generating.generated_of.Goals as goal

pub reached-requires-clause-bounded : goal.reached-requires-clause-bounded
reached-requires-clause-bounded c =
    let (i, v, by, l) = c.requires.rows in
    pairs_bounded c.args.ontology.now c.well_formed-2.ensures i v c.args.rows.now by

pub reached-requires-clause-others : goal.reached-requires-clause-others
reached-requires-clause-others c =
    let (i, v, by, l) = c.requires.rows in
    subst (All (λ x. x < length c.args.rows.now.pairs)) (sym c.deref.ensures.value)
    (individuals_within c.args.ontology.now c.well_formed-2.ensures i v c.args.rows.now by)

pub part_of-requires-clause-pairs : goal.part_of-requires-clause-pairs
part_of-requires-clause-pairs c = λ x y r h.
    let (i, v, by, l) = c.requires.rows in
    let low : y < length c.args.rows.now.pairs = pairs_bounded c.args.ontology.now c.well_formed-2.ensures i v c.args.rows.now by x (r, y) h in
    omega (arith, low, c.in_ok-marks.ensures.wide, c.in_ok-chosen.ensures.long)

pub part_of-requires-clause-individuals : goal.part_of-requires-clause-individuals
part_of-requires-clause-individuals c = λ k d h.
    let (i, v, by, l) = c.requires.rows in
    let low = individuals_within c.args.ontology.now c.well_formed-2.ensures i v c.args.rows.now by k d h in
    omega (arith, low, c.in_ok-marks.ensures.wide, c.in_ok-chosen.ensures.long)

pub returns-clause-generated : goal.returns-clause-generated
returns-clause-generated c = λ i v by.
    let (j, w, also, there) = c.requires.rows in
    let marks = c.in_ok-marks.marks in
    let chosen = c.in_ok-chosen.chosen in
    let from = c.args.from in
    let low : from < i.size = omega (arith, there, also.pairs_each, by.pairs_each) in
    let placed : from < length chosen.places.items = omega (arith, low, by.pairs_each, c.in_ok-marks.ensures.wide, c.in_ok-chosen.ensures.long) in
    is_generated c.args.ontology.now c.well_formed-2.ensures i v c.args.rows.now by from low marks (length marks) (c.in_ok-marks.ensures.wide ∙ by.pairs_each)
    (λ x. subst (λ (xs : List ℕ). (has marks x ≡ true) ↔ IsFound (from ∷ xs) c.args.rows.now.pairs x) c.deref.ensures.value (c.in_ok-marks.ensures.exact x))
    chosen.elements.items chosen.places.items c.in_ok-chosen.ensures
    c.in_ok-part.part c.well_formed-3.ensures c.in_ok-part.ensures.part
    c.index.result.now (slice_get-get_or chosen.places.items from c.index.result.now placed ∙ ap Some (sym c.index.ensures))
