use Rattle.std.proofs.Common.{◌≡◌, inl, inr, ℕ, List, Some, slice_get, get_or, sym, ap, ◌∙◌, subst}
use Rattle.std.proofs.lemmas.List.{take_all}
use Rattle.std.proofs.lemmas.Option.{slice_get-get_or}
use Rattle.listed_model.specs.Members.{holds}
use Rattle.listed_model.specs.Rows.{IsSourceAmong}
use Rattle.listed_model.proofs.Extensions.{holds_push}
use Rattle.listed_model.proofs.Holding.{one_place_more}
use Rattle.listed_model.proofs.restriction.add_sources.Goals as goal

pub loop-place-preserved : goal.loop-place-preserved
loop-place-preserved c = λ x.
    let rows = c.args.rows.now in
    let places = c.args.places.now in
    let at = c.loop-place.place-index in
    let row = c.index-rows-place.result in
    let g : slice_get rows (get_or places at 0) ≡ Some row = slice_get-get_or rows (get_or places at 0) row (c.requires at 0 c.loop-place-test.true) ∙ ap Some (sym c.index-rows-place.is) in
    let next = one_place_more rows places at x row c.loop-place-test.true g in
    let old = c.loop-place.invariant x in
    let is = c.in_ok-push.ensures.items in
    let push = holds_push c.loop-place.sources.items row.source x in (
      λ h. elim (push.0 (sym (ap (λ xs. holds xs x) is) ∙ h)) [
        | inl m ↦ elim (old.0 m) [ inl a ↦ inl a | inr s ↦ inr (next.1 (inl s)) ]
        | inr e ↦ inr (next.1 (inr e))
      ],
      λ h. ap (λ xs. holds xs x) is ∙ push.1 (elim h [
        | inl a ↦ inl (old.1 (inl a))
        | inr s ↦ elim (next.0 s) [ inl t ↦ inl (old.1 (inr t)) | inr q ↦ inr q ]
      ]),
    )

pub returns : goal.returns
returns c = λ x.
    let all = take_all c.loop-place.place-index c.args.places.now c.loop-place-test.false in
    let old = c.loop-place.invariant x in
    let Among : List ℕ → Type 0 = λ (places : List ℕ). IsSourceAmong c.args.rows.now places x in (
      λ h. elim (old.0 h) [ inl a ↦ inl a | inr s ↦ inr (subst Among all s) ],
      λ h. old.1 (elim h [ inl a ↦ inl a | inr s ↦ inr (subst Among (sym all) s) ]),
    )
