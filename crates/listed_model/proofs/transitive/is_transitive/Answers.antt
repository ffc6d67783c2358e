use Rattle.std.proofs.Common.{◌≡◌, ◌↔◌, ◌<◌, ℕ, List, Bool, Some, Contains, slice_get, get_or, map, length, sym, ap, ◌∙◌, subst, refl, true, false, true≢false, inl, inr}
use Rattle.std.proofs.lemmas.Bool.{cases_eq}
use Rattle.std.proofs.lemmas.List.{get_or_default, get_or-set_other, length-set, take_all}
use Rattle.std.proofs.lemmas.Option.{slice_get-get_or, slice_get_within, get_or_from_slice_get}
use Rattle.lemmas.proofs.Members.{slice_get-from_Contains, Contains-from_slice_get}
use Rattle.certificate.specs.View.{pair_row_of, targets_in}
use Rattle.certificate.specs.declared.listed.PairRow.{PairRow}
use Rattle.number_sets.specs.Members.{has}
use Rattle.listed_model.specs.Listing.{targets_of}
use Rattle.listed_model.specs.Members.{holds}
use Rattle.listed_model.specs.Rows.{ClosedAt}
use Rattle.listed_model.specs.WideRows.{AreClosed}
use Rattle.listed_model.proofs.Covering.{row_rises}
use Rattle.listed_model.proofs.Found.{target_row}
use Rattle.listed_model.proofs.Walks.{holds_next, row_targets}
use Rattle.listed_model.proofs.transitive.is_transitive.Goals as goal

-- the targets of a source are closed where it is
closed_source : (rows : List (ℕ × ℕ × List ℕ)) (r source : ℕ) (targets : List ℕ) → targets_of rows r source ≡ targets → AreClosed rows r targets ↔ ClosedAt rows r source
closed_source rows r source targets is = (subst (AreClosed rows r) (sym is), subst (AreClosed rows r) is)

-- where it is closed at the source of each row, it is closed everywhere
closed_everywhere : (rows of_property : List PairRow) (r : ℕ) → ((row : PairRow) → Contains of_property row ↔ (Contains rows row × (row.property.0 ≡ r)))
    → ((k : ℕ) (d : PairRow) → k < length of_property → ClosedAt (map pair_row_of rows) r (get_or of_property k d).source) → (x : ℕ) → ClosedAt (map pair_row_of rows) r x
closed_everywhere rows of_property r those h x y t =
    let (m, row, g, p, s, u) = target_row rows r x y t in
    let (k, i) = slice_get-from_Contains of_property row ((those row).1 (Contains-from_slice_get rows m row g, p)) in
    let within = slice_get_within of_property k row i in
    let here = ap (λ (w : PairRow). w.source) (get_or_from_slice_get of_property k row row i) ∙ s in
    subst (ClosedAt (map pair_row_of rows) r) here (h k row within) y t

-- the place that comes next
place_below : (places items : List ℕ) (n i : ℕ) → items ≡ places → ((k d : ℕ) → k < length places → get_or places k d < n) → i < length items → get_or items i 0 < n
place_below places items n i e all l = subst (λ (xs : List ℕ). get_or xs i 0 < n) (sym e) (all i 0 (subst (λ (xs : List ℕ). i < length xs) e l))

pub is_row_closed-requires-clause-row : goal.is_row_closed-requires-clause-row
is_row_closed-requires-clause-row c =
    let rows = c.args.rows.now in
    let r = c.args.property.0 in
    let items = c.rows_of-items.result.now in
    let row = c.index-items-place.result in
    let place_items = c.deref-place-items.result.now in
    let place = get_or place_items c.loop-place.place-index 0 in
    let within = place_below c.in_ok-places.places.items place_items (length items) c.loop-place.place-index c.deref-place-items.ensures.value c.in_ok-places.ensures.within c.loop-place-test.true in
    let g : slice_get items place ≡ Some row = slice_get-get_or items place row within ∙ ap Some (sym c.index-items-place.is) in
    row_targets rows items r c.requires c.rows_of-items.ensures place row g

pub is_row_closed-requires-clause-ascending : goal.is_row_closed-requires-clause-ascending
is_row_closed-requires-clause-ascending c =
    let rows = c.args.rows.now in
    let r = c.args.property.0 in
    let items = c.rows_of-items.result.now in
    let row = c.index-items-place.result in
    let place_items = c.deref-place-items.result.now in
    let place = get_or place_items c.loop-place.place-index 0 in
    let within = place_below c.in_ok-places.places.items place_items (length items) c.loop-place.place-index c.deref-place-items.ensures.value c.in_ok-places.ensures.within c.loop-place-test.true in
    let g : slice_get items place ≡ Some row = slice_get-get_or items place row within ∙ ap Some (sym c.index-items-place.is) in
    row_rises rows items r c.requires c.rows_of-items.ensures place row g

pub returns-then-not-branch-clause-transitive : goal.returns-then-not-branch-clause-transitive
returns-then-not-branch-clause-transitive c =
    let rows = c.args.rows.now in
    let r = c.args.property.0 in
    let items = c.rows_of-items.result.now in
    let row = c.index-items-place.result in
    let place_items = c.deref-place-items.result.now in
    let place = get_or place_items c.loop-place.place-index 0 in
    let within = place_below c.in_ok-places.places.items place_items (length items) c.loop-place.place-index c.deref-place-items.ensures.value c.in_ok-places.ensures.within c.loop-place-test.true in
    let g : slice_get items place ≡ Some row = slice_get-get_or items place row within ∙ ap Some (sym c.index-items-place.is) in
    let both = closed_source (map pair_row_of rows) r row.source (targets_in row.targets) (row_targets rows items r c.requires c.rows_of-items.ensures place row g) in (
      λ e. absurd (true≢false (sym e)),
      λ h. sym c.if-not-branch.true ∙ c.in_ok-is_row_closed.ensures.closed.1 (both.1 (h row.source)),
    )

pub loop-place-preserved : goal.loop-place-preserved
loop-place-preserved c =
    let rows = c.args.rows.now in
    let r = c.args.property.0 in
    let items = c.rows_of-items.result.now in
    let row = c.index-items-place.result in
    let place_items = c.deref-place-items.result.now in
    let place = get_or place_items c.loop-place.place-index 0 in
    let within = place_below c.in_ok-places.places.items place_items (length items) c.loop-place.place-index c.deref-place-items.ensures.value c.in_ok-places.ensures.within c.loop-place-test.true in
    let g : slice_get items place ≡ Some row = slice_get-get_or items place row within ∙ ap Some (sym c.index-items-place.is) in
    let all = c.in_ok-is_row_closed.ensures.closed.0 c.if-not-branch.false in
    let both = closed_source (map pair_row_of rows) r row.source (targets_in row.targets) (row_targets rows items r c.requires c.rows_of-items.ensures place row g) in
    let closed : ClosedAt (map pair_row_of rows) r row.source = both.0 all in
    let old = c.loop-place.invariant in
    record {
      len = c.in_ok-is_row_closed.ensures.len ∙ old.len;
      room = ap length c.put.ensures.after ∙ length-set c.loop-place.done row.source true ∙ old.room;
      last = subst (AreClosed (map pair_row_of rows) r) (sym c.as_slice-last.ensures) all;
      done = λ y h. elim (cases_eq y row.source) [
        | inl e ↦ subst (ClosedAt (map pair_row_of rows) r) (sym e) closed
        | inr ne ↦ old.done y (sym (get_or-set_other c.loop-place.done row.source y true false ne) ∙ ap (λ (marks : List Bool). has marks y) (sym c.put.ensures.after) ∙ h)
      ];
      each = λ k h d l. elim ((holds_next place_items c.loop-place.place-index 0 k c.loop-place-test.true).0 h) [
        | inl m ↦ old.each k m d l
        | inr e ↦
            (let here : get_or items k d ≡ row = get_or_default items k d row l ∙ ap (λ n. get_or items n row) (sym e) ∙ sym c.index-items-place.is in
            subst (λ (w : PairRow). ClosedAt (map pair_row_of rows) r w.source) (sym here) closed)
      ];
    }

pub returns-clause-transitive : goal.returns-clause-transitive
returns-clause-transitive c =
    let items = c.rows_of-items.result.now in
    let place_items = c.deref-place-items.result.now in
    let all = take_all c.loop-place.place-index place_items c.loop-place-test.false ∙ c.deref-place-items.ensures.value in (
      λ _. closed_everywhere c.args.rows.now items c.args.property.0 c.rows_of-items.ensures (λ k d l. c.loop-place.invariant.each k (ap (λ xs. holds xs k) all ∙ c.in_ok-places.ensures.all k l) d l),
      λ _. refl,
    )
