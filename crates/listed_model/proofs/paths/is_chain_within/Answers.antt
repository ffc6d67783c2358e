use Rattle.std.proofs.Common.{◌≡◌, ◌<◌, ◌-◌, ℕ, List, [], ◌∷◌, Some, slice_get, length, map, take, drop, get_or, sym, ap, ◌∙◌, subst, refl, true, true≢false, arith}
use Rattle.std.proofs.lemmas.List.{take_rest}
use Rattle.std.proofs.lemmas.Option.{slice_get-get_or}
use Rattle.axioms.specs.View.{prop_numbers}
use Rattle.axioms.specs.declared.ids.PropId.{PropId}
use Rattle.certificate.specs.View.{pair_row_of, targets_in}
use Rattle.certificate.specs.declared.listed.PairRow.{PairRow}
use Rattle.listed_model.specs.Listing.{targets_of}
use Rattle.listed_model.specs.Members.{holds}
use Rattle.listed_model.specs.Rows.{HasListedPath}
use Rattle.listed_model.proofs.Walks.{all_before_next, list_all_means, row_pair, each_pair}
use Rattle.listed_model.proofs.paths.is_chain_within.Goals as goal

-- the first and the others
parted : (chain : List PropId) (none : PropId) → 0 < length chain → prop_numbers chain ≡ (get_or chain 0 none).0 ∷ prop_numbers (take (length chain - 1) (drop 1 chain))
parted [] none l = absurd (omega arith)
parted (p ∷ ps) none l = ap (λ (rest : List PropId). p.0 ∷ prop_numbers rest) (sym (take_rest (p ∷ ps) 1))

pub returns-then-not-are_within-clause-within : goal.returns-then-not-are_within-clause-within
returns-then-not-are_within-clause-within c =
    let rows = c.args.rows.now in
    let chain = c.args.chain.now in
    let none : PropId = record { 0 = 0 } in
    let first = (get_or chain 0 none).0 in
    let rest = take (length chain - 1) (drop 1 chain) in
    let more = parted chain none c.requires.some in
    let items = c.rows_of-items.result.now in
    let at = c.loop-row.row-index in
    let row = c.row-item.result in
    let g : slice_get items at ≡ Some row = slice_get-get_or items at row c.loop-row-test.true ∙ ap Some (sym c.row-item.is) in (
      λ e. absurd (true≢false (sym e)),
      λ h. sym c.if-not-are_within.true ∙ c.are_within.ensures ∙ (list_all_means c.targets_at.result.now c.deref-in-loop-row.result.now).1 (λ y t.
          let (z, s, p) = (c.in_ok-ends.ensures.members y).0 (ap (λ xs. holds xs y) (sym c.deref-in-loop-row.ensures.value) ∙ t) in
          let q = row_pair rows items first c.requires.rows c.rows_of-items.ensures at row g z (ap (λ xs. holds xs z) (sym c.as_slice-sources.ensures) ∙ s) in
          ap (λ ts. holds ts y) c.targets_at.ensures.targets ∙ h row.source y (subst (λ (rs : List ℕ). HasListedPath (map pair_row_of rows) rs row.source y) (sym more) (z, q, p))),
    )

pub loop-row-preserved : goal.loop-row-preserved
loop-row-preserved c =
    let rows = c.args.rows.now in
    let chain = c.args.chain.now in
    let rest = take (length chain - 1) (drop 1 chain) in
    let items = c.rows_of-items.result.now in
    let at = c.loop-row.row-index in
    let row = c.row-item.result in
    let g : slice_get items at ≡ Some row = slice_get-get_or items at row c.loop-row-test.true ∙ ap Some (sym c.row-item.is) in
    let P : PairRow → Type 0 = λ (row : PairRow). (z y : ℕ) → holds (targets_in row.targets) z ≡ true → HasListedPath (map pair_row_of rows) (prop_numbers rest) z y → holds (targets_of (map pair_row_of rows) c.args.above.0 row.source) y ≡ true in
    record {
      len = c.next_ends.ensures.len ∙ c.loop-row.invariant.len;
      last = c.in_ok-ends.ensures.members;
      each = all_before_next P items at row g c.loop-row.invariant.each (λ z y s p.
          let t = (c.in_ok-ends.ensures.members y).1 (z, ap (λ xs. holds xs z) c.as_slice-sources.ensures ∙ s, p) in
          ap (λ ts. holds ts y) (sym c.targets_at.ensures.targets)
          ∙ (list_all_means c.targets_at.result.now c.deref-in-loop-row.result.now).0 (sym c.are_within.ensures ∙ c.if-not-are_within.false) y (ap (λ xs. holds xs y) c.deref-in-loop-row.ensures.value ∙ t));
    }

pub returns-clause-within : goal.returns-clause-within
returns-clause-within c =
    let rows = c.args.rows.now in
    let chain = c.args.chain.now in
    let none : PropId = record { 0 = 0 } in
    let first = (get_or chain 0 none).0 in
    let rest = take (length chain - 1) (drop 1 chain) in
    let more = parted chain none c.requires.some in (
      λ _ x y p.
          let (z, s, q) = subst (λ (rs : List ℕ). HasListedPath (map pair_row_of rows) rs x y) more p in
          each_pair rows c.rows_of-items.result.now first c.requires.rows c.rows_of-items.ensures c.loop-row.row-index c.loop-row-test.false
          (λ x z. HasListedPath (map pair_row_of rows) (prop_numbers rest) z y → holds (targets_of (map pair_row_of rows) c.args.above.0 x) y ≡ true)
          (λ k row l g z s p. c.loop-row.invariant.each k row l g z y s p) x z s q,
      λ _. refl,
    )
