use Rattle.std.proofs.Common.{◌≡◌, ◌↔◌, refl, true, ℕ, List, [], ◌∷◌, length, map, get_or, sym, subst, arith}
use Rattle.std.proofs.lemmas.Result.{IfOk-weaker}
use Rattle.axioms.specs.View.{prop_numbers}
use Rattle.axioms.specs.declared.ids.PropId.{PropId}
use Rattle.certificate.specs.View.{pair_row_of}
use Rattle.listed_model.specs.Rows.{HasListedPath, LiesWithin}
use Rattle.listed_model.specs.Listing.{targets_of}
use Rattle.listed_model.specs.Members.{holds}
use Rattle.listed_model.proofs.satisfaction.is_sub_property.Goals as goal

-- a path along one property is a pair of it
one_step : (rows : List (ℕ × ℕ × List ℕ)) (r s : ℕ) (rs : List ℕ) → rs ≡ r ∷ [] → LiesWithin rows r s ↔ ((x y : ℕ) → HasListedPath rows rs x y → holds (targets_of rows s x) y ≡ true)
one_step rows r s rs is = subst (λ (qs : List ℕ). LiesWithin rows r s ↔ ((x y : ℕ) → HasListedPath rows qs x y → holds (targets_of rows s x) y ≡ true)) (sym is) (
  λ h x y (z, t, e). h x y (subst (λ (v : ℕ). holds (targets_of rows r x) v ≡ true) e t),
  λ h x y t. h x y (y, t, refl),
)

alone : (chain : List PropId) (none : PropId) → length chain ≡ 1 → prop_numbers chain ≡ (get_or chain 0 none).0 ∷ []
alone [] none e = absurd (omega arith)
alone (p ∷ []) none e = refl
alone (p ∷ q ∷ ps) none e = absurd (omega arith)

pub returns-then-chain-eq1-clause-within : goal.returns-then-chain-eq1-clause-within
returns-then-chain-eq1-clause-within c =
    let rows = map pair_row_of c.args.rows.now in
    let chain = c.args.chain.now in
    let none : PropId = record { 0 = 0 } in
    let first = (get_or chain 0 none).0 in
    let one = one_step rows first c.args.above.0 (prop_numbers chain) (alone chain none c.if-chain-eq1.true) in
    IfOk-weaker c.lies_within.result _ _ (λ b h. (λ t. one.0 (h.0 t), λ k. h.1 (one.1 k))) c.lies_within.ensures.within
