-- What a listed interpretation's rows are.
use Rattle.std.proofs.Common.{ℕ, ◌<◌, ◌≤◌, List, [], ◌∷◌, length, map, All, AllPairs, eqb, arith, inl, inr, ◌&&◌}
use Rattle.std.specs.List.Sorted.{IsStrictlyIncreasing}
use Rattle.std.proofs.lemmas.Bool.{cases_eq, eq-eqb, ne_eqb, cases_Bool}
use Rattle.std.proofs.lemmas.List.Elements.{All-nil, All-cons, All-head, All-tail, All-weaker}
use Rattle.std.proofs.lemmas.List.Kept.{AllPairs-cons}
use Rattle.lemmas.proofs.Mapped.{All-from_map}
use Rattle.lemmas.proofs.Pairs.{AllPairs-from_map}
use Rattle.axioms.specs.Ontology.{Ontology}
use Rattle.certificate.specs.Writability.{IsListedOf, AreElements, Ascends, IsNamedClass, IsPairBefore}
use Rattle.certificate.specs.View.{class_row_of, pair_row_of, listed_of}
use Rattle.certificate.specs.declared.listed.Listed as code
use Rattle.listed_model.specs.Listing.{elements_of, targets_of}
use Rattle.listed_model.specs.Rows.{AreClassRows, ArePairRows}
use Rattle.listed_model.proofs.Members.{rising}

least : (x : ℕ) (xs : List ℕ) → Ascends (x ∷ xs) → All (λ y. x < y) xs
least x [] h = All-nil (λ y. x < y)
least x (z ∷ zs) h =
    let l = h.0 in
    All-cons (λ y. x < y) z zs l (All-weaker (λ y. z < y) (λ y. x < y) (λ y m. omega arith) zs (least z zs h.1))

rest : (x : ℕ) (xs : List ℕ) → Ascends (x ∷ xs) → Ascends xs
rest x [] h = tt
rest x (z ∷ zs) h = h.1

pub ascends_pairs : (xs : List ℕ) → Ascends xs → AllPairs (λ x y. x < y) xs
ascends_pairs [] h = λ i j d l m. absurd (omega arith)
ascends_pairs (x ∷ xs) h = AllPairs-cons (λ a b. a < b) x xs (least x xs h) (ascends_pairs xs (rest x xs h))

pub elements_rise : (domain : ℕ) (xs : List ℕ) → AreElements domain xs → IsStrictlyIncreasing xs
elements_rise domain xs h = rising xs (ascends_pairs xs h.ascend)

-- ---- the rows of the code

module _ (o : Ontology) (l : code.Listed) (fits : IsListedOf o (listed_of l)) where
  pub class_rows_given : AreClassRows l.classes.items
  class_rows_given = record {
    ordered = AllPairs-from_map (λ (x y : ℕ × List ℕ). x.0 < y.0) class_row_of l.classes.items (AllPairs-from_map (λ (x y : ℕ). x < y) (λ (c : ℕ × List ℕ). c.0) (map class_row_of l.classes.items) (ascends_pairs (map (λ (c : ℕ × List ℕ). c.0) (map class_row_of l.classes.items)) fits.classes_ascend));
    elements = λ k d b. elements_rise l.domain _ (All-from_map (λ (c : ℕ × List ℕ). IsNamedClass o c.0 × (2 ≤ c.0) × AreElements l.domain c.1) class_row_of l.classes.items fits.classes k d b).2;
  }

  pub pair_rows_given : ArePairRows l.pairs.items
  pair_rows_given = record {
    ordered = AllPairs-from_map IsPairBefore pair_row_of l.pairs.items fits.pairs_ascend;
    targets = λ k d b. elements_rise l.domain _ (All-from_map (λ (p : ℕ × ℕ × List ℕ). (p.0 < length o.names.properties) × (p.1 < l.domain) × AreElements l.domain p.2) pair_row_of l.pairs.items fits.pairs k d b).2;
    some = λ k d b. (All-from_map (λ (p : ℕ × ℕ × List ℕ). (p.0 < length o.names.properties) × (p.1 < l.domain) × AreElements l.domain p.2) pair_row_of l.pairs.items fits.pairs k d b).2.some;
  }

-- ---- what is listed

pub listed_elements : (domain : ℕ) (rows : List (ℕ × List ℕ)) (e : ℕ) (P : List ℕ → Type 0) → P [] → All (λ c. P c.1) rows → P (elements_of rows e)
listed_elements domain [] e P none all = none
listed_elements domain (c ∷ cs) e P none all = elim (cases_eq c.0 e) [
  | inl h ↦ rw (eq-eqb c.0 e h) (All-head (λ (c : ℕ × List ℕ). P c.1) c cs all)
  | inr h ↦ rw (ne_eqb c.0 e h) (listed_elements domain cs e P none (All-tail (λ (c : ℕ × List ℕ). P c.1) c cs all))
]

pub listed_targets : (rows : List (ℕ × ℕ × List ℕ)) (r x : ℕ) (P : List ℕ → Type 0) → P [] → All (λ p. P p.2) rows → P (targets_of rows r x)
listed_targets [] r x P none all = none
listed_targets (p ∷ ps) r x P none all = elim (cases_Bool (eqb p.0 r && eqb p.1 x)) [
  | inl h ↦ rw h (All-head (λ (p : ℕ × ℕ × List ℕ). P p.2) p ps all)
  | inr h ↦ rw h (listed_targets ps r x P none (All-tail (λ (p : ℕ × ℕ × List ℕ). P p.2) p ps all))
]
