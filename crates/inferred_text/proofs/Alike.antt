-- What the statement says that classes are the same.
use Rattle.std.proofs.Common.{◌≡◌, ◌↔◌, ℕ, true, List, [], ◌∷◌, map, All, AllPairs, inl, inr, eqb, subst, arith}
use Rattle.std.proofs.lemmas.Bool.{eqb-true, false≢true, or_cases}
use Rattle.std.proofs.lemmas.List.Elements.{All-cons, All-head, All-nil}
use Rattle.lemmas.proofs.Pairs.{AllPairs-head, AllPairs-map, AllPairs-tail}
use Rattle.axioms.specs.Axiom.{EquivalentClasses}
use Rattle.axioms.specs.Expression.{ClassExpression}
use Rattle.axioms.specs.Numbering.{States}
use Rattle.axioms.specs.Ontology.{Names}
use Rattle.interpretation_spec.specs.Interpretation.{Interpretation, IsSame, IsWithin}
use Rattle.taxonomy.specs.Following.{class_at}
use Rattle.taxonomy.specs.Superclasses.{is_among}
use Rattle.inferred_text.specs.Inferred.{sameness}
use Rattle.inferred_text.proofs.Among.{Each}
use Rattle.inferred_text.proofs.Orders.{among_there}
use Rattle.inferred_text.proofs.Holding.{Holds, all_map}

module _ (i : Interpretation) where
  pub within_itself : (c : ClassExpression) → IsWithin i c c
  within_itself c x l h = h

  pub within_through : (c d e : ClassExpression) → IsWithin i c d → IsWithin i d e → IsWithin i c e
  within_through c d e f g x l h = g x l (f x l h)

  module _ (names : Names) where
    abbrev at : ℕ → ClassExpression
    at c = class_at names c

    -- the classes of each two of the numbers are the same
    abbrev pub AreAlike : List ℕ → Type 0
    AreAlike xs = (c d : ℕ) → is_among xs c ≡ true → is_among xs d ≡ true → IsSame i (at c) (at d)

    from_pairs : (xs : List ℕ) → AllPairs (IsSame i) (map at xs) → AreAlike xs
    from_pairs [] h c d f g = absurd (false≢true f)
    from_pairs (x ∷ xs) h c d f g =
        let others : Each (λ k. IsSame i (at x) (at k)) xs = (all_map (IsSame i (at x)) at xs).0 (AllPairs-head (IsSame i) (at x) (map at xs) h) in
        elim (or_cases (eqb x c) (is_among xs c) f) [
          | inl e ↦
              elim (or_cases (eqb x d) (is_among xs d) g) [
                | inl e' ↦ subst (λ (k : ℕ). IsSame i (at k) (at d)) (eqb-true x c e) (subst (λ (k : ℕ). IsSame i (at x) (at k)) (eqb-true x d e') (within_itself (at x), within_itself (at x)))
                | inr m' ↦ subst (λ (k : ℕ). IsSame i (at k) (at d)) (eqb-true x c e) (others d m')
              ]
          | inr m ↦
              elim (or_cases (eqb x d) (is_among xs d) g) [
                | inl e' ↦ subst (λ (k : ℕ). IsSame i (at c) (at k)) (eqb-true x d e') (let s = others c m in (s.1, s.0))
                | inr m' ↦ from_pairs xs (AllPairs-tail (IsSame i) (at x) (map at xs) h) c d m m'
              ]
        ]

    to_pairs : (xs : List ℕ) → AreAlike xs → AllPairs (IsSame i) (map at xs)
    to_pairs xs h = AllPairs-map (IsSame i) at xs (λ m n c d l at_c at_d. h c d (among_there xs m c at_c) (among_there xs n d at_d))

    only_one : (x c d : ℕ) → is_among (x ∷ []) c ≡ true → is_among (x ∷ []) d ≡ true → IsSame i (at c) (at d)
    only_one x c d f g = from_pairs (x ∷ []) (λ m n e l k. absurd (omega arith)) c d f g

    -- the statement holds where the classes are the same
    pub alike : (xs : List ℕ) → All (Holds i) (sameness names xs) ↔ AreAlike xs
    alike xs = (from xs, to xs)
      where
        from : (xs : List ℕ) → All (Holds i) (sameness names xs) → AreAlike xs
        from [] h = λ c d f g. absurd (false≢true f)
        from (x ∷ []) h = only_one x
        from (x ∷ y ∷ ys) h = from_pairs (x ∷ y ∷ ys) (All-head (Holds i) (States (EquivalentClasses (map at (x ∷ y ∷ ys)))) [] h)

        to : (xs : List ℕ) → AreAlike xs → All (Holds i) (sameness names xs)
        to [] h = All-nil (Holds i)
        to (x ∷ []) h = All-nil (Holds i)
        to (x ∷ y ∷ ys) h = All-cons (Holds i) (States (EquivalentClasses (map at (x ∷ y ∷ ys)))) [] (to_pairs (x ∷ y ∷ ys) h) (All-nil (Holds i))
