-- Elements that are chosen, one after the other.
use Rattle.std.proofs.Common.{◌≡◌, ℕ, ◌+◌, ◌<◌, inl, inr, Bool, true, false, List, [], ◌∷◌, ◌++◌, length, get_or, slice_get, Some, Contains, sym, subst, subst₂, arith}
use Rattle.std.proofs.lemmas.Bool.{both_ways, cases_eq}
use Rattle.std.proofs.lemmas.List.{length_push}
use Rattle.std.proofs.lemmas.List.Elements.{Contains-append_left, Contains-push}
use Rattle.std.proofs.lemmas.List.Kept.{AllPairs-from_increasing}
use Rattle.std.proofs.lemmas.List.Quantifiers.{all_pairs_push}
use Rattle.std.proofs.lemmas.Option.{slice_get-get_or}
use Rattle.lemmas.proofs.Places.{slice_get_push, slice_get_push_cases, keeps_push}
use Rattle.listed_model.proofs.Members.{rising}
use Rattle.number_sets.specs.Members.{has}
use Rattle.generated_part.specs.Part.{AreChosen}

module _ (marks : List Bool) where
  module _ (n : ℕ) (elements places : List ℕ) (was : AreChosen marks n elements places) where
    place_kept : (m x : ℕ) → slice_get elements m ≡ Some x → (x < n + 1) × (has marks x ≡ true) × (slice_get (places ++ length elements ∷ []) x ≡ Some m)
    place_kept m x h = (let p = was.each m x h in (omega (arith, p.0), p.1, keeps_push places (length elements) x m p.2))

    pub one_chosen : has marks n ≡ true → AreChosen marks (n + 1) (elements ++ n ∷ []) (places ++ length elements ∷ [])
    one_chosen mark = record {
      ascend = rising (elements ++ n ∷ []) (all_pairs_push (λ x y. x < y) elements n (AllPairs-from_increasing elements was.ascend) (λ k d l. (was.each k (get_or elements k d) (slice_get-get_or elements k d l)).0));
      each = λ m x h. elim (slice_get_push_cases elements n m x h) [
        | inl k ↦ place_kept m x k
        | inr k ↦
            let last : slice_get (places ++ length elements ∷ []) n ≡ Some (length elements) =
            subst (λ (j : ℕ). slice_get (places ++ length elements ∷ []) j ≡ Some (length elements)) was.long (slice_get_push places (length elements)) in
            subst₂ (λ (m x : ℕ). (x < n + 1) × (has marks x ≡ true) × (slice_get (places ++ length elements ∷ []) x ≡ Some m)) (sym k.0) k.1 (omega arith, mark, last)
      ];
      all = λ x l h. elim (cases_eq x n) [
        | inl e ↦ subst (Contains (elements ++ n ∷ [])) (sym e) (Contains-push elements n)
        | inr apart ↦ Contains-append_left elements (n ∷ []) x (was.all x (omega (arith, l, apart)) h)
      ];
      long = omega (arith, length_push places (length elements), was.long);
    }

    pub not_chosen : has marks n ≡ false → AreChosen marks (n + 1) elements (places ++ length elements ∷ [])
    not_chosen off = record {
      ascend = was.ascend;
      each = place_kept;
      all = λ x l h. elim (cases_eq x n) [
        | inl e ↦ absurd (both_ways (has marks n) off (subst (λ (k : ℕ). has marks k ≡ true) e h))
        | inr apart ↦ was.all x (omega (arith, l, apart)) h
      ];
      long = omega (arith, length_push places (length elements), was.long);
    }
