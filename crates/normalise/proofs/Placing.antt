-- Lists in one piece of memory that grows at its end.
use Rattle.std.proofs.Common.{◌≡◌, ℕ, suc, ◌+◌, ◌-◌, ◌≤◌, List, [], ◌∷◌, ◌++◌, length, take, drop, map, slice_get, Some, refl, sym, ap, ap₂, ◌∙◌, arith}
use Rattle.std.specs.Prelude.{slice_range}
use Rattle.std.proofs.lemmas.List.{length-append, length-drop, drop-append-le, take-append-le, take_all, map-append}
use Rattle.lemmas.proofs.Places.{take_push}
use Rattle.normalise.specs.declared.spans.Span.{Span}
use Rattle.normalise.specs.Spans.{IsListAt, IsSpanOf, list_at}

-- one member more behind a list that ends at the end
pub listed_more : {T : Type 0} (number : T → ℕ) (members : List T) (s : Span) (x : T) (e : ℕ) (ys : List ℕ) → s.end ≡ length members → e ≡ length members + 1 → IsListAt number members s ys
    → IsListAt number (members ++ x ∷ []) (record { start = s.start; end = e }) (ys ++ number x ∷ [])
listed_more {T} number members s x e ys at long h = record {
  within = (omega (arith, h.within.0), omega (arith, length-append members (x ∷ [])));
  listed = ap (map number) all ∙ map-append number (drop s.start members) (x ∷ []) ∙ ap (λ zs. zs ++ number x ∷ []) (sym (ap (map number) old) ∙ h.listed);
}
  where
    old : slice_range members s.start s.end ≡ drop s.start members
    old = take_all (s.end - s.start) (drop s.start members) (omega (arith, length-drop s.start members))

    all : slice_range (members ++ x ∷ []) s.start e ≡ drop s.start members ++ x ∷ []
    all = ap (take (e - s.start)) (drop-append-le s.start members (x ∷ []) (omega (arith, h.within.0)))
        ∙ take_all (e - s.start) (drop s.start members ++ x ∷ []) (omega (arith, length-append (drop s.start members) (x ∷ []), length-drop s.start members, h.within.0))

pub range-append : {T : Type 0} (items more : List T) (a b : ℕ) → a ≤ b → b ≤ length items → slice_range (items ++ more) a b ≡ slice_range items a b
range-append items more a b low high =
    ap (take (b - a)) (drop-append-le a items more (omega arith)) ∙ take-append-le (b - a) (drop a items) more (omega (arith, length-drop a items))

-- the lists that are there stay
pub lists_stay : {T : Type 0} (number : T → ℕ) (members more : List T) (spans : List Span) → ((n : ℕ) (s : Span) → slice_get spans n ≡ Some s → IsSpanOf members s)
    → map (list_at number (members ++ more)) spans ≡ map (list_at number members) spans
lists_stay number members more [] within = refl
lists_stay number members more (s ∷ spans) within =
    let here = within 0 s refl in
    ap₂ (λ x xs. x ∷ xs) (ap (map number) (range-append members more s.start s.end here.0 here.1)) (lists_stay number members more spans (λ n t g. within (suc n) t g))

-- a list is all but its last member, and that
pub all_but_last : {A : Type 0} (xs : List A) (n : ℕ) (last : A) → length xs ≡ n + 1 → slice_get xs n ≡ Some last → xs ≡ take n xs ++ last ∷ []
all_but_last xs n last l g = sym (take_all (n + 1) xs (omega arith)) ∙ take_push xs n last g
