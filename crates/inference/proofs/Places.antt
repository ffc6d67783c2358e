-- Facts that have numbers.
use Rattle.std.proofs.Common.{◌≡◌, ℕ, List, [], ◌∷◌, map, slice_get, Some, refl, ap₂}
use Rattle.facts.specs.declared.contexts.Fact.{Fact}
use Rattle.inference.specs.Derivations.{Keeps}
use Rattle.inference.specs.Completeness.{AreAt}

-- facts stay where they are
pub at_still : (a b : List Fact) → Keeps a b → (numbers : List ℕ) (older : List Fact) → AreAt a numbers older → AreAt b numbers older
at_still a b keeps [] [] e = refl
at_still a b keeps [] (f ∷ fs) e = absurd (cc)
at_still a b keeps (n ∷ ns) [] e = absurd (cc)
at_still a b keeps (n ∷ ns) (f ∷ fs) e =
    let here : slice_get a n ≡ Some f = cc in
    let rest : map (slice_get a) ns ≡ map Some fs = cc in
    ap₂ (λ x xs. x ∷ xs) (keeps n f here) (at_still a b keeps ns fs rest)
