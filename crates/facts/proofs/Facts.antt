-- Facts, each once.
use Rattle.std.proofs.Common.{ℕ, inl, inr, List, [], ◌∷◌, ◌++◌, take, Contains, sym, ◌∙◌, subst}
use Rattle.axioms.specs.WellFormedness.{AreDistinct}
use Rattle.lemmas.proofs.Members.{Contains-from_slice_get}
use Rattle.lemmas.proofs.Places.{slice_get_push_cases, slice_get_take}
use Rattle.facts.specs.declared.contexts.Fact.{Fact}

-- a fact more that is not there
pub distinct_push : (facts : List Fact) (fact : Fact) → AreDistinct facts → (Contains facts fact → ⊥) → AreDistinct (facts ++ fact ∷ [])
distinct_push facts fact distinct new m n f g g' =
    elim (slice_get_push_cases facts fact m f g) [
      | inl h ↦ elim (slice_get_push_cases facts fact n f g') [
        | inl h' ↦ distinct m n f h h'
        | inr (e', k') ↦ absurd (new (subst (Contains facts) (sym k') (Contains-from_slice_get facts m f h)))
      ]
      | inr (e, k) ↦ elim (slice_get_push_cases facts fact n f g') [
        | inl h' ↦ absurd (new (subst (Contains facts) (sym k) (Contains-from_slice_get facts n f h')))
        | inr (e', k') ↦ e ∙ sym e'
      ]
    ]

-- the first so many facts
pub distinct_take : (facts : List Fact) (len : ℕ) → AreDistinct facts → AreDistinct (take len facts)
distinct_take facts len distinct m n f g g' = distinct m n f (slice_get_take len facts m f g).1 (slice_get_take len facts n f g').1
