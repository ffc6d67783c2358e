-- What is asked about alone.
use Rattle.std.proofs.Common.{◌≡◌, ◌<◌, ℕ, List, [], ◌∷◌, inl, inr, length, refl, sym, subst, arith}
use Rattle.std.proofs.lemmas.Option.{none-some}
use Rattle.axioms.specs.Growth.{Numbers}
use Rattle.axioms.specs.Ontology.{Ontology}
use Rattle.closure.specs.Closure.{Expression, IsRoot, question}

-- what is asked about where nothing was is asked about alone
pub asked_alone : (old new : List ℕ) (e n : ℕ) → old ≡ [] → Numbers old e new n → new ≡ e ∷ []
asked_alone [] new e n none (inl at) = absurd (none-some e at.0)
asked_alone [] new e n none (inr next) = next.2
asked_alone (x ∷ xs) new e n none h = cc

-- what is asked about alone, and is there, is a root
pub is_root : (o : Ontology) (e : ℕ) (asked : List ℕ) → e < length o.nodes → asked ≡ e ∷ [] → IsRoot o asked (Expression e)
is_root o e asked there same = subst (λ (es : List ℕ). IsRoot o es (Expression e)) (sym same) (question e there (0, omega arith, refl))
