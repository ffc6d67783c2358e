-- Facts over numbers, each once, say as many facts of the closure.
use Rattle.std.proofs.Common.{◌≡◌, ℕ, zero, suc, ◌<◌, List, [], ◌∷◌, length, slice_get, get_or, Some, refl, sym, ap, ◌∙◌, subst}
use Rattle.std.proofs.lemmas.Option.{same_Some, slice_get-get_or}
use Rattle.axioms.specs.Ontology.{Ontology}
use Rattle.facts.specs.declared.contexts.Fact as code_fact
use Rattle.facts.specs.Closure.{Problem}
use Rattle.closure.specs.Closure.{Fact, IsFact}
use Rattle.closure.specs.Denotations.{Prefixes, SaysFact, IsProblemOf}
use Rattle.closure.proofs.Names.{fact_same}
use Rattle.closure.proofs.Said.{said}
use Rattle.inference.specs.Derivations as derived
use Rattle.engine.specs.Saturations.{HasMoreFactsThan}

module _ (o : Ontology) (asked : List ℕ) (b : Prefixes) (k : Problem) (h : IsProblemOf o asked b k) where
  -- the fact is said by the one at its place, and is of the closure
  abbrev pub IsSaidAt : List code_fact.Fact → ℕ → Fact → Type 0
  IsSaidAt fs m g = (f : code_fact.Fact) × (slice_get fs m ≡ Some f) × SaysFact b f g × IsFact o asked g

  abbrev pub AreSaid : List code_fact.Fact → List Fact → Type 0
  AreSaid fs gs = (length gs ≡ length fs) × ((m : ℕ) (g : Fact) → slice_get gs m ≡ Some g → IsSaidAt fs m g)

  one_more : (f : code_fact.Fact) (fs : List code_fact.Fact) (g : Fact) (gs : List Fact) → SaysFact b f g → IsFact o asked g → AreSaid fs gs → AreSaid (f ∷ fs) (g ∷ gs)
  one_more f fs g gs says fact are = (ap suc are.0, at)
    where
      at : (m : ℕ) (g' : Fact) → slice_get (g ∷ gs) m ≡ Some g' → IsSaidAt (f ∷ fs) m g'
      at zero g' is = (f, refl, subst (SaysFact b f) (same_Some g g' is) says, subst (IsFact o asked) (same_Some g g' is) fact)
      at (suc m) g' is = are.1 m g' is

  -- where each says a fact of the closure, a list has these facts in the same order
  pub all_said : (fs : List code_fact.Fact) → ((m : ℕ) (f : code_fact.Fact) → slice_get fs m ≡ Some f → (g : Fact) × SaysFact b f g × IsFact o asked g) → (gs : List Fact) × AreSaid fs gs
  all_said [] each = ([], (refl, λ m g is. cc))
  all_said (f ∷ fs) each =
      let (g, says, fact) = each 0 f refl in
      let (gs, are) = all_said fs (λ m x is. each (suc m) x is) in
      (g ∷ gs, one_more f fs g gs says fact are)

  -- where there are more facts over numbers, the closure has more
  pub more_facts : (n : ℕ) → derived.HasMoreFactsThan k n → HasMoreFactsThan o asked n
  more_facts n more =
      let (gs, (long, at)) = all_said more.facts (λ m f is. said o asked b k h f (more.each m f is)) in
      record {
        facts = gs;
        distinct = λ m m' g is is'.
            let (f, there, says, _) = at m g is in
            let (f', there', says', _) = at m' g is' in
            more.distinct m m' f there (there' ∙ ap Some (fact_same h says' says));
        each = λ m d low. (at m (get_or gs m d) (slice_get-get_or gs m d low)).3;
        many = subst (λ l. n < l) (sym long) more.many;
      }
