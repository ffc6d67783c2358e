-- The context that has another's element: of an individual the least of its group.
use Rattle.std.proofs.Common.{◌≡◌, ℕ, inl, inr, ⊎_elim, List, subst}
use Rattle.std.proofs.lemmas.Bool.{cases_eq}
use Rattle.axioms.specs.Ontology.{Ontology}
use Rattle.closure.specs.Closure.{Context, Expression, Individual, In, IsFact}
use Rattle.closure.specs.Groups.{IsLeast, least_same}
use Rattle.closure.proofs.Facts as fact
use Rattle.closure.proofs.Groups.{turned, same_as_least, is_least, least_unique}
use Rattle.exactness.specs.ListedInterpretation.{Leads}
use Rattle.normal_forms.specs.Forms.{Class2}
use Rattle.countermodel.specs.Elements.{leader}
use Rattle.classification.proofs.Deciding.{Decided}

module _ (o : Ontology) (asked : List ℕ) where
  least_itself : (a : ℕ) → IsLeast o asked a → least_same o a ≡ a
  least_itself a least = least_unique o asked (turned (same_as_least o asked a)) (is_least o asked a) least

  -- what is a fact of the one that leads is a fact of each that it leads
  pub fact_of_leader : (x : Context) (c : Class2) → IsFact o asked (In c (leader o x)) → IsFact o asked (In c x)
  fact_of_leader (Expression e) c h = h
  fact_of_leader (Individual a) c h = fact.same_class (least_same o a) (turned (same_as_least o asked a)) h

  pub leading : (x : Context) → Decided (Leads o asked x)
  leading (Expression e) = inl tt
  leading (Individual a) = ⊎_elim
      (λ h. inl (subst (IsLeast o asked) h (is_least o asked a)))
      (λ n. inr (λ least. n (least_itself a least)))
      (cases_eq (least_same o a) a)
