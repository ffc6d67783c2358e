-- What the test of one claim tells.
use Rattle.std.proofs.Common.{◌≡◌, ◌↔◌, ℕ, ◌+◌, ◌<◌, ◌⊎◌, inl, ⊎_elim, [], ◌∷◌, Bool, true, Ok, length, refl, sym, subst}
use Rattle.axioms.specs.Growth.{most_names}
use Rattle.axioms.specs.Ontology.{Ontology, Axiom}
use Rattle.engine.specs.Saturations.{HasMoreFactsThan}
use Rattle.entailment.proofs.Saying.{claim_said, one_all}
use Rattle.entailment.specs.Claims.{IsClaimOf, IsEntailed, claimed}
use Rattle.entailment.specs.FactCounts.{HasNoMoreFactsThan}
use Rattle.entailment.specs.Testers.{HasFewInTest, IsFollowing, IsTestFor, IsTold, IsUntold}
use Rattle.entailment.specs.Tests.{IsTestOf, added_individuals, tested_class}
use Rattle.entailment.specs.declared.claim.Claim.{Claim}
use Rattle.entailment.specs.declared.fault.TestFault.TheVariants.{Limit, TooManyNames}

module _ (o : Ontology) (n : ℕ) (claim : Claim) (there : IsClaimOf o claim) where
  module _ (test : Ontology) (class : ℕ) (is : IsTestOf o claim test) (class_is : class ≡ tested_class claim) where
    tests : IsTestFor o (claimed claim) test class
    tests = record { claim = claim; there = there; says = refl; test_is = is; class_is = sym class_is }

    pub told_by : (b : Bool) → (b ≡ true) ↔ IsEntailed o claim → HasNoMoreFactsThan test (class ∷ []) n → IsTold o (claimed claim ∷ []) n (Ok b)
    told_by b exact few =
        let one = one_all (IsFollowing o) (claimed claim) in
        let law = claim_said o claim in (
          (λ t. one.1 (law.0 (exact.0 t)), λ all. exact.1 (law.1 (one.0 all))),
          λ part t. ⊎_elim (λ same. subst (λ (p : Axiom). HasFewInTest o p n) (sym same) (test, class, tests, few)) (λ h. absurd h.1) t,
        )

    pub limit_by : HasMoreFactsThan test (class ∷ []) n → IsUntold o (claimed claim ∷ []) n Limit
    limit_by more = (claimed claim, inl refl, (test, class, tests, more))

  pub full_by : most_names < length o.names.individuals + added_individuals claim → IsUntold o (claimed claim ∷ []) n TooManyNames
  full_by many = (claimed claim, inl refl, (claim, there, refl, many))
