-- What speaks against claims and individuals, by the lists of classes and by the lines.
use Rattle.std.proofs.Common.{ℕ, List, Option, Some, None}
use Rattle.axioms.specs.Ontology.{Ontology}
use Rattle.axioms.specs.WellFormedness.{IsOntology}
use Rattle.certificate.specs.Certificate.{Listed}
use Rattle.certificate.specs.Writability.{IsListedOf}
use Rattle.cert_check.specs.Lists.{AreElementClasses, AreClaimed, IsClaimed, ClaimAgrees, ElementAgrees}
use Rattle.cert_check.specs.Verdict.{Each, HasClaim, ClaimsHold, IndividualAgrees, IsFirstWithout, ClaimsAgainstLists}
use Rattle.cert_check.specs.declared.verdict.Reason.{Reason}
use Rattle.cert_check.specs.declared.verdict.Reason.TheVariants.{ClaimMissing, ClaimDisagrees, IndividualDisagrees}
use Rattle.cert_check.proofs.Claimed.{claimed_as, claims_as, individuals_as, first_as, each_as}

-- which test of the lists, in this order, is the first that not all pass, and the first number that does not
abbrev pub ListsAgainst : (above types : List (List ℕ)) → (claimed : List (Option ℕ)) → (elements : List ℕ) → (holding : List (List ℕ)) → Option Reason → Type 0
ListsAgainst above types claimed elements holding (Some (ClaimMissing c)) = IsFirstWithout (IsClaimed above claimed) c.0
ListsAgainst above types claimed elements holding (Some (ClaimDisagrees c)) = Each (IsClaimed above claimed) × IsFirstWithout (ClaimAgrees above claimed holding) c.0
ListsAgainst above types claimed elements holding (Some (IndividualDisagrees a)) =
    Each (IsClaimed above claimed) × Each (ClaimAgrees above claimed holding) × IsFirstWithout (ElementAgrees types elements holding) a.0
ListsAgainst above types claimed elements holding None =
    Each (IsClaimed above claimed) × Each (ClaimAgrees above claimed holding) × Each (ElementAgrees types elements holding)
ListsAgainst _ _ _ _ _ _ = ⊥

module _ (o : Ontology) (w : IsOntology o) (l : Listed) (fits : IsListedOf o l) (above types : List (List ℕ)) (claimed : List (Option ℕ)) (claims : AreClaimed o l.claims claimed) where
  -- before any element is looked at
  pub unclaimed : (c : ℕ) → IsFirstWithout (IsClaimed above claimed) c → ClaimsAgainstLists o l above types (Some (ClaimMissing (record { 0 = c })))
  unclaimed c first = λ lines above_is types_are i listing good. first_as (IsClaimed above claimed) (HasClaim o lines l) (claimed_as o w lines above above_is l claimed claims) c first

  module _ (holding : List (List ℕ)) (rows : AreElementClasses o l.domain l.classes holding) where
    pub against_lists : (reason : Option Reason) → ListsAgainst above types claimed l.individuals holding reason → ClaimsAgainstLists o l above types reason
    against_lists (Some (ClaimMissing c)) h = unclaimed c.0 h
    against_lists (Some (ClaimDisagrees c)) h = λ lines above_is types_are i listing good. (
      each_as (IsClaimed above claimed) (HasClaim o lines l) (claimed_as o w lines above above_is l claimed claims) h.0,
      first_as (ClaimAgrees above claimed holding) (ClaimsHold o i lines l) (claims_as o w lines l fits i listing good holding rows above above_is claimed claims) c.0 h.1,
    )
    against_lists (Some (IndividualDisagrees a)) h = λ lines above_is types_are i listing good. (
      each_as (IsClaimed above claimed) (HasClaim o lines l) (claimed_as o w lines above above_is l claimed claims) h.0,
      each_as (ClaimAgrees above claimed holding) (ClaimsHold o i lines l) (claims_as o w lines l fits i listing good holding rows above above_is claimed claims) h.1,
      first_as (ElementAgrees types l.individuals holding) (IndividualAgrees o i lines l) (individuals_as o w lines l fits i listing good holding rows types types_are) a.0 h.2,
    )
    against_lists None h = λ lines above_is types_are i listing good. (
      each_as (IsClaimed above claimed) (HasClaim o lines l) (claimed_as o w lines above above_is l claimed claims) h.0,
      each_as (ClaimAgrees above claimed holding) (ClaimsHold o i lines l) (claims_as o w lines l fits i listing good holding rows above above_is claimed claims) h.1,
      each_as (ElementAgrees types l.individuals holding) (IndividualAgrees o i lines l) (individuals_as o w lines l fits i listing good holding rows types types_are) h.2,
    )
    against_lists _ h = absurd h
