-- The members of what edges lead to.
use Rattle.std.proofs.Common.{◌≡◌, ℕ, ◌<◌, ◌≤◌, List, [], length, get_or, slice_get, Some, arith}
use Rattle.std.proofs.lemmas.Option.{slice_get-get_or, slice_get_within}
use Rattle.axioms.specs.Ontology.{Ontology}
use Rattle.axioms.specs.WellFormedness.{IsOntology}
use Rattle.certificate.specs.Writability.{IsListedOf}
use Rattle.closure.specs.Closure.{Context, Expression, Individual, IsRoot}
use Rattle.closure.specs.Groups.{least_same}
use Rattle.closure.proofs.Facts as fact
use Rattle.closure.proofs.Groups.{turned, same_as_least, is_least}
use Rattle.exactness.specs.ListedInterpretation.{IsConsistent, IsSatisfiable, Leads}
use Rattle.countermodel.proofs.Facts.{satisfiable_within}
use Rattle.countermodel.specs.ContextLists.{AreAll}
use Rattle.countermodel.specs.Elements.{leader}
use Rattle.countermodel.specs.MemberRows.{AreClassRows, AreIndividualElements, HaveIndividuals}
use Rattle.countermodel.specs.PairRows.{ArePairRows}
use Rattle.countermodel.specs.Reached.{IsReachedFrom, itself, individual, onward}

pub leader_leads : (o : Ontology) (asked : List ℕ) (x : Context) → Leads o asked (leader o x)
leader_leads o asked (Expression e) = tt
leader_leads o asked (Individual a) = is_least o asked a

module _ (o : Ontology) (asked : List ℕ) (consistent : IsConsistent o asked) where
  least_within : (a : ℕ) → a < length o.names.individuals → least_same o a < length o.names.individuals
  least_within a low = let below : least_same o a ≤ a = is_least o asked a a (turned (same_as_least o asked a)) in omega arith

  -- an individual and the one that leads it are satisfiable
  individual_satisfiable : (a : ℕ) → a < length o.names.individuals → IsSatisfiable o asked (Individual a)
  individual_satisfiable a low = record { context = fact.root (IsRoot.individual a low); without_nothing = consistent.individuals a low }

  -- what leads a satisfiable context is satisfiable
  pub leader_satisfiable : IsOntology o → (x : Context) → IsSatisfiable o asked x → IsSatisfiable o asked (leader o x)
  leader_satisfiable w (Expression e) is = is
  leader_satisfiable w (Individual a) is = individual_satisfiable (least_same o a) (least_within a (satisfiable_within o asked w (Individual a) is))

  -- what is reached from what has an element has one
  pub reached_has : (from : Context) → IsSatisfiable o asked from → Leads o asked from → (x : Context) → IsReachedFrom o asked from x → IsSatisfiable o asked x × Leads o asked x
  reached_has from satisfiable leads _ itself = (satisfiable, leads)
  reached_has from satisfiable leads _ (individual a low) = (individual_satisfiable (least_same o a) (least_within a low), is_least o asked a)
  reached_has from satisfiable leads _ (onward r x h edge is there) = (is, there)

  pub individuals_there : (from : Context) (elements : List Context) → AreAll (IsReachedFrom o asked from) elements → HaveIndividuals o elements
  individuals_there from elements are a low = are.all (Individual (least_same o a)) (individual a low)

  module _ (elements : List Context) (new : ℕ) (own : Context) (at : slice_get elements new ≡ Some own) (rows : List (ℕ × List ℕ)) (class_rows : AreClassRows o asked elements rows)
      (pairs : List (ℕ × ℕ × List ℕ)) (pair_rows : ArePairRows o asked elements pairs) (numbers : List ℕ) (individuals : AreIndividualElements o elements numbers) where
    -- a value can be made of the members
    pub part_fits : (domain : ℕ) → domain ≡ length elements → (claims : List (ℕ × ℕ)) → claims ≡ [] → IsListedOf o (record { domain = domain; classes = rows; pairs = pairs; individuals = numbers; claims = claims })
    part_fits domain same claims none = rw (same, none) (record {
      domain = (let low : new < length elements = slice_get_within elements new own at in omega arith);
      classes = class_rows.within;
      classes_ascend = class_rows.ascend;
      pairs = pair_rows.within;
      pairs_ascend = pair_rows.ascend;
      individuals = λ k d l. slice_get_within elements (get_or numbers k d) (Individual (least_same o k)) (individuals.each k (get_or numbers k d) (slice_get-get_or numbers k d l));
      individuals_each = individuals.long;
      claims = λ k d l. absurd (omega (arith, l));
      claims_ascend = tt;
    })
