-- Lines with the closure's facts, its listed interpretation and the texts of its relations are acceptable.
use Rattle.std.proofs.Common.{◌≡◌, ℕ, ◌<◌, ◌⊎◌, Bool, true, false, inl, inr, List, [], length, get_or, slice_get, Some, None, Option, All, Contains, refl, subst}
use Rattle.std.specs.Prelude.{IfSome, MatchOption}
use Rattle.std.proofs.lemmas.List.Elements.{All-nil}
use Rattle.std.proofs.lemmas.Option.{slice_get_within, slice_get-get_or}
use Rattle.lemmas.proofs.Members.{Contains-from_slice_get}
use Rattle.axioms.specs.Ontology.{Ontology, IsClassAt, nothing, individual_name, expression}
use Rattle.axioms.specs.WellFormedness.{IsOntology}
use Rattle.interpretation_spec.specs.Interpretation.{IsIn}
use Rattle.certificate.specs.Certificate.{Sub, Line, Listed, Certificate}
use Rattle.certificate.specs.Certificate as line
use Rattle.certificate.specs.Writability.{IsSomeTextOf, IsListedOf}
use Rattle.cert_check.specs.Derivation.{IsDerivation, HasLine}
use Rattle.cert_check.specs.Acceptance.{Agrees, ClaimHolds, LiesBelow, Belongs, IsConsistentShown, IsContradictionShown, IsAcceptable}
use Rattle.normal_forms.specs.Forms.{Whole}
use Rattle.closure.specs.Closure.{AreAsked, Context, Expression, Individual, In, IsRoot, IsFact}
use Rattle.closure.specs.Groups.{least_same}
use Rattle.closure.proofs.Facts as fact
use Rattle.closure.proofs.Groups.{turned, same_as_least}
use Rattle.exactness.specs.ListedInterpretation.{IsSatisfiable}
use Rattle.exactness.proofs.Complete.{listed_is_model, answered, individual_at}
use Rattle.exactness.specs.Acceptance.{AreRelations, AreTextsOfClosure, IsListedFor, ShowsClosure}
use Rattle.exactness.specs.Theorems.{HaveFacts}
use Rattle.exactness.proofs.Exact.{meets_claims}

-- what holds of each member
All-from_members : {X : Type 0} (P : X → Type 0) (xs : List X) → ((x : X) → Contains xs x → P x) → All P xs
All-from_members P xs h k d l = h (get_or xs k d) (Contains-from_slice_get xs k (get_or xs k d) (slice_get-get_or xs k d l))

decided : (b : Bool) → (b ≡ true) ⊎ (b ≡ false)
decided true = inl refl
decided false = inr refl

none_asked : (o : Ontology) → AreAsked o []
none_asked o = All-nil (λ e. e < length o.nodes)

module _ (o : Ontology) (w : IsOntology o) (lines : List Line) (derivation : IsDerivation o lines) (facts : HaveFacts o [] lines) (listed : Listed) (shown : IsListedFor o [] listed) where
  abbrev Has : Context → ℕ → Type 0
  Has x f = IsFact o [] (In (Whole f) x)

  -- a line of a context that has an element is a fact
  element_says : (m : ℕ) (x : Context) (c f : ℕ) → IsClassAt o c f → slice_get shown.elements m ≡ Some x → IsIn shown.i (expression o f) m → Has x f
  element_says m x c f class at inside = (answered o [] shown.elements shown.i w (none_asked o) shown.interpretation f m x (IsRoot.named c f class) at).0 inside

  abbrev Claims : Type 0
  Claims = ((c e m : ℕ) → IsClassAt o c e → slice_get shown.elements m ≡ Some (Expression e) → ClaimHolds o shown.i lines (e, m))
      × ((a : ℕ) → a < length o.names.individuals → Agrees o shown.i lines (line.Individual a) (shown.i.individual (individual_name o a)))

  claims : Claims
  claims = meets_claims o [] shown.elements shown.i w (none_asked o) shown.interpretation shown.consistent lines derivation facts

  -- a satisfiable named class has an element
  element_of : (c e : ℕ) → IsClassAt o c e → (Has (Expression e) nothing → ⊥) → (m : ℕ) × (slice_get shown.elements m ≡ Some (Expression e))
  element_of c e class without =
      let context : IsSatisfiable o [] (Expression e) = record { context = fact.root (IsRoot.named c e class); without_nothing = without } in
      shown.interpretation.contexts.listed (Expression e) context tt

  -- a line of a satisfiable class is a fact
  line_of_class : (c d e f : ℕ) → IsClassAt o c e → IsClassAt o d f → (Has (Expression e) nothing → ⊥) → HasLine lines (Sub (line.Expression e) f) → Has (Expression e) f
  line_of_class c d e f class above without h =
      let (m, at) = element_of c e class without in
      element_says m (Expression e) d f above at (((claims.0 c e m class at).agrees d f above).1 h)

  line_of_individual : (a d f : ℕ) → a < length o.names.individuals → IsClassAt o d f → HasLine lines (Sub (line.Individual a) f) → Has (Individual a) f
  line_of_individual a d f l class h =
      let at = individual_at o [] shown.elements shown.i w (none_asked o) shown.interpretation shown.consistent a l in
      fact.same_class (least_same o a) (turned (same_as_least o [] a))
      (element_says (shown.i.individual (individual_name o a)) (Individual (least_same o a)) d f class at ((claims.1 a l d f class).1 h))

  line_from_fact : (c d e f : ℕ) → IsClassAt o c e → IsClassAt o d f → Has (Expression e) f → HasLine lines (Sub (line.Expression e) f)
  line_from_fact c d e f class above h = facts (Expression e) f (IsRoot.named c e class) (IsRoot.named d f above) h

  module _ (lies_below belongs : ℕ → ℕ → Bool) (relations : AreRelations o lies_below belongs) where
    -- where the test says no, there are no such facts
    denied : (c d e f : ℕ) → IsClassAt o c e → IsClassAt o d f → lies_below c d ≡ false → (Has (Expression e) nothing ⊎ Has (Expression e) f) → ⊥
    denied c d e f class above fails holds = let bad = (relations.below c d e f class above).1 holds in cc

    below : LiesBelow o lines lies_below
    below = record {
      unsatisfiable = λ c e d class l h.
          let (f, above) = w.class_nodes d l in
          elim (decided (lies_below c d)) [
            | inl holds ↦ holds
            | inr fails ↦
                let none = denied c d e f class above fails in
                absurd (none (inl (line_of_class c 1 e nothing class w.nothing_node (λ k. none (inl k)) h)))
          ];
      by_line = λ c e d f class above satisfiable. (
        λ holds. elim ((relations.below c d e f class above).0 holds) [
          | inl k ↦ absurd (satisfiable (line_from_fact c 1 e nothing class w.nothing_node k))
          | inr k ↦ line_from_fact c d e f class above k
        ],
        λ h. (relations.below c d e f class above).1 (inr (line_of_class c d e f class above (λ k. satisfiable (line_from_fact c 1 e nothing class w.nothing_node k)) h)),
      );
    }

    types : Belongs o lines belongs
    types a d f l class = (
      λ holds. facts (Individual a) f (IsRoot.individual a l) (IsRoot.named d f class) ((relations.types a d f l class).0 holds),
      λ h. (relations.types a d f l class).1 (line_of_individual a d f l class h),
    )

  individuals : IsListedOf o listed → (a x : ℕ) → slice_get listed.individuals a ≡ Some x → Agrees o shown.i lines (line.Individual a) x
  individuals fits a x at =
      let l : a < length o.names.individuals = subst (λ n. a < n) fits.individuals_each (slice_get_within listed.individuals a x at) in
      subst (Agrees o shown.i lines (line.Individual a)) (shown.listing.individuals a x at) (claims.1 a l)

  pub consistent_shown : IsListedOf o listed → (taxonomy instances : List ℕ) → AreTextsOfClosure o taxonomy instances → IsConsistentShown o taxonomy instances lines listed
  consistent_shown fits taxonomy instances texts = record {
    i = shown.i;
    listing = shown.listing;
    model = listed_is_model o [] shown.elements shown.i w (none_asked o) shown.interpretation shown.consistent;
    claimed = λ c e class none.
        let (m, at) = element_of c e class (λ k. none (line_from_fact c 1 e nothing class w.nothing_node k)) in
        (m, shown.claims.all c e m class at);
    claims = All-from_members (ClaimHolds o shown.i lines) listed.claims (λ claim h.
        let (c, class, at) = shown.claims.each claim.0 claim.1 h in
        claims.0 c claim.0 claim.1 class at);
    individuals = individuals fits;
    lies_below = texts.lies_below;
    belongs = texts.belongs;
    relation = below texts.lies_below texts.belongs texts.relations;
    types = types texts.lies_below texts.belongs texts.relations;
    taxonomy_is = texts.taxonomy_is;
    instances_is = texts.instances_is;
  }

pub shown_is_acceptable : (o : Ontology) (taxonomy instances text : List ℕ) (c : Certificate) → IsOntology o → IsSomeTextOf o text c → IsDerivation o c.lines →
    MatchOption c.listed (IsContradictionShown taxonomy instances c.lines) (ShowsClosure o taxonomy instances c.lines) → IsAcceptable o taxonomy instances text
shown_is_acceptable o taxonomy instances text c w is derivation shows = record {
  certificate = c;
  text_is = is;
  derivation = derivation;
  shows = shown c.listed is.1.has_text.listed shows;
}
  where
    shown : (l : Option Listed) → IfSome l (IsListedOf o) → MatchOption l (IsContradictionShown taxonomy instances c.lines) (ShowsClosure o taxonomy instances c.lines)
        → MatchOption l (IsContradictionShown taxonomy instances c.lines) (IsConsistentShown o taxonomy instances c.lines)
    shown (Some l) fits s = consistent_shown o w c.lines derivation s.facts l s.interpretation fits taxonomy instances s.texts
    shown None fits s = s
