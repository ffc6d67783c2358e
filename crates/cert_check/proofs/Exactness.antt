-- The checker accepts what is acceptable, and nothing else: what it says of a certificate that it rejects is against that.
use Rattle.std.proofs.Common.{◌≡◌, ◌↔◌, ℕ, zero, suc, ◌<◌, List, length, get_or, slice_get, Option, Some, None, IfSome, IsSomeAnd, MatchOption, Bool, refl, sym, ap, ◌∙◌, subst, inl, inr}
use Rattle.std.proofs.lemmas.List.Elements.{All-contains}
use Rattle.std.proofs.lemmas.Option.{slice_get-get_or, slice_get_within}
use Rattle.lemmas.proofs.Mapped.{slice_get_map}
use Rattle.lemmas.proofs.Members.{Contains-from_slice_get}
use Rattle.axioms.specs.Expression.{owl_nothing}
use Rattle.axioms.specs.Ontology.{Ontology, Axiom, axiom_tree, axiom_trees, thing, nothing}
use Rattle.axioms.specs.View.{at_number}
use Rattle.axioms.specs.WellFormedness.{IsOntology}
use Rattle.certificate.specs.Certificate.{Subject, Expression, Individual, Conclusion, Sub, Edge, Same, Line, Listed, Certificate}
use Rattle.certificate.specs.Writability.{IsListedOf, IsNamedClass}
use Rattle.certificate.proofs.Following.{same_some_certificate}
use Rattle.interpretation_spec.specs.Agreement.{AgreeOn}
use Rattle.interpretation_spec.specs.NamedInterpretation.{IsFirstUnsatisfied}
use Rattle.interpretation_spec.specs.Interpretation.{Interpretation, IsModel, Satisfies}
use Rattle.interpretation_spec.proofs.Agreement.{hold_same, satisfy_same}
use Rattle.taxonomy.specs.Texts.{taxonomy_text, instances_text}
use Rattle.taxonomy.proofs.Agreement.{same_taxonomy, same_instances}
use Rattle.cert_check.specs.declared.verdict.Reason.{Reason}
use Rattle.cert_check.specs.declared.verdict.Reason.TheVariants.{BadText, BadLine, AxiomFails, ClaimMissing, ClaimDisagrees, IndividualDisagrees, NoContradiction, TaxonomyDiffers, InstancesDiffer}
use Rattle.cert_check.specs.declared.verdict.Verdict.{Verdict}
use Rattle.cert_check.specs.declared.verdict.Verdict.TheVariants.{Accepted, Rejected}
use Rattle.cert_check.specs.Acceptance.{Agrees, ClaimHolds, LiesBelow, Belongs, IsConsistentShown, IsTop, of_thing, of_individual, IsContradictionShown, IsAcceptable, AreRight}
use Rattle.cert_check.specs.Derivation.{IsDerivation, HasLine}
use Rattle.cert_check.specs.Faults.{DifferFirstAt}
use Rattle.cert_check.specs.Verdict.{IsContradiction, HasContradiction, ClaimsHold, IndividualAgrees, Against, ConsistentAgainst, IsJudged, HasBadLine, HasTrueLines, IsVerdict, PassesLines}
use Rattle.cert_check.proofs.Decisions.{has_line_or_not}
use Rattle.cert_check.proofs.Derivations.{lines_true}
use Rattle.cert_check.proofs.Determined.{same_answer}
use Rattle.cert_check.proofs.Headline.{acceptable_says}
use Rattle.cert_check.proofs.Listings.{listings_agree}

-- ---- a contradiction

top_of : (lines : List Line) (k : ℕ) (line : Line) → slice_get lines k ≡ Some line → (a : Conclusion) → line.conclusion ≡ a → IsContradiction a → (s : Subject) × IsTop s × HasLine lines (Sub s nothing)
top_of lines k line g (Sub (Expression e) d) is (p, q) = (Expression thing, of_thing, (k, line, g, subst (λ f. line.conclusion ≡ Sub (Expression thing) f) q (subst (λ f. line.conclusion ≡ Sub (Expression f) d) p is)))
top_of lines k line g (Sub (Individual a) d) is q = (Individual a, of_individual, (k, line, g, subst (λ f. line.conclusion ≡ Sub (Individual a) f) q is))
top_of lines k line g (Edge x r y) is h = absurd h
top_of lines k line g (Same a b) is h = absurd h

contradicts : (s : Subject) → IsTop s → IsContradiction (Sub s nothing)
contradicts s of_thing = (refl, refl)
contradicts s of_individual = refl

has_contradiction : (taxonomy instances : List ℕ) (lines : List Line) → IsContradictionShown taxonomy instances lines → HasContradiction lines
has_contradiction t i lines s =
    let (k, line, g, is) = s.line in
    (k, line, g, subst IsContradiction (sym is) (contradicts s.subject s.top))

-- ---- nothing speaks against it

shown : (o : Ontology) (t i : List ℕ) (lines : List Line) (listed : Option Listed) → IfSome listed (IsListedOf o) → Against o t i lines listed None
    → MatchOption listed (IsContradictionShown t i lines) (IsConsistentShown o t i lines)
shown o t i lines None fits h =
    let (k, line, g, p) = h.0 in
    let (s, top, there) = top_of lines k line g line.conclusion refl p in
    record { subject = s; top = top; line = there; taxonomy_is = h.1.0; instances_is = h.1.1 }
shown o t i lines (Some l) fits h =
    let claims = h.against.1 in
    let relation = h.against.2 in
    record {
      i = h.i;
      listing = h.listing;
      model = h.against.0;
      claimed = claims.0;
      claims = λ k d lk.
          let claim = get_or l.claims k d in
          let (c, g) = (fits.claims k d lk).0 in
          claims.1 c claim.0 claim.1 g (Contains-from_slice_get l.claims k claim (slice_get-get_or l.claims k d lk));
      individuals = claims.2;
      lies_below = relation.lies_below;
      belongs = relation.belongs;
      relation = relation.relation;
      types = relation.types;
      taxonomy_is = relation.texts.0;
      instances_is = relation.texts.1;
    }

acceptable : (o : Ontology) (t i text : List ℕ) → IsJudged o t i text None → IsAcceptable o t i text
acceptable o t i text j = record {
  certificate = j.certificate;
  text_is = j.text_is;
  derivation = j.derivation;
  shows = shown o t i j.certificate.lines j.certificate.listed j.text_is.1.has_text.listed j.against;
}

-- ---- what speaks against a certificate that is acceptable

differ_not : (xs ys : List ℕ) (at : ℕ) → xs ≡ ys → DifferFirstAt xs ys at → ⊥
differ_not xs ys at e d = d.there (ap (λ (zs : List ℕ). slice_get zs at) e)

all_satisfied : (o : Ontology) (j : Interpretation) (n : ℕ) → IsModel j (axiom_trees o) → IsFirstUnsatisfied o j n → ⊥
all_satisfied o j n m h = at n h.fails
  where
    one : (k : ℕ) (v : Option Axiom) → slice_get o.axioms k ≡ v → IsSomeAnd v (λ a. Satisfies j (axiom_tree o a) → ⊥) → ⊥
    one k None e f = f
    one k (Some a) e f = f (All-contains (Satisfies j) (axiom_trees o) (axiom_tree o a) m.satisfied (Contains-from_slice_get (axiom_trees o) k (axiom_tree o a) (slice_get_map (axiom_tree o) o.axioms k a e)))

    at : (n : ℕ) → IsSomeAnd (at_number o.axioms n) (λ a. Satisfies j (axiom_tree o a) → ⊥) → ⊥
    at zero f = f
    at (suc k) f = one k (slice_get o.axioms k) refl f

module _ (o : Ontology) (w : IsOntology o) (lines : List Line) where
  below_once : (r s : ℕ → ℕ → Bool) → LiesBelow o lines r → LiesBelow o lines s → (c d : ℕ) → c < length o.names.classes → d < length o.names.classes → r c d ≡ s c d
  below_once r s p q c d lc ld =
      let (e, ge) = w.class_nodes c lc in
      let (f, gf) = w.class_nodes d ld in
      elim (has_line_or_not lines (Sub (Expression e) nothing)) [
        | inl empty ↦ p.unsatisfiable c e d ge ld empty ∙ sym (q.unsatisfiable c e d ge ld empty)
        | inr some ↦ same_answer (r c d) (s c d) (HasLine lines (Sub (Expression e) f)) (p.by_line c e d f ge gf some) (q.by_line c e d f ge gf some)
      ]

  belongs_once : (r s : ℕ → ℕ → Bool) → Belongs o lines r → Belongs o lines s → (a d : ℕ) → a < length o.names.individuals → d < length o.names.classes → r a d ≡ s a d
  belongs_once r s p q a d la ld =
      let (f, gf) = w.class_nodes d ld in
      same_answer (r a d) (s a d) (HasLine lines (Sub (Individual a) f)) (p a d f la gf) (q a d f la gf)

  module _ (t i : List ℕ) (l : Listed) (fits : IsListedOf o l) (s : IsConsistentShown o t i lines l) where
    taxonomy_once : (r : ℕ → ℕ → Bool) → LiesBelow o lines r → t ≡ taxonomy_text o.names.classes r
    taxonomy_once r p =
        s.taxonomy_is
        ∙ same_taxonomy o.names.classes (slice_get_within o.names.classes 1 owl_nothing w.nothing_name) s.lies_below r (below_once s.lies_below r s.relation p)

    instances_once : (r b : ℕ → ℕ → Bool) → LiesBelow o lines r → Belongs o lines b → i ≡ instances_text o.names.classes o.names.individuals r b
    instances_once r b p q =
        s.instances_is
        ∙ same_instances o.names.classes o.names.individuals s.lies_below r s.belongs b (below_once s.lies_below r s.relation p) (belongs_once s.belongs b s.types q)

    module _ (j : Interpretation) (agree : AgreeOn o s.i j) where
      moves : (subject : Subject) (x : ℕ) → x < l.domain → Agrees o s.i lines subject x → Agrees o j lines subject x
      moves subject x lx agrees c e g =
          let same = hold_same o w s.i j agree e x (slice_get_within o.nodes e _ g) (subst (λ n. x < n) (sym s.listing.size) lx) in
          let old = agrees c e g in
          (λ h. old.0 (same.1 h), λ h. same.0 (old.1 h))

      claims_move : (c : ℕ) → ClaimsHold o j lines l c
      claims_move c e x g k =
          let held = All-contains (ClaimHolds o s.i lines) l.claims (e, x) s.claims k in
          let lx = (All-contains (λ c. IsNamedClass o c.0 × (c.1 < l.domain)) l.claims (e, x) fits.claims k).1 in
          let same = hold_same o w s.i j agree e x (slice_get_within o.nodes e _ g) (subst (λ n. x < n) (sym s.listing.size) lx) in
          record { member = same.0 held.member; agrees = moves (Expression e) x lx held.agrees }

      individuals_move : (a : ℕ) → IndividualAgrees o j lines l a
      individuals_move a x g =
          moves (Individual a) x (All-contains (λ x. x < l.domain) l.individuals x fits.individuals (Contains-from_slice_get l.individuals a x g)) (s.individuals a x g)

    agree_with : (reason : Option Reason) (h : ConsistentAgainst o t i lines l reason) → AgreeOn o s.i h.i
    agree_with reason h = listings_agree o w l fits s.i h.i s.listing h.listing s.model.interpretation h.interpretation

    consistent_not : (reason : Reason) → ConsistentAgainst o t i lines l (Some reason) → ⊥
    consistent_not (AxiomFails n) h =
        all_satisfied o h.i n (satisfy_same o w s.i h.i (agree_with (Some (AxiomFails n)) h) h.interpretation s.model) h.against
    consistent_not (ClaimMissing c) h = h.against.1.0 (s.claimed c.0)
    consistent_not (ClaimDisagrees c) h = h.against.1.1.0 (claims_move h.i (agree_with (Some (ClaimDisagrees c)) h) c.0)
    consistent_not (IndividualDisagrees a) h = h.against.1.2.0 (individuals_move h.i (agree_with (Some (IndividualDisagrees a)) h) a.0)
    consistent_not (TaxonomyDiffers at) h =
        let r = h.against.2 in
        differ_not t (taxonomy_text o.names.classes r.lies_below) at (taxonomy_once r.lies_below r.relation) r.texts
    consistent_not (InstancesDiffer at) h =
        let r = h.against.2 in
        differ_not i (instances_text o.names.classes o.names.individuals r.lies_below r.belongs) at (instances_once r.lies_below r.belongs r.relation r.types) r.texts.1
    consistent_not (BadText at) h = h.against.2.texts
    consistent_not (BadLine n) h = h.against.2.texts
    consistent_not NoContradiction h = h.against.2.texts

contradiction_not : (t i : List ℕ) (lines : List Line) → IsContradictionShown t i lines → (o : Ontology) (reason : Reason) → Against o t i lines None (Some reason) → ⊥
contradiction_not t i lines s o NoContradiction h = h (has_contradiction t i lines s)
contradiction_not t i lines s o (TaxonomyDiffers at) h = differ_not t _ at s.taxonomy_is h.1
contradiction_not t i lines s o (InstancesDiffer at) h = differ_not i _ at s.instances_is h.1.1
contradiction_not t i lines s o (AxiomFails n) h = h.1
contradiction_not t i lines s o (ClaimMissing c) h = h.1
contradiction_not t i lines s o (ClaimDisagrees c) h = h.1
contradiction_not t i lines s o (IndividualDisagrees a) h = h.1
contradiction_not t i lines s o (BadText at) h = h.1
contradiction_not t i lines s o (BadLine n) h = h.1

nothing_against : (o : Ontology) → IsOntology o → (t i : List ℕ) (lines : List Line) (listed : Option Listed) → IfSome listed (IsListedOf o)
    → MatchOption listed (IsContradictionShown t i lines) (IsConsistentShown o t i lines) → (reason : Reason) → Against o t i lines listed (Some reason) → ⊥
nothing_against o w t i lines None fits s reason h = contradiction_not t i lines s o reason h
nothing_against o w t i lines (Some l) fits s reason h = consistent_not o w lines t i l fits s reason h

judged_not : (o : Ontology) → IsOntology o → (t i text : List ℕ) → IsAcceptable o t i text → (reason : Reason) → IsJudged o t i text (Some reason) → ⊥
judged_not o w t i text a reason j =
    let same : j.certificate ≡ a.certificate = same_some_certificate o text j.certificate a.certificate j.text_is a.text_is in
    nothing_against o w t i a.certificate.lines a.certificate.listed a.text_is.1.has_text.listed a.shows reason
    (subst (λ (c : Certificate). Against o t i c.lines c.listed (Some reason)) same j.against)

bad_line_not : (o : Ontology) (t i text : List ℕ) → IsAcceptable o t i text → (n : ℕ) → HasBadLine o text n → ⊥
bad_line_not o t i text a n b =
    let same : a.certificate ≡ b.certificate = same_some_certificate o text a.certificate b.certificate a.text_is b.text_is in
    let derivation = subst (λ (c : Certificate). IsDerivation o c.lines) same a.derivation in
    b.first.bad (derivation b.first.place b.first.line b.first.there)

rejected_not : (o : Ontology) → IsOntology o → (t i text : List ℕ) → IsAcceptable o t i text → (reason : Reason) → IsVerdict o t i text (Rejected reason) → ⊥
rejected_not o w t i text a (BadText at) v = v.none a.certificate a.text_is
rejected_not o w t i text a (BadLine n) v = bad_line_not o t i text a n v
rejected_not o w t i text a (AxiomFails n) v = judged_not o w t i text a (AxiomFails n) v
rejected_not o w t i text a (ClaimMissing c) v = judged_not o w t i text a (ClaimMissing c) v
rejected_not o w t i text a (ClaimDisagrees c) v = judged_not o w t i text a (ClaimDisagrees c) v
rejected_not o w t i text a (IndividualDisagrees c) v = judged_not o w t i text a (IndividualDisagrees c) v
rejected_not o w t i text a NoContradiction v = judged_not o w t i text a NoContradiction v
rejected_not o w t i text a (TaxonomyDiffers at) v = judged_not o w t i text a (TaxonomyDiffers at) v
rejected_not o w t i text a (InstancesDiffer at) v = judged_not o w t i text a (InstancesDiffer at) v

-- ---- both ways

pub accepted_exactly : (o : Ontology) → IsOntology o → (t i text : List ℕ) (v : Verdict) → IsVerdict o t i text v → (v ≡ Accepted) ↔ IsAcceptable o t i text
accepted_exactly o w t i text Accepted j = (λ e. acceptable o t i text j, λ a. refl)
accepted_exactly o w t i text (Rejected reason) j = (λ e. cc, λ a. absurd (rejected_not o w t i text a reason j))

-- what a yes says
pub accepted_right : (o : Ontology) → IsOntology o → (t i text : List ℕ) (v : Verdict) → IsVerdict o t i text v → v ≡ Accepted → AreRight o t i text
accepted_right o w t i text v j e =
    let a = (accepted_exactly o w t i text v j).0 e in
    record { certificate = a.certificate; text_is = a.text_is; derivation = a.derivation; says = acceptable_says o w t i text a }

-- ---- lines that were passed

module _ (o : Ontology) (w : IsOntology o) (t i text : List ℕ) where
  judged_lines : (reason : Option Reason) → IsJudged o t i text reason → HasTrueLines o text
  judged_lines reason j = record {
    certificate = j.certificate;
    text_is = j.text_is;
    lines = λ m model n line g. lines_true o w j.certificate.lines j.derivation m model n line g;
  }

  pub passed_lines : (v : Verdict) → IsVerdict o t i text v → PassesLines v → HasTrueLines o text
  passed_lines Accepted j p = judged_lines None j
  passed_lines (Rejected (BadText at)) j p = absurd p
  passed_lines (Rejected (BadLine n)) j p = absurd p
  passed_lines (Rejected (AxiomFails n)) j p = judged_lines (Some (AxiomFails n)) j
  passed_lines (Rejected (ClaimMissing c)) j p = judged_lines (Some (ClaimMissing c)) j
  passed_lines (Rejected (ClaimDisagrees c)) j p = judged_lines (Some (ClaimDisagrees c)) j
  passed_lines (Rejected (IndividualDisagrees a)) j p = judged_lines (Some (IndividualDisagrees a)) j
  passed_lines (Rejected NoContradiction) j p = judged_lines (Some NoContradiction) j
  passed_lines (Rejected (TaxonomyDiffers at)) j p = judged_lines (Some (TaxonomyDiffers at)) j
  passed_lines (Rejected (InstancesDiffer at)) j p = judged_lines (Some (InstancesDiffer at)) j
