-- What an acceptable certificate shows.
use Rattle.std.proofs.Common.{◌≡◌, ℕ, ◌<◌, List, length, get_or, slice_get, true, false, true≢false, Some, None, MatchOption, IfSome, Option, refl, sym, ◌∙◌, subst, ◌⊎◌, inl, inr}
use Rattle.std.specs.List.{Contains}
use Rattle.std.proofs.lemmas.Option.{slice_get-get_or}
use Rattle.std.proofs.lemmas.List.Elements.{All-contains}
use Rattle.axioms.specs.Expression.{Named}
use Rattle.interpretation_spec.specs.Interpretation.{Interpretation, IsIn, IsContradictory}
use Rattle.axioms.specs.Ontology.{Ontology, name_at, expression, individual_name, axiom_trees, IsClassAt, nothing}
use Rattle.certificate.specs.Certificate.{Subject, Expression, Individual, Sub, Line, Listed}
use Rattle.cert_check.specs.Derivation.{IsDerivation, HasLine}
use Rattle.certificate.specs.Writability.{IsListedOf, IsNamedClass}
use Rattle.cert_check.specs.Acceptance.{Agrees, ClaimHolds, IsConsistentShown, IsTop, of_thing, of_individual, IsContradictionShown, IsAcceptable, ClassBelow, HasType, IsRefutedByClaim, SaysConsistent, SaysContradictory, Says}
use Rattle.axioms.specs.WellFormedness.{IsOntology}
use Rattle.axioms.proofs.Trees.{class_tree}
use Rattle.interpretation_spec.proofs.Extensions.{in_thing, not_in_nothing}
use Rattle.cert_check.proofs.Derivations.{line_true}
use Rattle.cert_check.proofs.Decisions.{has_line_or_not}

-- ---- a named class and its expression have the same elements

to_name : (o : Ontology) (i : Interpretation) (c e x : ℕ) → IsClassAt o c e → IsIn i (expression o e) x → IsIn i (Named (name_at o.names.classes c)) x
to_name o i c e x g h = subst (λ t. IsIn i t x) (class_tree o c e g) h

from_name : (o : Ontology) (i : Interpretation) (c e x : ℕ) → IsClassAt o c e → IsIn i (Named (name_at o.names.classes c)) x → IsIn i (expression o e) x
from_name o i c e x g h = subst (λ t. IsIn i t x) (sym (class_tree o c e g)) h

module _ (o : Ontology) (w : IsOntology o) (lines : List Line) (derivation : IsDerivation o lines) where
  -- ---- what a line shows

  line_below : (c d e f : ℕ) → IsClassAt o c e → IsClassAt o d f → HasLine lines (Sub (Expression e) f) → ClassBelow o c d
  line_below c d e f ge gf h i m x l k =
      to_name o i d f x gf (line_true o w lines derivation i m (Sub (Expression e) f) h x l (from_name o i c e x ge k))

  empty_below : (c d e : ℕ) → IsClassAt o c e → HasLine lines (Sub (Expression e) nothing) → ClassBelow o c d
  empty_below c d e ge h i m x l k =
      absurd (not_in_nothing o w i m.interpretation x l (line_true o w lines derivation i m (Sub (Expression e) nothing) h x l (from_name o i c e x ge k)))

  line_type : (a d f : ℕ) → IsClassAt o d f → HasLine lines (Sub (Individual a) f) → HasType o a d
  line_type a d f gf h i m =
      let x = i.individual (individual_name o a) in
      to_name o i d f x gf (line_true o w lines derivation i m (Sub (Individual a) f) h x (m.interpretation.individuals (individual_name o a)) refl)

  line_contradicts : (subject : Subject) → IsTop subject → HasLine lines (Sub subject nothing) → IsContradictory (axiom_trees o)
  line_contradicts subject of_thing h i m =
      let l = m.interpretation.inhabited in
      not_in_nothing o w i m.interpretation 0 l (line_true o w lines derivation i m (Sub (Expression 0) nothing) h 0 l (in_thing o w i m.interpretation 0 l))
  line_contradicts subject (of_individual {a = a}) h i m =
      let x = i.individual (individual_name o a) in
      let l = m.interpretation.individuals (individual_name o a) in
      not_in_nothing o w i m.interpretation x l (line_true o w lines derivation i m (Sub (Individual a) nothing) h x l refl)

  -- ---- what a listed interpretation shows

  module _ (taxonomy instances : List ℕ) (listed : Listed) (fits : IsListedOf o listed) (s : IsConsistentShown o taxonomy instances lines listed) where
    satisfiable : (c e : ℕ) → IsClassAt o c e → (HasLine lines (Sub (Expression e) nothing) → ⊥) → (x : ℕ) × Contains listed.claims (e, x) × (x < s.i.size) × ClaimHolds o s.i lines (e, x)
    satisfiable c e g h =
        let (x, k) = s.claimed c e g h in
        let within : x < listed.domain = (All-contains (λ c. IsNamedClass o c.0 × (c.1 < listed.domain)) listed.claims (e, x) fits.claims k).1 in
        (x, k, rw s.listing.size within, All-contains (ClaimHolds o s.i lines) listed.claims (e, x) s.claims k)

    individual_at : (a : ℕ) → a < length o.names.individuals → Agrees o s.i lines (Individual a) (s.i.individual (individual_name o a))
    individual_at a l =
        let x = get_or listed.individuals a 0 in
        let g : slice_get listed.individuals a ≡ Some x = slice_get-get_or listed.individuals a 0 (rw fits.individuals_each l) in
        subst (Agrees o s.i lines (Individual a)) (sym (s.listing.individuals a x g)) (s.individuals a x g)

    below_yes : (c d e f : ℕ) → IsClassAt o c e → IsClassAt o d f → s.lies_below c d ≡ true → HasLine lines (Sub (Expression e) nothing) ⊎ HasLine lines (Sub (Expression e) f)
    below_yes c d e f ge gf h =
        elim (has_line_or_not lines (Sub (Expression e) nothing)) [
          | inl empty ↦ inl empty
          | inr some ↦ inr ((s.relation.by_line c e d f ge gf some).0 h)
        ]

    below_true : (c d : ℕ) → c < length o.names.classes → d < length o.names.classes → s.lies_below c d ≡ true → ClassBelow o c d
    below_true c d lc ld h =
        let (e, ge) = w.class_nodes c lc in
        let (f, gf) = w.class_nodes d ld in
        elim (below_yes c d e f ge gf h) [
          | inl empty ↦ empty_below c d e ge empty
          | inr line ↦ line_below c d e f ge gf line
        ]

    true_below : (c d : ℕ) → c < length o.names.classes → d < length o.names.classes → ClassBelow o c d → s.lies_below c d ≡ true
    true_below c d lc ld h =
        let (e, ge) = w.class_nodes c lc in
        let (f, gf) = w.class_nodes d ld in
        elim (has_line_or_not lines (Sub (Expression e) nothing)) [
          | inl empty ↦ s.relation.unsatisfiable c e d ge ld empty
          | inr some ↦
              let (x, _, l, claim) = satisfiable c e ge some in
              (s.relation.by_line c e d f ge gf some).1
              ((claim.agrees d f gf).0 (from_name o s.i d f x gf (h s.i s.model x l (to_name o s.i c e x ge claim.member))))
        ]

    type_true : (a d : ℕ) → a < length o.names.individuals → d < length o.names.classes → s.belongs a d ≡ true → HasType o a d
    type_true a d la ld h =
        let (f, gf) = w.class_nodes d ld in
        line_type a d f gf ((s.types a d f la gf).0 h)

    true_type : (a d : ℕ) → a < length o.names.individuals → d < length o.names.classes → IsIn s.i (Named (name_at o.names.classes d)) (s.i.individual (individual_name o a)) → s.belongs a d ≡ true
    true_type a d la ld h =
        let (f, gf) = w.class_nodes d ld in
        (s.types a d f la gf).1 ((individual_at a la d f gf).0 (from_name o s.i d f (s.i.individual (individual_name o a)) gf h))

    refuted_below : (c d : ℕ) → c < length o.names.classes → d < length o.names.classes → s.lies_below c d ≡ false → IsRefutedByClaim o listed s.i c d
    refuted_below c d lc ld h =
        let (e, ge) = w.class_nodes c lc in
        let (f, gf) = w.class_nodes d ld in
        let some : HasLine lines (Sub (Expression e) nothing) → ⊥ = λ empty. true≢false (sym (s.relation.unsatisfiable c e d ge ld empty) ∙ h) in
        let (x, claimed, l, claim) = satisfiable c e ge some in
        record {
          class = e;
          class_is = ge;
          element = x;
          claimed = claimed;
          within = l;
          member = to_name o s.i c e x ge claim.member;
          outside = λ k. true≢false (sym ((s.relation.by_line c e d f ge gf some).1 ((claim.agrees d f gf).0 (from_name o s.i d f x gf k))) ∙ h);
        }

    says_consistent : SaysConsistent o taxonomy instances lines listed
    says_consistent = record {
      lies_below = s.lies_below;
      belongs = s.belongs;
      determined = record {
        below = λ c d lc ld. (below_true c d lc ld, true_below c d lc ld);
        types = λ a d la ld. (type_true a d la ld, λ h. true_type a d la ld (h s.i s.model));
        taxonomy_is = s.taxonomy_is;
        instances_is = s.instances_is;
      };
      consistent = λ h. h s.i s.model;
      derived = record { below = below_yes; types = λ a d f la gf. (s.types a d f la gf).0 };
      i = s.i;
      listing = s.listing;
      model = s.model;
      refuted = record {
        below = refuted_below;
        types = λ a d la ld h k. true≢false (sym (true_type a d la ld k) ∙ h);
      };
    }

  says_contradictory : (taxonomy instances : List ℕ) → IsContradictionShown taxonomy instances lines → SaysContradictory o taxonomy instances lines
  says_contradictory taxonomy instances s = record { contradictory = line_contradicts s.subject s.top s.line; shown = s }

says : (o : Ontology) → IsOntology o → (taxonomy instances : List ℕ) (lines : List Line) → IsDerivation o lines → (listed : Option Listed) → IfSome listed (IsListedOf o) → MatchOption listed (IsContradictionShown taxonomy instances lines) (IsConsistentShown o taxonomy instances lines) → MatchOption listed (SaysContradictory o taxonomy instances lines) (SaysConsistent o taxonomy instances lines)
says o w taxonomy instances lines derivation None fits shown = says_contradictory o w lines derivation taxonomy instances shown
says o w taxonomy instances lines derivation (Some listed) fits shown = says_consistent o w lines derivation taxonomy instances listed fits shown

-- the checker's yes means what the texts say
pub acceptable_says : (o : Ontology) → IsOntology o → (taxonomy instances text : List ℕ) (a : IsAcceptable o taxonomy instances text) → Says o taxonomy instances a.certificate
acceptable_says o w taxonomy instances text a =
    says o w taxonomy instances a.certificate.lines a.derivation a.certificate.listed a.text_is.1.has_text.listed a.shows
