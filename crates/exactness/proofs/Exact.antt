-- The facts are exactly what follows from the axioms, of named classes, asked expressions and individuals.
use Rattle.std.proofs.Common.{◌≡◌, ℕ, ◌<◌, ◌↔◌, List, length, slice_get, Some, refl}
use Rattle.axioms.specs.Ontology.{Ontology, IsClassAt, thing, nothing, individual_name, expression, axiom_trees}
use Rattle.axioms.specs.WellFormedness.{IsOntology}
use Rattle.interpretation_spec.specs.Interpretation.{IsBelow, Interpretation, IsModel, IsIn, IsMember, IsContradictory}
use Rattle.interpretation_spec.proofs.Extensions.{in_thing, not_in_nothing}
use Rattle.certificate.specs.Certificate.{Conclusion, Sub}
use Rattle.cert_check.specs.Lines.{IsTrueIn, IsOf}
use Rattle.certificate.specs.Certificate as line
use Rattle.certificate.specs.Certificate.{Line}
use Rattle.cert_check.specs.Derivation.{IsDerivation}
use Rattle.cert_check.specs.Acceptance.{Agrees, ClaimHolds}
use Rattle.cert_check.proofs.Derivations.{line_true}
use Rattle.normal_forms.specs.Forms.{Whole}
use Rattle.closure.specs.Closure.{AreAsked, Context, Expression, Individual, In, IsRoot, IsFact}
use Rattle.closure.specs.Groups.{least_same}
use Rattle.closure.proofs.Facts as fact
use Rattle.closure.proofs.Groups.{turned, same_as_least}
use Rattle.exactness.specs.ListedInterpretation.{IsListedInterpretation, IsConsistent}
use Rattle.exactness.proofs.Complete.{listed_is_model, complete_below, complete_types, complete_contradictory, within, answered, individual_at}
use Rattle.exactness.specs.Derivability.{IsDerivable, subject_of}
use Rattle.exactness.proofs.Derivable.{HasLine-from_derivable}
use Rattle.exactness.proofs.Facts.{below_derivable}
use Rattle.exactness.specs.Theorems.{HaveFacts}

-- what is derivable is true in each model of the axioms
derivable_true : (o : Ontology) → IsOntology o → (c : Conclusion) → IsDerivable o c → (i : Interpretation) → IsModel i (axiom_trees o) → IsTrueIn o i c
derivable_true o w c p i m =
    let (lines, d, h) = HasLine-from_derivable p in
    line_true o w lines d i m c h

pub sound_below : (o : Ontology) (asked : List ℕ) → IsOntology o → (e f : ℕ) → IsFact o asked (In (Whole f) (Expression e)) → IsBelow (axiom_trees o) (expression o e) (expression o f)
sound_below o asked w e f fact i m x l h =
    derivable_true o w (Sub (line.Expression e) f) (below_derivable o asked w (Expression e) f fact) i m x l h

sound_types : (o : Ontology) (asked : List ℕ) → IsOntology o → (a f : ℕ) → IsFact o asked (In (Whole f) (Individual a)) → IsMember (axiom_trees o) (individual_name o a) (expression o f)
sound_types o asked w a f fact i m =
    derivable_true o w (Sub (line.Individual a) f) (below_derivable o asked w (Individual a) f fact) i m
    (i.individual (individual_name o a)) (m.interpretation.individuals (individual_name o a)) refl

-- a context with Nothing is below all
pub sound_nothing : (o : Ontology) (asked : List ℕ) → IsOntology o → (e f : ℕ) → IsFact o asked (In (Whole nothing) (Expression e)) → IsBelow (axiom_trees o) (expression o e) (expression o f)
sound_nothing o asked w e f fact i m x l h = absurd (not_in_nothing o w i m.interpretation x l (sound_below o asked w e nothing fact i m x l h))

sound_things : (o : Ontology) (asked : List ℕ) → IsOntology o → IsFact o asked (In (Whole nothing) (Expression thing)) → IsContradictory (axiom_trees o)
sound_things o asked w fact i m =
    let l = m.interpretation.inhabited in
    not_in_nothing o w i m.interpretation 0 l (sound_below o asked w thing nothing fact i m 0 l (in_thing o w i m.interpretation 0 l))

sound_individual : (o : Ontology) (asked : List ℕ) → IsOntology o → (a : ℕ) → IsFact o asked (In (Whole nothing) (Individual a)) → IsContradictory (axiom_trees o)
sound_individual o asked w a fact i m =
    not_in_nothing o w i m.interpretation (i.individual (individual_name o a)) (m.interpretation.individuals (individual_name o a)) (sound_types o asked w a nothing fact i m)

pub contradiction_sound : (o : Ontology) (asked : List ℕ) → IsOntology o →
    (IsFact o asked (In (Whole nothing) (Expression thing)) → IsContradictory (axiom_trees o))
    × ((a : ℕ) → IsFact o asked (In (Whole nothing) (Individual a)) → IsContradictory (axiom_trees o))
contradiction_sound o asked w = (sound_things o asked w, sound_individual o asked w)

module _ (o : Ontology) (asked : List ℕ) (elements : List Context) (i : Interpretation)
    (w : IsOntology o) (there : AreAsked o asked) (listed : IsListedInterpretation o asked elements i) (consistent : IsConsistent o asked) where
  pub exact_below : (e f : ℕ) → IsRoot o asked (Expression e) → IsRoot o asked (Expression f) → (IsFact o asked (In (Whole nothing) (Expression e)) → ⊥) → IsBelow (axiom_trees o) (expression o e) (expression o f) ↔ IsFact o asked (In (Whole f) (Expression e))
  exact_below e f root_e root_f without =
      (complete_below o asked elements i w there listed consistent e f root_e root_f without, sound_below o asked w e f)

  pub exact_types : (a f : ℕ) → a < length o.names.individuals → IsRoot o asked (Expression f) → IsMember (axiom_trees o) (individual_name o a) (expression o f) ↔ IsFact o asked (In (Whole f) (Individual a))
  exact_types a f l root_f = (complete_types o asked elements i w there listed consistent a f l root_f, sound_types o asked w a f)

  -- whatever else is asked, the closure stays without contradiction
  consistent_whatever : (other : List ℕ) → IsConsistent o other
  consistent_whatever other = record {
    things = λ f. complete_contradictory o asked elements i w there listed (sound_things o other w f) consistent;
    individuals = λ a l f. complete_contradictory o asked elements i w there listed (sound_individual o other w a f) consistent;
  }

  same_whatever : (other : List ℕ) (e f : ℕ) → IsRoot o asked (Expression e) → IsRoot o asked (Expression f) → (IsFact o asked (In (Whole nothing) (Expression e)) → ⊥) → IsFact o other (In (Whole f) (Expression e)) → IsFact o asked (In (Whole f) (Expression e))
  same_whatever other e f root_e root_f without fact =
      complete_below o asked elements i w there listed consistent e f root_e root_f without (sound_below o other w e f fact)

  -- ---- what a certificate claims of the listed interpretation

  module _ (lines : List Line) (d : IsDerivation o lines) (all : HaveFacts o asked lines) where
    agrees_at : (m : ℕ) (x : Context) → IsRoot o asked x → slice_get elements m ≡ Some x → IsOf o i (subject_of x) m → Agrees o i lines (subject_of x) m
    agrees_at m x root at is c e class = (
      λ f. all x e root (IsRoot.named c e class) ((answered o asked elements i w there listed e m x (IsRoot.named c e class) at).0 f),
      λ h. line_true o w lines d i (listed_is_model o asked elements i w there listed consistent) (Sub (subject_of x) e) h m (within o asked elements i w there listed m x at) is,
    )

    claim_holds : (c e m : ℕ) → IsClassAt o c e → slice_get elements m ≡ Some (Expression e) → ClaimHolds o i lines (e, m)
    claim_holds c e m class at =
        let root : IsRoot o asked (Expression e) = IsRoot.named c e class in
        let member : IsIn i (expression o e) m = (answered o asked elements i w there listed e m (Expression e) root at).1 (fact.in_itself (fact.root root)) in
        record { member = member; agrees = agrees_at m (Expression e) root at member }

    -- an individual, whose element is that of the least of its group
    individual_agrees : (a : ℕ) → a < length o.names.individuals → Agrees o i lines (line.Individual a) (i.individual (individual_name o a))
    individual_agrees a l c e class =
        let m = i.individual (individual_name o a) in
        let at = individual_at o asked elements i w there listed consistent a l in
        let root : IsRoot o asked (Expression e) = IsRoot.named c e class in (
          λ f. all (Individual a) e (IsRoot.individual a l) root
              (fact.same_class (least_same o a) (turned (same_as_least o asked a)) ((answered o asked elements i w there listed e m (Individual (least_same o a)) root at).0 f)),
          λ h. line_true o w lines d i (listed_is_model o asked elements i w there listed consistent) (Sub (line.Individual a) e) h m
              (within o asked elements i w there listed m (Individual (least_same o a)) at) refl,
        )

    pub meets_claims : ((c e m : ℕ) → IsClassAt o c e → slice_get elements m ≡ Some (Expression e) → ClaimHolds o i lines (e, m))
        × ((a : ℕ) → a < length o.names.individuals → Agrees o i lines (line.Individual a) (i.individual (individual_name o a)))
    meets_claims = (
      claim_holds,
      individual_agrees,
    )

pub questions_change_nothing : (o : Ontology) (asked other : List ℕ) (elements : List Context) (i : Interpretation) → IsOntology o → AreAsked o asked → IsListedInterpretation o asked elements i → IsConsistent o asked →
    IsConsistent o other
    × ((e f : ℕ) → IsRoot o asked (Expression e) → IsRoot o asked (Expression f) → (IsFact o asked (In (Whole nothing) (Expression e)) → ⊥) → IsFact o other (In (Whole f) (Expression e)) → IsFact o asked (In (Whole f) (Expression e)))
questions_change_nothing o asked other elements i w there listed consistent =
    (consistent_whatever o asked elements i w there listed consistent other, same_whatever o asked elements i w there listed consistent other)
