-- The test of a claim decides it.
use Rattle.std.proofs.Common.{◌≡◌, ◌↔◌, ⊎_elim, ℕ, zero, suc, ◌+◌, ◌<◌, ◌≤◌, List, [], ◌∷◌, ◌++◌, Bool, true, false, length, map, get_or, All, AllPairs, refl, sym, ap, ◌∙◌, subst, subst₂, arith}
use Rattle.std.proofs.lemmas.Bool.{cases_eq}
use Rattle.std.proofs.lemmas.List.{length-map, map-append}
use Rattle.std.proofs.lemmas.List.Elements.{All-append, All-cons, All-head, All-nil, All-tail}
use Rattle.axioms.proofs.Growing.{IsAxiomOf-more, IsNodeOf-more}
use Rattle.axioms.specs.Expression.{Iri}
use Rattle.axioms.specs.Ontology.{Ontology, Axiom, Node, ClassAssertion, DifferentIndividuals, NegativePropertyAssertion, PropertyAssertion, SameIndividuals, axiom_tree, axiom_trees, expression, individual_name, nothing, property_name}
use Rattle.axioms.specs.View.{prop_numbers}
use Rattle.axioms.specs.WellFormedness.{AreOperands, IsAxiomOf, IsNodeOf, IsOntology}
use Rattle.entailment.proofs.Moving.{all_back, all_front, assumed_in, back, first_new, in_first, in_test, into, other_is, is_model, model_of, name_kept, new, none_in_nothing, other, other_model, own_in_test}
use Rattle.entailment.proofs.Paths.{begins, element_at, ends, path_said, says_path, within}
use Rattle.entailment.specs.Claims.{Holds, IsClaimOf, IsEntailed}
use Rattle.entailment.specs.Tests.{TestsDecide, added_individuals, assumed, path_from, tested_class, tested_individual, with_axioms, with_individuals}
use Rattle.entailment.specs.declared.claim.Claim.{Claim}
use Rattle.entailment.specs.declared.claim.Claim.TheVariants.{Below, Apart, Sources, Path, Loops, Member, Joined, Unjoined, One, Two}
use Rattle.interpretation_spec.specs.Interpretation.{HasPair, HasPath, Interpretation, IsIn, IsInterpretation, IsMember, IsModel, IsOtherElement, IsSameElement, Satisfies}

-- what is not refuted holds, of bools and of numbers
not_refuted : (b : Bool) → ((b ≡ true → ⊥) → ⊥) → b ≡ true
not_refuted true h = refl
not_refuted false h = absurd (h (λ e. cc))

not_apart : (m n : ℕ) → ((m ≡ n → ⊥) → ⊥) → m ≡ n
not_apart m n h = ⊎_elim (λ e. e) (λ d. absurd (h d)) (cases_eq m n)

-- the one pair of a list of two
pair_of_two : {X : Type 0} (R : X → X → Type 0) (x y : X) → AllPairs R (x ∷ y ∷ []) → R x y
pair_of_two R x y h = h 0 1 x (omega arith) (omega arith)

two_pairs : {X : Type 0} (R : X → X → Type 0) (x y : X) → R x y → AllPairs R (x ∷ y ∷ [])
two_pairs R x y h zero (suc zero) d l k = h
two_pairs R x y h m n d l k = absurd (omega arith)

-- the ontology of a test is well formed without what is assumed, too
without_axioms : (o : Ontology) (names : List Iri) (axioms : List Axiom) → IsOntology o → IsOntology (with_axioms (with_individuals o names) axioms) → IsOntology (with_individuals o names)
without_axioms o names axioms w whole = record {
  thing_name = whole.thing_name;
  nothing_name = whole.nothing_name;
  thing_node = whole.thing_node;
  nothing_node = whole.nothing_node;
  class_nodes = whole.class_nodes;
  distinct_classes = whole.distinct_classes;
  distinct_properties = whole.distinct_properties;
  distinct_individuals = whole.distinct_individuals;
  distinct_nodes = whole.distinct_nodes;
  nodes = λ e node at. is_node e node (whole.nodes e node at);
  axioms = all_front (IsAxiomOf (with_individuals o names)) o.axioms axioms (λ k d l. is_axiom (get_or (o.axioms ++ axioms) k d) (whole.axioms k d l));
}
  where
    is_node : (e : ℕ) (node : Node) → IsNodeOf (with_axioms (with_individuals o names) axioms) e node → IsNodeOf (with_individuals o names) e node
    is_node e node h = IsNodeOf-more (with_axioms (with_individuals o names) axioms) (with_individuals o names) (record { classes = omega arith; properties = omega arith; individuals = omega arith; nodes = omega arith }) e node h

    is_axiom : (a : Axiom) → IsAxiomOf (with_axioms (with_individuals o names) axioms) a → IsAxiomOf (with_individuals o names) a
    is_axiom a h = IsAxiomOf-more (with_axioms (with_individuals o names) axioms) (with_individuals o names) (record { classes = omega arith; properties = omega arith; individuals = omega arith; nodes = omega arith }) a h

module _ (o : Ontology) (w : IsOntology o) (claim : Claim) (names : List Iri) (wide : IsOntology (with_individuals o names)) where
  abbrev n : ℕ
  n = length o.names.individuals

  abbrev test : Ontology
  test = with_axioms (with_individuals o names) (assumed n claim)

  abbrev IsTested : Interpretation → Type 0
  IsTested j = IsIn j (expression test (tested_class claim)) (j.individual (individual_name test (tested_individual n claim)))

  abbrev Assumes : Interpretation → Type 0
  Assumes j = All (Satisfies j) (map (axiom_tree test) (assumed n claim))

-- x, and behind it y
abbrev pair_at : ℕ → ℕ → ℕ → ℕ
pair_at x y zero = x
pair_at x y (suc k) = y

pair_low : (x y n : ℕ) → x < n → y < n → (k : ℕ) → pair_at x y k < n
pair_low x y n lx ly zero = lx
pair_low x y n lx ly (suc k) = ly

-- two operands are there
two_low : (o : Ontology) (a b : ℕ) → AreOperands (length o.names.individuals) (a ∷ b ∷ []) → (a < length o.names.individuals) × (b < length o.names.individuals)
two_low o a b is =
    let P : ℕ → Type 0 = λ x. x < length o.names.individuals in
    (All-head P a (b ∷ []) is.within, All-head P b [] (All-tail P a (b ∷ []) is.within))

-- ---- where the claim holds, the individual is in the class

one_holds : (j : Interpretation) (o : Ontology) (a : Axiom) → All (Satisfies j) (map (axiom_tree o) (a ∷ [])) → Satisfies j (axiom_tree o a)
one_holds j o a h = All-head (Satisfies j) (axiom_tree o a) [] h

holds_one : (j : Interpretation) (o : Ontology) (a : Axiom) → Satisfies j (axiom_tree o a) → All (Satisfies j) (map (axiom_tree o) (a ∷ []))
holds_one j o a h = All-cons (Satisfies j) (axiom_tree o a) [] h (All-nil (Satisfies j))

module _ (o : Ontology) (w : IsOntology o) (names : List Iri) (wide : IsOntology (with_individuals o names)) (j : Interpretation) (js : IsInterpretation j) where
  gives : (claim : Claim) → IsClaimOf o claim → Holds o j claim → Assumes o w claim names wide j → IsTested o w claim names wide j
  gives (Below c d) known h k =
      let as' = assumed (length o.names.individuals) (Below c d) in
      let t = test o w (Below c d) names wide in
      let x = j.individual (individual_name t (length o.names.individuals)) in
      in_test o names as' w wide j d.0 x (h x (js.individuals _) (in_first o names as' w wide j c.0 x (one_holds j t (ClassAssertion c.0 (length o.names.individuals)) k)))
  gives (Apart c d) known h k =
      let as' = assumed (length o.names.individuals) (Apart c d) in
      let t = test o w (Apart c d) names wide in
      let n = length o.names.individuals in
      let x = j.individual (individual_name t n) in
      let rest = axiom_tree t (ClassAssertion d.0 n) ∷ [] in
      let first = All-head (Satisfies j) (axiom_tree t (ClassAssertion c.0 n)) rest k in
      let second = one_holds j t (ClassAssertion d.0 n) (All-tail (Satisfies j) (axiom_tree t (ClassAssertion c.0 n)) rest k) in
      absurd (h x (js.individuals _) (in_first o names as' w wide j c.0 x first) (in_first o names as' w wide j d.0 x second))
  gives (Sources r c) known h k =
      let as' = assumed (length o.names.individuals) (Sources r c) in
      let t = test o w (Sources r c) names wide in
      let n = length o.names.individuals in
      let x = j.individual (individual_name t n) in
      let y = j.individual (individual_name t (n + 1)) in
      in_test o names as' w wide j c.0 x (h x (js.individuals _) y (js.individuals _) (one_holds j t (PropertyAssertion r.0 n (n + 1)) k))
  gives (Path rs s) known h k =
      let t = test o w (Path rs s) names wide in
      let n = length o.names.individuals in
      let x = j.individual (individual_name t n) in
      let y = j.individual (individual_name t (n + length rs.now)) in
      let steps = path_from n (prop_numbers rs.now) in
      let last = NegativePropertyAssertion s.0 n (n + length rs.now) in
      let both = subst (All (Satisfies j)) (map-append (axiom_tree t) steps (last ∷ [])) k in
      let long : length (prop_numbers rs.now) ≡ length rs.now = length-map rs.now _ in
      let path = path_said j t js (prop_numbers rs.now) n (all_front (Satisfies j) (map (axiom_tree t) steps) (axiom_tree t last ∷ []) both) in
      let to_end = subst (λ m. HasPath j (map (property_name o) (prop_numbers rs.now)) x (j.individual (individual_name t (n + m)))) long path in
      let none = one_holds j t last (all_back (Satisfies j) (map (axiom_tree t) steps) (axiom_tree t last ∷ []) both) in
      absurd (none (h x (js.individuals _) y (js.individuals _) to_end))
  gives (Loops r) known h k =
      let t = test o w (Loops r) names wide in
      let n = length o.names.individuals in
      absurd (one_holds j t (NegativePropertyAssertion r.0 n n) k (h (j.individual (individual_name t n)) (js.individuals _)))
  gives (Member c a) known h k =
      let same = name_kept o names [] w wide a.0 known.1 in
      in_test o names [] w wide j c.0 _ (subst (λ name. IsIn j (expression o c.0) (j.individual name)) (sym same) h)
  gives (Joined r a b) known h k =
      let as' = assumed (length o.names.individuals) (Joined r a b) in
      let t = test o w (Joined r a b) names wide in
      absurd (one_holds j t (NegativePropertyAssertion r.0 a.0 b.0) k
      (subst₂ (λ (x y : Iri). HasPair j (property_name o r.0) (j.individual x) (j.individual y)) (sym (name_kept o names as' w wide a.0 known.1)) (sym (name_kept o names as' w wide b.0 known.2)) h))
  gives (Unjoined r a b) known h k =
      let as' = assumed (length o.names.individuals) (Unjoined r a b) in
      let t = test o w (Unjoined r a b) names wide in
      absurd (h (subst₂ (λ (x y : Iri). HasPair j (property_name o r.0) (j.individual x) (j.individual y)) (name_kept o names as' w wide a.0 known.1) (name_kept o names as' w wide b.0 known.2)
      (one_holds j t (PropertyAssertion r.0 a.0 b.0) k)))
  gives (One a b) known h k =
      let as' = assumed (length o.names.individuals) (One a b) in
      let t = test o w (One a b) names wide in
      let low : (a.0 < length o.names.individuals) × (b.0 < length o.names.individuals) = two_low o a.0 b.0 known in
      let other = pair_of_two (IsOtherElement j) (individual_name t a.0) (individual_name t b.0) (one_holds j t (DifferentIndividuals (a.0 ∷ b.0 ∷ [])) k) in
      absurd (other (subst₂ (λ (x y : Iri). j.individual x ≡ j.individual y) (sym (name_kept o names as' w wide a.0 low.0)) (sym (name_kept o names as' w wide b.0 low.1)) h))
  gives (Two a b) known h k =
      let as' = assumed (length o.names.individuals) (Two a b) in
      let t = test o w (Two a b) names wide in
      let low : (a.0 < length o.names.individuals) × (b.0 < length o.names.individuals) = two_low o a.0 b.0 known in
      let one = pair_of_two (IsSameElement j) (individual_name t a.0) (individual_name t b.0) (one_holds j t (SameIndividuals (a.0 ∷ b.0 ∷ [])) k) in
      absurd (h (subst₂ (λ (x y : Iri). j.individual x ≡ j.individual y) (name_kept o names as' w wide a.0 low.0) (name_kept o names as' w wide b.0 low.1) one))

-- ---- where it is in the class, the claim holds

module _ (o : Ontology) (w : IsOntology o) (names : List Iri) (wide : IsOntology (with_individuals o names)) where
  module _ (claim : Claim) (count : length names ≡ added_individuals claim) (member : (j : Interpretation) → IsModel j (axiom_trees (test o w claim names wide)) → IsTested o w claim names wide j) where
    module _ (i : Interpretation) (m : IsModel i (axiom_trees o)) (at : ℕ → ℕ) (low : (k : ℕ) → at k < i.size) where
      abbrev j : Interpretation
      j = other o names (assumed (length o.names.individuals) claim) w wide i m at low

      -- what is assumed holds of these elements, so the individual is in the class
      in_class : Assumes o w claim names wide j → IsTested o w claim names wide j
      in_class holds =
          let as' = assumed (length o.names.individuals) claim in
          member j (is_model o names as' w wide j (other_model o names as' w wide i m at low) holds)

      -- and where nothing is in the class, it does not hold
      refuted : tested_class claim ≡ nothing → Assumes o w claim names wide j → ⊥
      refuted empty holds =
          let as' = assumed (length o.names.individuals) claim in
          let x = j.individual (individual_name (test o w claim names wide) (tested_individual (length o.names.individuals) claim)) in
          let js = other_is o names as' w wide i m at low in
          none_in_nothing o names as' w wide j js x (js.individuals _)
          (subst (λ e. IsIn j (expression (test o w claim names wide) e) x) empty (in_class holds))

holds_given : (o : Ontology) (w : IsOntology o) (names : List Iri) (wide : IsOntology (with_individuals o names)) (claim : Claim) → IsClaimOf o claim → (count : length names ≡ added_individuals claim)
    → (member : (j : Interpretation) → IsModel j (axiom_trees (test o w claim names wide)) → IsTested o w claim names wide j)
    → (i : Interpretation) (m : IsModel i (axiom_trees o)) → Holds o i claim
holds_given o w names wide (Below c d) known count member i m = λ x lx h.
    let claim : Claim = Below c d in
    let as' = assumed (length o.names.individuals) claim in
    let t = test o w claim names wide in
    let at : ℕ → ℕ = λ k. x in
    let low : (k : ℕ) → at k < i.size = λ k. lx in
    let j = other o names as' w wide i m at low in
    let here : j.individual (individual_name t (length o.names.individuals)) ≡ x = first_new o names as' w wide i m at low (omega (arith, count)) in
    let holds = holds_one j t (ClassAssertion c.0 (length o.names.individuals)) (subst (λ y. IsIn j (expression t c.0) y) (sym here) (into o names as' w wide i m at low c.0 x known.0 lx h)) in
    back o names as' w wide i m at low d.0 x known.1 lx (subst (λ y. IsIn j (expression t d.0) y) here (in_class o w names wide claim count member i m at low holds))
holds_given o w names wide (Apart c d) known count member i m = λ x lx h k.
    let claim : Claim = Apart c d in
    let as' = assumed (length o.names.individuals) claim in
    let t = test o w claim names wide in
    let at : ℕ → ℕ = λ k. x in
    let low : (k : ℕ) → at k < i.size = λ k. lx in
    let j = other o names as' w wide i m at low in
    let here : j.individual (individual_name t (length o.names.individuals)) ≡ x = first_new o names as' w wide i m at low (omega (arith, count)) in
    let one = subst (λ y. IsIn j (expression t c.0) y) (sym here) (into o names as' w wide i m at low c.0 x known.0 lx h) in
    let two = subst (λ y. IsIn j (expression t d.0) y) (sym here) (into o names as' w wide i m at low d.0 x known.1 lx k) in
    let second = holds_one j t (ClassAssertion d.0 (length o.names.individuals)) two in
    refuted o w names wide claim count member i m at low refl
    (All-cons (Satisfies j) (axiom_tree t (ClassAssertion c.0 (length o.names.individuals))) (axiom_tree t (ClassAssertion d.0 (length o.names.individuals)) ∷ []) one second)
holds_given o w names wide (Sources r c) known count member i m = λ x lx y ly h.
    let claim : Claim = Sources r c in
    let as' = assumed (length o.names.individuals) claim in
    let t = test o w claim names wide in
    let at : ℕ → ℕ = pair_at x y in
    let low : (k : ℕ) → at k < i.size = pair_low x y i.size lx ly in
    let j = other o names as' w wide i m at low in
    let n = length o.names.individuals in
    let here : j.individual (individual_name t n) ≡ x = first_new o names as' w wide i m at low (omega (arith, count)) in
    let there : j.individual (individual_name t (n + 1)) ≡ y = new o names as' w wide i m at low 1 (omega (arith, count)) in
    let holds = holds_one j t (PropertyAssertion r.0 n (n + 1)) (subst₂ (λ (x y : ℕ). HasPair j (property_name o r.0) x y) (sym here) (sym there) h) in
    back o names as' w wide i m at low c.0 x known.1 lx (subst (λ y. IsIn j (expression t c.0) y) here (in_class o w names wide claim count member i m at low holds))
holds_given o w names wide (Path rs s) known count member i m = λ x lx y ly p.
    let claim : Claim = Path rs s in
    let as' = assumed (length o.names.individuals) claim in
    let t = test o w claim names wide in
    let numbers = prop_numbers rs.now in
    let along = map (property_name o) numbers in
    let at : ℕ → ℕ = element_at i along x y p in
    let low : (k : ℕ) → at k < i.size = within i along x y p lx in
    let j = other o names as' w wide i m at low in
    let n = length o.names.individuals in
    let long : length numbers ≡ length rs.now = length-map rs.now _ in
    let many : length along ≡ length numbers = length-map numbers (property_name o) in
    let are : (k : ℕ) → k ≤ length numbers → j.individual (individual_name t (n + k)) ≡ at k = λ k few. new o names as' w wide i m at low k (omega (arith, count, long)) in
    let here : j.individual (individual_name t n) ≡ x = first_new o names as' w wide i m at low (omega (arith, count)) ∙ begins i along x y p in
    let end : j.individual (individual_name t (n + length rs.now)) ≡ y = are (length rs.now) (omega (arith, long)) ∙ ap at (sym (many ∙ long)) ∙ ends i along x y p in
    let path = says_path i j t (λ r x y h. h) numbers x y p n are in
    let last = NegativePropertyAssertion s.0 n (n + length rs.now) in
    not_refuted (i.property (property_name o s.0) x y) (λ no.
    let none : Satisfies j (axiom_tree t last) = λ k. no (subst₂ (λ (x y : ℕ). HasPair j (property_name o s.0) x y) here end k) in
    refuted o w names wide claim count member i m at low refl
    (subst (All (Satisfies j)) (sym (map-append (axiom_tree t) (path_from n numbers) (last ∷ []))) (All-append (Satisfies j) (map (axiom_tree t) (path_from n numbers)) (axiom_tree t last ∷ []) path (holds_one j t last none))))
holds_given o w names wide (Loops r) known count member i m = λ x lx.
    let claim : Claim = Loops r in
    let as' = assumed (length o.names.individuals) claim in
    let t = test o w claim names wide in
    let at : ℕ → ℕ = λ k. x in
    let low : (k : ℕ) → at k < i.size = λ k. lx in
    let j = other o names as' w wide i m at low in
    let n = length o.names.individuals in
    let here : j.individual (individual_name t n) ≡ x = first_new o names as' w wide i m at low (omega (arith, count)) in
    not_refuted (i.property (property_name o r.0) x x) (λ no.
    refuted o w names wide claim count member i m at low refl
    (holds_one j t (NegativePropertyAssertion r.0 n n) (λ k. no (subst₂ (λ (x y : ℕ). HasPair j (property_name o r.0) x y) here here k))))
holds_given o w names wide (Member c a) known count member i m =
    let claim : Claim = Member c a in
    let t = test o w claim names wide in
    let at : ℕ → ℕ = λ k. 0 in
    let low : (k : ℕ) → at k < i.size = λ k. m.interpretation.inhabited in
    let j = other o names [] w wide i m at low in
    let same = own_in_test o names [] w wide i m at low a.0 known.1 in
    back o names [] w wide i m at low c.0 (i.individual (individual_name o a.0)) known.0 (m.interpretation.individuals (individual_name o a.0))
    (subst (λ y. IsIn j (expression t c.0) y) same (in_class o w names wide claim count member i m at low (All-nil (Satisfies j))))
holds_given o w names wide (Joined r a b) known count member i m =
    let claim : Claim = Joined r a b in
    let as' = assumed (length o.names.individuals) claim in
    let t = test o w claim names wide in
    let at : ℕ → ℕ = λ k. 0 in
    let low : (k : ℕ) → at k < i.size = λ k. m.interpretation.inhabited in
    let j = other o names as' w wide i m at low in
    let first = own_in_test o names as' w wide i m at low a.0 known.1 in
    let second = own_in_test o names as' w wide i m at low b.0 known.2 in
    not_refuted (i.property (property_name o r.0) (i.individual (individual_name o a.0)) (i.individual (individual_name o b.0))) (λ no.
    refuted o w names wide claim count member i m at low refl
    (holds_one j t (NegativePropertyAssertion r.0 a.0 b.0) (λ k. no (subst₂ (λ (x y : ℕ). HasPair j (property_name o r.0) x y) first second k))))
holds_given o w names wide (Unjoined r a b) known count member i m = λ h.
    let claim : Claim = Unjoined r a b in
    let as' = assumed (length o.names.individuals) claim in
    let t = test o w claim names wide in
    let at : ℕ → ℕ = λ k. 0 in
    let low : (k : ℕ) → at k < i.size = λ k. m.interpretation.inhabited in
    let j = other o names as' w wide i m at low in
    let first = own_in_test o names as' w wide i m at low a.0 known.1 in
    let second = own_in_test o names as' w wide i m at low b.0 known.2 in
    refuted o w names wide claim count member i m at low refl
    (holds_one j t (PropertyAssertion r.0 a.0 b.0) (subst₂ (λ (x y : ℕ). HasPair j (property_name o r.0) x y) (sym first) (sym second) h))
holds_given o w names wide (One a b) known count member i m =
    let claim : Claim = One a b in
    let as' = assumed (length o.names.individuals) claim in
    let t = test o w claim names wide in
    let at : ℕ → ℕ = λ k. 0 in
    let low : (k : ℕ) → at k < i.size = λ k. m.interpretation.inhabited in
    let j = other o names as' w wide i m at low in
    let there = two_low o a.0 b.0 known in
    let first = own_in_test o names as' w wide i m at low a.0 there.0 in
    let second = own_in_test o names as' w wide i m at low b.0 there.1 in
    not_apart (i.individual (individual_name o a.0)) (i.individual (individual_name o b.0)) (λ no.
    refuted o w names wide claim count member i m at low refl
    (holds_one j t (DifferentIndividuals (a.0 ∷ b.0 ∷ [])) (two_pairs (IsOtherElement j) (individual_name t a.0) (individual_name t b.0) (λ e. no (sym first ∙ e ∙ second)))))
holds_given o w names wide (Two a b) known count member i m = λ e.
    let claim : Claim = Two a b in
    let as' = assumed (length o.names.individuals) claim in
    let t = test o w claim names wide in
    let at : ℕ → ℕ = λ k. 0 in
    let low : (k : ℕ) → at k < i.size = λ k. m.interpretation.inhabited in
    let j = other o names as' w wide i m at low in
    let there = two_low o a.0 b.0 known in
    let first = own_in_test o names as' w wide i m at low a.0 there.0 in
    let second = own_in_test o names as' w wide i m at low b.0 there.1 in
    refuted o w names wide claim count member i m at low refl
    (holds_one j t (SameIndividuals (a.0 ∷ b.0 ∷ [])) (two_pairs (IsSameElement j) (individual_name t a.0) (individual_name t b.0) (first ∙ e ∙ sym second)))

-- ---- both

decided : (o : Ontology) (claim : Claim) (names : List Iri) → IsOntology o → IsClaimOf o claim → length names ≡ added_individuals claim
    → IsOntology (with_axioms (with_individuals o names) (assumed (length o.names.individuals) claim))
    → (let t = with_axioms (with_individuals o names) (assumed (length o.names.individuals) claim) in IsMember (axiom_trees t) (individual_name t (tested_individual (length o.names.individuals) claim)) (expression t (tested_class claim))) ↔ IsEntailed o claim
decided o claim names w known count tested =
    let as' = assumed (length o.names.individuals) claim in
    let wide = without_axioms o names as' w tested in (
      λ member. holds_given o w names wide claim known count member,
      λ entailed j m. gives o w names wide j m.interpretation claim known (entailed j (model_of o names as' w wide j m)) (assumed_in o names as' w wide j m),
    )

pub tests_decide : TestsDecide
tests_decide o claim t w known is whole =
    let at : ℕ = length o.names.individuals in
    let made = with_axioms (with_individuals o is.added) (assumed at claim) in
    let P : Ontology → Type 0 = λ t. IsMember (axiom_trees t) (individual_name t (tested_individual at claim)) (expression t (tested_class claim)) ↔ IsEntailed o claim in
    subst P (sym is.is) (decided o claim is.added w known is.count (subst IsOntology is.is whole))
