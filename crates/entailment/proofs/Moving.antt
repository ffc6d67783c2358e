-- Interpretations in which individuals that were not there before are given elements: they agree on what was there.
use Rattle.std.proofs.Common.{◌≡◌, ℕ, zero, suc, ◌+◌, ◌<◌, List, [], ◌∷◌, ◌++◌, true, cond, Option, bytes_eq, length, map, slice_get, Some, All, Contains, refl, sym, ap, ◌∙◌, subst, arith, true≢false}
use Rattle.std.specs.Option.{unwrap_or}
use Rattle.std.proofs.lemmas.Bool.{cond-true, cond_both}
use Rattle.std.proofs.lemmas.List.{map-append}
use Rattle.std.proofs.lemmas.List.Elements.{All-append, All-cons, All-head, All-nil, All-tail}
use Rattle.std.proofs.lemmas.Slice.Eq.{bytes_eq-Decides}
use Rattle.axioms.proofs.Trees.{class_named}
use Rattle.axioms.specs.Expression.{Iri, owl_nothing}
use Rattle.axioms.specs.Ontology.{Ontology, Axiom, axiom_tree, axiom_trees, expression, individual_name, nothing, tree_at, trees}
use Rattle.axioms.specs.WellFormedness.{AreDistinct, IsOntology}
use Rattle.entailment.specs.Tests.{with_axioms, with_individuals}
use Rattle.interpretation_spec.proofs.Agreement.{agreeing, hold_same, satisfy_same}
use Rattle.interpretation_spec.specs.Agreement.{AgreeOn}
use Rattle.interpretation_spec.specs.Interpretation.{Interpretation, IsIn, IsInterpretation, IsModel, Satisfies}
use Rattle.lemmas.proofs.Members.{slice_get-from_Contains, Contains-from_slice_get, Contains-first, Contains-later, Contains-none}
use Rattle.lemmas.proofs.Places.{slice_get_there, Keeps}
use Rattle.profile.proofs.Trees.{KeepsAll, axioms_kept, keeps_append, same_at, trees_kept}

-- ---- lists

-- what holds of each of two lists, one behind the other
pub all_front : {X : Type 0} (P : X → Type 0) (xs ys : List X) → All P (xs ++ ys) → All P xs
all_front P [] ys h = All-nil P
all_front P (x ∷ xs) ys h = All-cons P x xs (All-head P x (xs ++ ys) h) (all_front P xs ys (All-tail P x (xs ++ ys) h))

pub all_back : {X : Type 0} (P : X → Type 0) (xs ys : List X) → All P (xs ++ ys) → All P ys
all_back P [] ys h = h
all_back P (x ∷ xs) ys h = all_back P xs ys (All-tail P x (xs ++ ys) h)

-- what stands in the second list stands so much further on behind the first
behind : {X : Type 0} (xs ys : List X) (n k : ℕ) (x : X) → n ≡ length xs + k → slice_get ys k ≡ Some x → slice_get (xs ++ ys) n ≡ Some x
behind [] ys n k x is at = subst (λ m. slice_get ys m ≡ Some x) (sym (omega (arith, is))) at
behind (y ∷ xs) ys zero k x is at = absurd (omega arith)
behind (y ∷ xs) ys (suc n) k x is at = behind xs ys n k x (omega arith) at

-- ---- elements of names

-- the element that a name is given: that of its place among the names, or the one that it had
abbrev given : List Iri → (ℕ → ℕ) → (Iri → ℕ) → Iri → ℕ
given [] at own a = own a
given (name ∷ names) at own a = cond (bytes_eq name a) (at 0) (given names (λ k. at (suc k)) own a)

same_name : (name a : Iri) → bytes_eq name a ≡ true → name ≡ a
same_name name a e = (bytes_eq-Decides name a).0 e

-- a name that is not among them keeps its own
given_own : (names : List Iri) (at : ℕ → ℕ) (own : Iri → ℕ) (a : Iri) → (Contains names a → ⊥) → given names at own a ≡ own a
given_own [] at own a none = refl
given_own (name ∷ names) at own a none =
    cond_both (bytes_eq name a) (at 0) (given names (λ k. at (suc k)) own a) (λ x. x ≡ own a)
    (λ e. absurd (none (subst (Contains (name ∷ names)) (same_name name a e) (Contains-first name names))))
    (λ e. given_own names (λ k. at (suc k)) own a (λ c. none (Contains-later name a names c)))

others_apart : (name : Iri) (names : List Iri) → AreDistinct (name ∷ names) → AreDistinct names
others_apart name names apart m n x gm gn = let same : suc m ≡ suc n = apart (suc m) (suc n) x gm gn in omega arith

-- one of names that differ has the element of its place
given_at : (names : List Iri) → AreDistinct names → (at : ℕ → ℕ) (own : Iri → ℕ) (k : ℕ) (a : Iri) → slice_get names k ≡ Some a → given names at own a ≡ at k
given_at [] apart at own k a g = absurd (Contains-none a (Contains-from_slice_get [] k a g))
given_at (name ∷ names) apart at own zero a g =
    let first : Some name ≡ Some a = g in
    let same : name ≡ a = cc in
    cond-true (bytes_eq name a) (at 0) (given names (λ k. at (suc k)) own a) ((bytes_eq-Decides name a).1 same)
given_at (name ∷ names) apart at own (suc k) a g =
    cond_both (bytes_eq name a) (at 0) (given names (λ k. at (suc k)) own a) (λ x. x ≡ at (suc k))
    (λ e. (let same : 0 ≡ suc k = apart 0 (suc k) a (ap (λ x. Some x) (same_name name a e)) g in absurd (omega arith)))
    (λ e. given_at names (others_apart name names apart) (λ k. at (suc k)) own k a g)

given_below : (names : List Iri) (at : ℕ → ℕ) (own : Iri → ℕ) (n : ℕ) → ((k : ℕ) → at k < n) → ((a : Iri) → own a < n) → (a : Iri) → given names at own a < n
given_below [] at own n low has a = has a
given_below (name ∷ names) at own n low has a =
    cond_both (bytes_eq name a) (at 0) (given names (λ k. at (suc k)) own a) (λ x. x < n) (λ e. low 0) (λ e. given_below names (λ k. at (suc k)) own n (λ k. low (suc k)) has a)

-- the interpretation in which the names have these elements
abbrev pub moved : List Iri → (ℕ → ℕ) → Interpretation → Interpretation
moved names at i = record i { individual = given names at i.individual }

-- ---- an ontology with more individuals, and axioms about them

module _ (o : Ontology) (names : List Iri) (axioms : List Axiom) (w : IsOntology o) (wide : IsOntology (with_individuals o names)) where
  abbrev pub test : Ontology
  test = with_axioms (with_individuals o names) axioms

  abbrev first : ℕ
  first = length o.names.individuals

  apart : AreDistinct (o.names.individuals ++ names)
  apart = wide.distinct_individuals

  keeps_individuals : Keeps o.names.individuals (o.names.individuals ++ names)
  keeps_individuals = keeps_append o.names.individuals (o.names.individuals ++ names) names refl

  -- names that were there are none of the new ones
  none_new : (a : ℕ) → a < first → Contains names (individual_name o a) → ⊥
  none_new a within there =
      let (k, at) = slice_get-from_Contains names (individual_name o a) there in
      let (name, has) = slice_get_there o.names.individuals a within in
      let same : individual_name o a ≡ name = ap (λ (x : Option Iri). unwrap_or x []) has in
      let here : slice_get (o.names.individuals ++ names) a ≡ Some (individual_name o a) = keeps_individuals a name has ∙ ap Some (sym same) in
      let one : a ≡ first + k = apart a (first + k) (individual_name o a) here (behind o.names.individuals names (first + k) k (individual_name o a) refl at) in
      omega arith

  pub name_kept : (a : ℕ) → a < first → individual_name test a ≡ individual_name o a
  name_kept a within = same_at o.names.individuals (o.names.individuals ++ names) keeps_individuals [] a within

  name_new : (k : ℕ) (name : Iri) → slice_get names k ≡ Some name → individual_name test (first + k) ≡ name
  name_new k name at = ap (λ (x : Option Iri). unwrap_or x []) (behind o.names.individuals names (first + k) k name refl at)

  new_apart : AreDistinct names
  new_apart m n x gm gn =
      let same : first + m ≡ first + n = apart (first + m) (first + n) x (behind o.names.individuals names (first + m) m x refl gm) (behind o.names.individuals names (first + n) n x refl gn) in
      omega arith

  -- ---- expressions and axioms

  trees_same : trees test ≡ trees o
  trees_same = trees_kept o w test.names (record { classes = λ n x at. at; properties = λ n x at. at })

  pub expression_same : (e : ℕ) → expression test e ≡ expression o e
  expression_same e = ap (λ ts. tree_at ts e) trees_same

  keeps_all : KeepsAll o test
  keeps_all = record {
    kept_trees = subst (Keeps (trees o)) (sym trees_same) (λ n x at. at);
    kept_properties = λ n x at. at;
    kept_individuals = keeps_individuals;
  }

  pub axioms_are : axiom_trees test ≡ axiom_trees o ++ map (axiom_tree test) axioms
  axioms_are = map-append (axiom_tree test) o.axioms axioms ∙ ap (λ ts. ts ++ map (axiom_tree test) axioms) (axioms_kept o test w keeps_all)

  -- a model of the test is one of the ontology that satisfies what is assumed
  pub model_of : (j : Interpretation) → IsModel j (axiom_trees test) → IsModel j (axiom_trees o)
  model_of j m = record { interpretation = m.interpretation; satisfied = all_front (Satisfies j) (axiom_trees o) (map (axiom_tree test) axioms) (subst (All (Satisfies j)) axioms_are m.satisfied) }

  pub assumed_in : (j : Interpretation) → IsModel j (axiom_trees test) → All (Satisfies j) (map (axiom_tree test) axioms)
  assumed_in j m = all_back (Satisfies j) (axiom_trees o) (map (axiom_tree test) axioms) (subst (All (Satisfies j)) axioms_are m.satisfied)

  pub is_model : (j : Interpretation) → IsModel j (axiom_trees o) → All (Satisfies j) (map (axiom_tree test) axioms) → IsModel j (axiom_trees test)
  is_model j m holds = record { interpretation = m.interpretation; satisfied = subst (All (Satisfies j)) (sym axioms_are) (All-append (Satisfies j) (axiom_trees o) (map (axiom_tree test) axioms) m.satisfied holds) }

  -- nothing is in owl:Nothing
  pub none_in_nothing : (j : Interpretation) → IsInterpretation j → (x : ℕ) → x < j.size → IsIn j (expression test nothing) x → ⊥
  none_in_nothing j is x low h =
      let t = expression_same nothing ∙ class_named o 1 nothing owl_nothing w.nothing_node w.nothing_name in
      true≢false (sym (subst (λ c. IsIn j c x) t h) ∙ is.nothing x low)

  pub in_test : (j : Interpretation) (e x : ℕ) → IsIn j (expression o e) x → IsIn j (expression test e) x
  in_test j e x h = subst (λ c. IsIn j c x) (sym (expression_same e)) h

  pub in_first : (j : Interpretation) (e x : ℕ) → IsIn j (expression test e) x → IsIn j (expression o e) x
  in_first j e x h = subst (λ c. IsIn j c x) (expression_same e) h

  -- ---- new individuals are given elements

  module _ (i : Interpretation) (m : IsModel i (axiom_trees o)) (at : ℕ → ℕ) (low : (k : ℕ) → at k < i.size) where
    abbrev pub other : Interpretation
    other = moved names at i

    pub own : (a : ℕ) → a < first → other.individual (individual_name o a) ≡ i.individual (individual_name o a)
    own a within = given_own names at i.individual (individual_name o a) (none_new a within)

    pub own_in_test : (a : ℕ) → a < first → other.individual (individual_name test a) ≡ i.individual (individual_name o a)
    own_in_test a within = ap other.individual (name_kept a within) ∙ own a within

    pub new : (k : ℕ) → k < length names → other.individual (individual_name test (first + k)) ≡ at k
    new k within =
        let (name, has) = slice_get_there names k within in
        ap other.individual (name_new k name has) ∙ given_at names new_apart at i.individual k name has

    pub first_new : 0 < length names → other.individual (individual_name test first) ≡ at 0
    first_new within = let zero_on : first ≡ first + 0 = omega arith in ap (λ a. other.individual (individual_name test a)) zero_on ∙ new 0 within

    pub other_is : IsInterpretation other
    other_is = record {
      inhabited = m.interpretation.inhabited;
      individuals = given_below names at i.individual i.size low m.interpretation.individuals;
      thing = m.interpretation.thing;
      nothing = m.interpretation.nothing;
    }

    agree : AgreeOn o i other
    agree = agreeing o i other refl (λ c x lc lx. refl) (λ r x y lr lx ly. refl) (λ a within. sym (own a within))

    pub other_model : IsModel other (axiom_trees o)
    other_model = satisfy_same o w i other agree other_is m

    pub into : (e x : ℕ) → e < length o.nodes → x < i.size → IsIn i (expression o e) x → IsIn other (expression test e) x
    into e x le lx h = in_test other e x ((hold_same o w i other agree e x le lx).0 h)

    pub back : (e x : ℕ) → e < length o.nodes → x < i.size → IsIn other (expression test e) x → IsIn i (expression o e) x
    back e x le lx h = (hold_same o w i other agree e x le lx).1 (in_first other e x h)
