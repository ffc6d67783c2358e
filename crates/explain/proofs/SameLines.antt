-- Lines that say that individuals are one: they stay where lines are added, and they follow from the axiom that gave the form.
use Rattle.std.proofs.Common.{◌≡◌, ℕ, zero, suc, ◌+◌, ◌/◌, ◌%◌, ◌^◌, ◌<◌, inl, inr, List, [], ◌∷◌, ◌++◌, length, map, drop, get_or, slice_get, option_map, Option, Some, None, IfSome, Result, Ok, Err, OnOk, OnErr, Contains, refl, sym, ap, ap₂, ◌∙◌, subst, arith}
use Rattle.std.proofs.lemmas.List.{append-nil}
use Rattle.std.specs.BTreeMap.{BTreeMap, get}
use Rattle.std.specs.Ordering.{nat_cmp}
use Rattle.std.proofs.lemmas.Option.{none-some}
use Rattle.lemmas.proofs.Mapped.{slice_get_map_from}
use Rattle.lemmas.proofs.Members.{Contains-from_slice_get}
use Rattle.axioms.specs.Ontology.{Ontology, Axiom, SubProperty, SameIndividuals, DifferentIndividuals, AtTwoPlaces}
use Rattle.axioms.specs.View.{at_number}
use Rattle.axioms.specs.WellFormedness.{IsOntology}
use Rattle.axioms.specs.declared.ids.IndId.{IndId}
use Rattle.certificate.specs.Certificate.{Same, Line}
use Rattle.certificate.specs.declared.line.Rule.TheVariants.{K17, K18}
use Rattle.cert_check.specs.Derivation.{IsDerivation, IsDerived}
use Rattle.cert_check.specs.Lines.{Follows}
use Rattle.closure.specs.Denotations.{Prefixes, SaysForm, n10}
use Rattle.engine.specs.Saturations.{Saturated, IsSaturated}
use Rattle.exactness.proofs.Rules.{derivable_within, k17}
use Rattle.explain.proofs.ByExpression.{IsOfExpression, expression_kind}
use Rattle.explain.proofs.Growing.{conclusion_grown}
use Rattle.explain.proofs.Walking.{line_within}
use Rattle.explain.proofs.Within.{axiom_number_within, form_said}
use Rattle.explain.specs.LinesOfFacts.{Lengthens}
use Rattle.explain.specs.Paths.{IsChain}
use Rattle.explain.specs.SameLines.{AreSameLines, SaysSame}
use Rattle.explain.specs.Search.{AreLeadsWithin, LeadsOver, LinksBy, as_individual}
use Rattle.facts.specs.Closure.{Links}
use Rattle.normal_forms.specs.Forms as definition
use Rattle.normal_forms.specs.Origins.{AxiomGives, GivenBy}
use Rattle.normal_forms.specs.declared.forms.Form as code_form
use Rattle.normal_forms.specs.declared.forms.Form.TheVariants as forms
use Rattle.normal_forms.specs.declared.forms.Origin.{Origin}
use Rattle.normal_forms.specs.declared.forms.Origin.TheVariants as origins
use Rattle.normalise.specs.Entries.{form_in, origin_in}
use Rattle.normalise.specs.Problem.{prefixes_of}

-- ---- what is kept

pub says_grown : {old new : List Line} (n : ℕ) (i j : IndId) → Lengthens old new → SaysSame old n i j → SaysSame new n i j
says_grown n i j longer says = conclusion_grown n (Same i.0 j.0) longer says

pub kept_grown : {old new : List Line} → Lengthens old new → (kept : BTreeMap ℕ ℕ) → AreSameLines old kept → AreSameLines new kept
kept_grown longer kept same key n at = conclusion_grown n (Same (key / 2 ^ 32) (key % 2 ^ 32)) longer (same key n at)

-- what is found by a number for two individuals
pub kept_says : (lines : List Line) (kept : BTreeMap ℕ ℕ) (i j : IndId) (key : ℕ) → AreSameLines lines kept → key / 2 ^ 32 ≡ i.0 → key % 2 ^ 32 ≡ j.0 → (found : Option ℕ) → found ≡ get nat_cmp kept key → IfSome found (λ n. SaysSame lines n i j)
kept_says lines kept i j key same first second None at = tt
kept_says lines kept i j key same first second (Some n) at = same key n (sym at) ∙ ap₂ (λ (a b : ℕ). Some (Same a b)) first second

-- where a step may have failed, more lines are there or the same
pub added_or_not : {T E : Type 0} (result : Result T E) (old new more : List Line) → OnOk result (new ≡ old ++ more) → OnErr result (new ≡ old) → Lengthens old new
added_or_not (Ok x) old new more added same = record { more = more; new_is = added }
added_or_not (Err e) old new more added same = record { more = []; new_is = same ∙ sym (append-nil old) }

-- ---- what gave a form

pub in_axioms : (axioms : List Axiom) (n : ℕ) (a : Axiom) → at_number axioms n ≡ Some a → Contains axioms a
in_axioms axioms zero a at = absurd (none-some a at)
in_axioms axioms (suc n) a at = Contains-from_slice_get axioms n a at

next_apart : (n : ℕ) → n ≡ n + 1 → ⊥
next_apart n e = omega arith

next_places : (xs : List ℕ) (n a b : ℕ) → slice_get xs n ≡ Some a → slice_get xs (n + 1) ≡ Some b → AtTwoPlaces xs a b × AtTwoPlaces xs b a
next_places xs n a b at next = ((n, n + 1, next_apart n, at, next), (n + 1, n, λ e. next_apart n (sym e), next, at))

-- the axiom makes the two one
same_given : (a : Axiom) (x y : ℕ) → AxiomGives a (definition.N10 x y) → (xs : List ℕ) × (a ≡ SameIndividuals xs) × (AtTwoPlaces xs x y × AtTwoPlaces xs y x)
same_given (SameIndividuals xs) x y (n, (a, b, at, next, e)) =
    let i : x ≡ a = cc in
    let j : y ≡ b = cc in
    (xs, refl, next_places xs n x y (at ∙ ap Some (sym i)) (next ∙ ap Some (sym j)))
same_given (SubProperty rs t) x y (inl h) = absurd cc
same_given (SubProperty rs t) x y (inr h) = absurd cc
same_given _ x y h = absurd cc

-- the axiom says that the two differ
pub different_given : (a : Axiom) (x y : ℕ) → AxiomGives a (definition.N11 x y) → (xs : List ℕ) × (a ≡ DifferentIndividuals xs) × AtTwoPlaces xs x y
different_given (DifferentIndividuals xs) x y (m, (n, (a, b, low, at, there, e))) =
    let i : x ≡ a = cc in
    let j : y ≡ b = cc in
    (xs, refl, (m, n, (λ k. (let bad : ⊥ = omega (arith, k, low) in bad)), at ∙ ap Some (sym i), there ∙ ap Some (sym j)))
different_given (SubProperty rs t) x y (inl h) = absurd cc
different_given (SubProperty rs t) x y (inr h) = absurd cc
different_given _ x y h = absurd cc

links_given : (b : Prefixes) (form : code_form.Form) (g : definition.Form) (a : Axiom) (i j : IndId) → Links form i j → SaysForm b form g → AxiomGives a g → (xs : List ℕ) × (a ≡ SameIndividuals xs) × AtTwoPlaces xs i.0 j.0
links_given b (forms.N10 x y) _ a i j link (n10 {i' = p} {j' = q} says_x says_y) gives =
    let (xs, is, places) = same_given a p q gives in (
      xs,
      is,
      elim link [
        | inl l ↦ subst (λ n. AtTwoPlaces xs n j.0) (sym (ap (λ (k : IndId). k.0) l.0 ∙ says_x)) (subst (AtTwoPlaces xs p) (sym (ap (λ (k : IndId). k.0) l.1 ∙ says_y)) places.0)
        | inr l ↦ subst (λ n. AtTwoPlaces xs n j.0) (sym (ap (λ (k : IndId). k.0) l.0 ∙ says_y)) (subst (AtTwoPlaces xs q) (sym (ap (λ (k : IndId). k.0) l.1 ∙ says_x)) places.1)
      ],
    )
links_given b _ g a i j link says gives = absurd link

link_kind : (form : code_form.Form) (i j : IndId) → Links form i j → IsOfExpression form → ⊥
link_kind (forms.N10 a b) i j link kind = kind
link_kind _ i j link kind = link

module _ (o : Ontology) (s : Saturated) (saturated : IsSaturated o s) where
  -- an axiom gave the form, where no expression gives such a one
  pub by_an_axiom : (n : ℕ) (form : code_form.Form) → slice_get s.state.problem.forms n ≡ Some form → (IsOfExpression form → ⊥)
      → (number : ℕ) × (option_map origin_in (slice_get s.normal.entries n) ≡ Some (origins.Axiom number))
  by_an_axiom n form at other =
      let at_entries : slice_get (map form_in s.normal.entries) n ≡ Some form = ap (λ (fs : List code_form.Form). slice_get fs n) (sym saturated.forms) ∙ at in
      let (entry, at_entry, is) = slice_get_map_from form_in s.normal.entries n form at_entries in
      go at_entries entry.origin (ap (option_map origin_in) at_entry)
    where
      go : slice_get (map form_in s.normal.entries) n ≡ Some form → (origin : Origin) → option_map origin_in (slice_get s.normal.entries n) ≡ Some origin → (number : ℕ) × (option_map origin_in (slice_get s.normal.entries n) ≡ Some (origins.Axiom number))
      go at_n (origins.Axiom number) by = (number, by)
      go at_n (origins.Expr e) by =
          let (g, says, given) = form_said o s.normal n form (origins.Expr e) saturated.normal at_n by in
          absurd (other (expression_kind o s.normal.asked (prefixes_of s.normal) e form g says given))

  -- the axiom that gave it
  pub axiom_gave : (n : ℕ) (form : code_form.Form) (number : ℕ) → slice_get s.state.problem.forms n ≡ Some form → option_map origin_in (slice_get s.normal.entries n) ≡ Some (origins.Axiom number)
      → (g : definition.Form) × SaysForm (prefixes_of s.normal) form g × GivenBy o s.normal.asked (origins.Axiom number) g
  axiom_gave n form number at by = form_said o s.normal n form (origins.Axiom number) saturated.normal (ap (λ (fs : List code_form.Form). slice_get fs n) (sym saturated.forms) ∙ at) by

  pub linked_by_axiom : (n : ℕ) (i j : IndId) → LinksBy s.state.problem.forms n i j → (number : ℕ) × (option_map origin_in (slice_get s.normal.entries n) ≡ Some (origins.Axiom number))
  linked_by_axiom n i j (form, at, link) = by_an_axiom n form at (link_kind form i j link)

  module _ (w : IsOntology o) where
    -- the line that two individuals are one that a form makes one
    pub same_derived : (n : ℕ) (i j : IndId) (number : ℕ) → LinksBy s.state.problem.forms n i j → option_map origin_in (slice_get s.normal.entries n) ≡ Some (origins.Axiom number)
        → (lines : List Line) → IsDerived o lines (record { conclusion = Same i.0 j.0; rule = K17; axiom' = Some number; premises = [] })
    same_derived n i j number (form, at, link) by lines =
        let (g, says, (a, stated, gives)) = axiom_gave n form number at by in
        let (xs, is, places) = links_given (prefixes_of s.normal) form g a i j link says gives in
        let here : at_number o.axioms number ≡ Some (SameIndividuals xs) = stated ∙ ap Some is in
        record {
          within = record { conclusion = derivable_within (k17 o w xs i.0 j.0 (in_axioms o.axioms number (SameIndividuals xs) here) places); axiom' = axiom_number_within o number a stated };
          premises = [];
          premises_at = refl;
          follows = subst (λ x. Follows o K17 [] x (Same i.0 j.0)) (sym here) places;
        }

    -- the individuals that forms make one are there
    pub links_within : AreLeadsWithin (length o.names.individuals) (LeadsOver s.state.problem.forms)
    links_within n i j linked =
        let (number, by) = linked_by_axiom n (as_individual i) (as_individual j) linked in
        (same_derived n (as_individual i) (as_individual j) number linked by []).within.conclusion

-- ---- a line that joins two

pub joined_derived : (o : Ontology) (lines : List Line) (before behind : ℕ) (i j k : IndId) → IsDerivation o lines → SaysSame lines before i j → SaysSame lines behind j k
    → IsDerived o lines (record { conclusion = Same i.0 k.0; rule = K18; axiom' = None; premises = before ∷ behind ∷ [] })
joined_derived o lines before behind i j k derivation says also = record {
  within = record { conclusion = ((line_within o lines before (Same i.0 j.0) derivation says).0, (line_within o lines behind (Same j.0 k.0) derivation also).1); axiom' = tt };
  premises = Same i.0 j.0 ∷ Same j.0 k.0 ∷ [];
  premises_at = rw (says, also) refl;
  follows = (refl, refl, refl);
}

-- ---- chains

-- a chain from one of its forms on
pub chain_on : (fs : List code_form.Form) (i j : IndId) (chain : List ℕ) (k d : ℕ) → k < length chain → IsChain fs i (drop k chain) j → (h : IndId) × LinksBy fs (get_or chain k d) i h × IsChain fs h (drop (k + 1) chain) j
chain_on fs i j [] k d low c = absurd (omega arith)
chain_on fs i j (n ∷ ns) zero d low c = c
chain_on fs i j (n ∷ ns) (suc k) d low c =
    let (h, link, rest) = chain_on fs i j ns k d (omega arith) c in
    let e : suc k + 1 ≡ suc (k + 1) = omega arith in
    (h, link, subst (λ m. IsChain fs h (drop m (n ∷ ns)) j) (sym e) rest)

-- the one individual that the next form leads to
pub chain_next : (fs : List code_form.Form) (i : IndId) (chain : List ℕ) (k d : ℕ) (next : IndId) → k < length chain → ((h : IndId) → LinksBy fs (get_or chain k d) i h → h ≡ next) → (j : IndId) → IsChain fs i (drop k chain) j → IsChain fs next (drop (k + 1) chain) j
chain_next fs i chain k d next low only j c =
    let (h, link, rest) = chain_on fs i j chain k d low c in
    subst (λ x. IsChain fs x (drop (k + 1) chain) j) (only h link) rest
