-- Facts that two individuals led to that differ and are one.
use Rattle.std.proofs.Common.{◌≡◌, ◌↔◌, ℕ, zero, suc, ◌+◌, ◌-◌, ◌<◌, inl, inr, List, [], ◌∷◌, drop, length, map, slice_get, take, Option, Some, None, Contains, refl, sym, ap, ◌∙◌, subst, arith}
use Rattle.std.specs.Prelude.{Result, Ok, Err, IfOk, MatchOption}
use Rattle.std.proofs.lemmas.Bool.{cases_lt}
use Rattle.std.proofs.lemmas.List.{get_or_past, length-drop, take_all}
use Rattle.std.proofs.lemmas.List.Elements.{All-contains}
use Rattle.std.proofs.lemmas.Option.{none-some, same_Some, slice_get-get_or, slice_get_within}
use Rattle.lemmas.proofs.Members.{Contains-from_slice_get, slice_get-from_Contains}
use Rattle.axioms.specs.Ontology.{Ontology, DifferentIndividuals, AtTwoPlaces, nothing}
use Rattle.axioms.specs.View.{at_number}
use Rattle.axioms.specs.WellFormedness.{AreOperands, IsOntology}
use Rattle.axioms.specs.declared.ids.IndId.{IndId}
use Rattle.certificate.specs.Certificate.{Conclusion, Sub, Same, Line}
use Rattle.certificate.specs.Certificate as line
use Rattle.certificate.specs.declared.line.Rule.TheVariants.{K20}
use Rattle.cert_check.specs.Lines.{Follows}
use Rattle.engine.specs.Saturations.{Saturated, IsSaturated}
use Rattle.exactness.proofs.Rules.{axiom_within}
use Rattle.explain.proofs.Births.{born_by, of_a_form}
use Rattle.explain.proofs.SameLines.{different_given, in_axioms}
use Rattle.explain.proofs.Within.{axiom_number_within, fact_within}
use Rattle.explain.specs.OlderFacts.{rests_on}
use Rattle.explain.specs.Paths.{IsChain}
use Rattle.explain.specs.SameLines.{SaysSame}
use Rattle.explain.specs.Step.{LeadTo, said_by}
use Rattle.facts.specs.Births.{Reason}
use Rattle.facts.specs.Closure as facts
use Rattle.facts.specs.Closure.{Problem, Gives, by_form, different, apart, AreSame}
use Rattle.facts.specs.declared.contexts.Context.TheVariants.{Individual}
use Rattle.facts.specs.declared.contexts.Fact.{Fact}
use Rattle.facts.specs.declared.contexts.Fact.TheVariants.{In}
use Rattle.normal_forms.specs.Apart.{AreListedAt}
use Rattle.normal_forms.specs.Forms.{AtOrderedPlaces}
use Rattle.normal_forms.specs.declared.apart.ApartLists.{ApartLists}
use Rattle.normal_forms.specs.declared.forms.Class2.{Class2}
use Rattle.normal_forms.specs.declared.forms.Form.{Form}
use Rattle.normalise.specs.Problem.{prefixes_of}
use Rattle.number_sets.specs.Pieces.{list_at}

-- ---- what is behind a member of a list

behind_at : {X : Type 0} (xs : List X) (k n m : ℕ) → m ≡ k + n → slice_get (drop k xs) n ≡ slice_get xs m
behind_at xs zero n m e = let same : n ≡ m = omega (arith, e) in ap (slice_get xs) same
behind_at [] (suc k) n m e = refl
behind_at (x ∷ xs) (suc k) n zero e = absurd (omega (arith, e))
behind_at (x ∷ xs) (suc k) n (suc m) e = behind_at xs k n m (omega (arith, e))

-- what is behind its first place
pub behind_first : {X : Type 0} (xs ys : List X) (place : ℕ) (x : X) → slice_get xs place ≡ Some x → ((n : ℕ) → n < place → slice_get xs n ≡ Some x → ⊥)
    → ys ≡ take (length xs - (place + 1)) (drop (place + 1) xs) → (y : X) → Contains ys y ↔ AtOrderedPlaces xs x y
behind_first {X} xs ys place x at first are y = (forth, back)
  where
    all : ys ≡ drop (place + 1) xs
    all = are ∙ take_all (length xs - (place + 1)) (drop (place + 1) xs) (let l = length-drop (place + 1) xs in omega (arith, l))

    forth : Contains ys y → AtOrderedPlaces xs x y
    forth h =
        let (n, there) = slice_get-from_Contains (drop (place + 1) xs) y (subst (λ (zs : List X). Contains zs y) all h) in
        (place, place + 1 + n, omega arith, at, sym (behind_at xs (place + 1) n (place + 1 + n) refl) ∙ there)

    back : AtOrderedPlaces xs x y → Contains ys y
    back (m, n, low, at_m, at_n) = elim (cases_lt m place) [
      | inl l ↦ absurd (first m l at_m)
      | inr l ↦
          let e : n ≡ place + 1 + (n - (place + 1)) = omega (arith, low, l) in
          subst (λ (zs : List X). Contains zs y) (sym all) (Contains-from_slice_get (drop (place + 1) xs) (n - (place + 1)) y (behind_at xs (place + 1) (n - (place + 1)) n e ∙ at_n))
    ]

-- ---- what gave such a fact

-- two individuals of the list of that number are one
record IsOfDifferent (k : Problem) (l : ℕ) (older : List Fact) (f : Fact) : Type 0 where
  pub a : IndId
  pub b : IndId
  pub listed : AreListedAt k.apart.individuals l a b
  pub same : AreSame k.forms a b
  pub none : older ≡ []
  pub is : f ≡ In facts.nothing (Individual a)

gives_different : (k : Problem) {c : ℕ} {place : Option ℕ} {older : List Fact} {f : Fact} (l : ℕ) → Gives k c place older f → place ≡ Some l → c ≡ 12 → IsOfDifferent k l older f
gives_different k l (by_form n form at c) p e = absurd ((of_a_form form).0 e)
gives_different k l (different m a b listed same) p e = record {
  a = a;
  b = b;
  listed = subst (λ n. AreListedAt k.apart.individuals n a b) (same_Some m l p) listed;
  same = same;
  none = refl;
  is = refl;
}
gives_different k l _ p e = absurd (omega (arith, e))

none_older : {X : Type 0} (xs : List X) (ns : List ℕ) → map (slice_get xs) ns ≡ map Some [] → ns ≡ []
none_older xs [] e = refl
none_older xs (n ∷ ns) e = absurd cc

-- the members of the list of a number, at their places
pub listed_at : {X : Type 0} (lists : List (List X)) (l : ℕ) (a b : X) → AtOrderedPlaces (list_at lists l) a b → AreListedAt lists l a b
listed_at {X} lists l a b places = elim (cases_lt l (length lists)) [
  | inl low ↦ (list_at lists l, slice_get-get_or lists l [] low, places)
  | inr past ↦
      let at : slice_get {X = X} [] places.0 ≡ Some a = subst (λ (xs : List X). slice_get xs places.0 ≡ Some a) (get_or_past lists l [] past) places.3 in
      absurd (none-some a at)
]

pub places_at : {X : Type 0} (lists : List (List X)) (l : ℕ) (a b : X) → AreListedAt lists l a b → AtOrderedPlaces (list_at lists l) a b
places_at lists l a b (xs, at, places) =
    subst (λ ys. AtOrderedPlaces ys a b) (same_Some xs (list_at lists l) (sym at ∙ slice_get-get_or lists l [] (slice_get_within lists l xs at))) places

-- a chain to one of the others is one to a member of the list
abbrev pub ChainTo : {V E : Type 0} → (V → List ℕ) → (IndId → Type 0) → List Form → IndId → Result (Option V) E → Type 0
ChainTo {V} {E} numbers Is forms i result = IfOk result (λ found. MatchOption found ((j : IndId) → Is j → AreSame forms i j → ⊥) (λ v. (j : IndId) × Is j × IsChain forms i (numbers v) j))

pub chain_in_list : {V E : Type 0} (numbers : V → List ℕ) (forms : List Form) (lists : List (List IndId)) (l : ℕ) (i : IndId) (others : List IndId) (result : Result (Option V) E)
    → ((j : IndId) → Contains others j ↔ AtOrderedPlaces (list_at lists l) i j) → ChainTo numbers (Contains others) forms i result → ChainTo numbers (AreListedAt lists l i) forms i result
chain_in_list numbers forms lists l i others (Ok None) behind none = λ j listed one. none j ((behind j).1 (places_at lists l i j listed)) one
chain_in_list numbers forms lists l i others (Ok (Some v)) behind (j, there, chain) = (j, listed_at lists l i j ((behind j).0 there), chain)
chain_in_list numbers forms lists l i others (Err e) behind h = h

-- ---- of a saturation

module _ (o : Ontology) (s : Saturated) (saturated : IsSaturated o s) (n : ℕ) (r : Reason) (born : slice_get s.state.births n ≡ Some r) (f : Fact) (there : slice_get s.state.facts n ≡ Some f)
    (l : ℕ) (place : r.form ≡ Some l) (twelve : r.condition ≡ 12) where
  pub record IsBornOfDifferent : Type 0 where
    pub a : IndId
    pub b : IndId
    pub listed : AreListedAt s.normal.apart.individuals l a b
    pub same : AreSame s.state.problem.forms a b
    pub is : f ≡ In facts.nothing (Individual a)
    pub rests : rests_on s.normal.entries r ≡ []

  pub born_of_different : IsBornOfDifferent
  born_of_different =
      let (older, at, gives) = born_by o s n r f saturated born there in
      let h = gives_different s.state.problem l gives place twelve in
      record {
        a = h.a;
        b = h.b;
        listed = subst (λ (k : ApartLists). AreListedAt k.individuals l h.a h.b) saturated.apart h.listed;
        same = h.same;
        is = h.is;
        rests = subst (λ (c : ℕ). rests_on s.normal.entries (record r { condition = c }) ≡ []) (sym twelve) (none_older s.state.facts r.older (at ∙ ap (map Some) h.none));
      }

  -- the fact speaks of an individual
  pub speaks : ((c : Class2) (i : IndId) → f ≡ In c (Individual i) → ⊥) → ⊥
  speaks none = none facts.nothing born_of_different.a born_of_different.is

  module _ (c : Class2) (i : IndId) (f_is : f ≡ In c (Individual i)) where
    same_one : born_of_different.a ≡ i
    same_one = let h : In facts.nothing (Individual born_of_different.a) ≡ In c (Individual i) = sym born_of_different.is ∙ f_is in cc

    pub in_nothing : f ≡ In facts.nothing (Individual i)
    in_nothing = born_of_different.is ∙ ap (λ x. In facts.nothing (Individual x)) same_one

    -- another behind it is one with it
    pub another : (j : IndId) × AreListedAt s.normal.apart.individuals l i j × AreSame s.state.problem.forms i j
    another =
        let b = born_of_different in
        (b.b, subst (λ x. AreListedAt s.normal.apart.individuals l x b.b) same_one b.listed, subst (λ x. AreSame s.state.problem.forms x b.b) same_one b.same)

module _ (o : Ontology) (s : Saturated) (w : IsOntology o) (saturated : IsSaturated o s) (l : ℕ) (i j : IndId) (listed : AreListedAt s.normal.apart.individuals l i j) where
  -- the axiom that says that they differ
  record IsOfAxiom : Type 0 where
    pub number : ℕ
    pub at_list : slice_get s.normal.different_axioms l ≡ Some number
    pub operands : List ℕ
    pub stated : at_number o.axioms number ≡ Some (DifferentIndividuals operands)
    pub places : AtTwoPlaces operands i.0 j.0

  of_axiom : IsOfAxiom
  of_axiom =
      let (number, at_list, (a, stated, gives)) = saturated.normal.each_different l i j listed in
      let (xs, is, places) = different_given a i.0 j.0 gives in
      record { number = number; at_list = at_list; operands = xs; stated = stated ∙ ap Some is; places = places }

  operands_of_axiom : AreOperands (length o.names.individuals) of_axiom.operands
  operands_of_axiom = axiom_within o w (DifferentIndividuals of_axiom.operands) (in_axioms o.axioms of_axiom.number (DifferentIndividuals of_axiom.operands) of_axiom.stated)

  pub first_within : i.0 < length o.names.individuals
  first_within =
      let (p, q, two_places, at_p, at_q) = of_axiom.places in
      All-contains (λ x. x < length o.names.individuals) of_axiom.operands i.0 operands_of_axiom.within (Contains-from_slice_get of_axiom.operands p i.0 at_p)

  pub two : i ≡ j → ⊥
  two same =
      let (p, q, two_places, at_p, at_q) = of_axiom.places in
      two_places (operands_of_axiom.distinct p q i.0 at_p (at_q ∙ ap Some (sym (ap (λ (k : IndId). k.0) same))))

  -- the line that they are one leads to the fact
  pub different_leads : (n : ℕ) (f : Fact) → slice_get s.state.facts n ≡ Some f → f ≡ In facts.nothing (Individual i) → (lines : List Line) (same : ℕ) → SaysSame lines same i j
      → LeadTo o (prefixes_of s.normal) lines K20 (slice_get s.normal.different_axioms l) (same ∷ []) f
  different_leads n f there is lines same says =
      subst (λ (found : Option ℕ). LeadTo o (prefixes_of s.normal) lines K20 found (same ∷ []) f) (sym of_axiom.at_list) (record {
        line = λ c said. record {
          within = record { conclusion = fact_within o s n f c w saturated there said; axiom' = axiom_number_within o of_axiom.number (DifferentIndividuals of_axiom.operands) of_axiom.stated };
          premises = Same i.0 j.0 ∷ [];
          premises_at = rw says refl;
          follows = subst (λ a. Follows o K20 (Same i.0 j.0 ∷ []) a c) (sym of_axiom.stated) (subst (Follows o K20 (Same i.0 j.0 ∷ []) (Some (DifferentIndividuals of_axiom.operands))) (says_it c said) (of_axiom.places, refl, refl));
        };
        prefix = λ said. absurd (none-some (Sub (line.Individual i.0) nothing) (sym said ∙ ap said_by is));
      })
    where
      says_it : (c : Conclusion) → said_by f ≡ Some c → Sub (line.Individual i.0) nothing ≡ c
      says_it c said = same_Some (Sub (line.Individual i.0) nothing) c (sym (ap said_by is) ∙ said)
