-- What fresh names stand for, as lists of them grow.
use Rattle.std.proofs.Common.{◌≡◌, ◌++◌, ℕ, zero, suc, ◌+◌, ◌-◌, ◌<◌, ◌≤◌, ◌⊎◌, inl, inr, List, [], ◌∷◌, length, take, slice_get, Some, Contains, refl, sym, ap, ap₂, ◌∙◌, subst, arith, add-one}
use Rattle.std.specs.List.{flat_map}
use Rattle.std.proofs.lemmas.Bool.Decides.{nat_tests}
use Rattle.std.proofs.lemmas.Bool.{cases_eq, cases_order}
use Rattle.std.proofs.lemmas.List.{append-nil, append_assoc}
use Rattle.std.proofs.lemmas.List.Concat.{flat_map-append}
use Rattle.std.proofs.lemmas.Option.{none-some, same_Some, slice_get_within}
use Rattle.lemmas.proofs.Members.{Contains-from_slice_get, slice_get-from_Contains, Contains-none, Contains-first, Contains-later, Contains-cons_cases}
use Rattle.lemmas.proofs.Places.{slice_get_there, slice_get_push, slice_get_push_cases, keeps_push}
use Rattle.axioms.specs.Growth.{Numbers}
use Rattle.axioms.specs.Ontology.{Ontology, Axiom, Node, Class, And, Exists, SubClass, EquivalentClasses, DisjointClasses, SubProperty, EquivalentProperties, Domain, Transitive, Reflexive, ClassAssertion, PropertyAssertion, SameIndividuals, DifferentIndividuals, NegativePropertyAssertion, nothing, thing}
use Rattle.normal_forms.specs.declared.forms.Origin.{Origin}
use Rattle.normal_forms.specs.declared.forms.Origin.TheVariants as origins
use Rattle.normal_forms.specs.Forms.{Class2, Property2, Form, Whole, Prefix, Property, Steps, N1, N2, N3, N4, N5, N6, N7, N8, N9, N10, N11, N12, first_of, first_steps}
use Rattle.normal_forms.specs.Occurrences.{Occurs, AtLeft}
use Rattle.normal_forms.specs.Origins.{GivenBy, AxiomGives, RightGives, LeftGives}
use Rattle.normalise.specs.declared.made.Made.{Made}
use Rattle.normalise.specs.FreshNames.{AreNumberedByFirstPlace, BeginsIntersection, IsPrefixOf, NameChains, all_chain_prefixes, prefixes_below, prefixes_of, chain_prefixes}
use Rattle.normalise.specs.Steps.{ExpressedTo, Names, NamesTo, NumbersBehind}
use Rattle.normalise.specs.View.{Lists, Keeps, HasClass, HasProperty, Adds, From}
use Rattle.normalise.proofs.Giving.{first_whole, first_more, steps_more, take_long}

-- ---- numbers by first place

pushed : {X : Type 0} (xs : List X) (x y : X) → Contains xs y → Contains (xs ++ x ∷ []) y
pushed xs x y c = let p = slice_get-from_Contains xs y c in Contains-from_slice_get (xs ++ x ∷ []) p.0 y (keeps_push xs x p.0 y p.1)

last_of : {X : Type 0} (xs : List X) (x : X) → Contains (xs ++ x ∷ []) x
last_of xs x = Contains-from_slice_get (xs ++ x ∷ []) (length xs) x (slice_get_push xs x)

pushed_cases : {X : Type 0} (xs : List X) (x y : X) → Contains (xs ++ x ∷ []) y → Contains xs y ⊎ (x ≡ y)
pushed_cases xs x y c = let p = slice_get-from_Contains (xs ++ x ∷ []) y c in elim (slice_get_push_cases xs x p.0 y p.1) [
  | inl h ↦ inl (Contains-from_slice_get xs p.0 y h)
  | inr h ↦ inr h.1
]

module _ {X : Type 0} (places old : List X) (x : X) (numbered : AreNumberedByFirstPlace places old) where
  -- what is numbered stands before the next place
  stands : (j : ℕ) → length places ≤ j → (m : ℕ) (a : X) → slice_get old m ≡ Some a → (i : ℕ) × (i < j) × (slice_get (places ++ x ∷ []) i ≡ Some a)
  stands j l m a g =
      let p = slice_get-from_Contains places a (numbered.each a (Contains-from_slice_get old m a g)) in
      (p.0, omega (arith, l, slice_get_within places p.0 a p.1), keeps_push places x p.0 a p.1)

  ordered : (m n : ℕ) (a b : X) → m < n → slice_get old m ≡ Some a → slice_get old n ≡ Some b → (j : ℕ) → slice_get (places ++ x ∷ []) j ≡ Some b → (i : ℕ) × (i < j) × (slice_get (places ++ x ∷ []) i ≡ Some a)
  ordered m n a b l ga gb j gj = elim (slice_get_push_cases places x j b gj) [
    | inl h ↦ (let r = numbered.order m n a b l ga gb j h in (r.0, r.1, keeps_push places x r.0 a r.2))
    | inr h ↦ stands j (omega (arith, h.0)) m a ga
  ]

  old_number : (n : ℕ) → slice_get old n ≡ Some x → AreNumberedByFirstPlace (places ++ x ∷ []) old
  old_number n g = record {
    each = λ y c. pushed places x y (numbered.each y c);
    all = λ y c. elim (pushed_cases places x y c) [ inl h ↦ numbered.all y h | inr e ↦ subst (Contains old) e (Contains-from_slice_get old n x g) ];
    order = ordered;
  }

  new_number : (Contains old x → ⊥) → AreNumberedByFirstPlace (places ++ x ∷ []) (old ++ x ∷ [])
  new_number out = record {
    each = λ y c. elim (pushed_cases old x y c) [ inl h ↦ pushed places x y (numbered.each y h) | inr e ↦ subst (Contains (places ++ x ∷ [])) e (last_of places x) ];
    all = λ y c. elim (pushed_cases places x y c) [ inl h ↦ pushed old x y (numbered.all y h) | inr e ↦ subst (Contains (old ++ x ∷ [])) e (last_of old x) ];
    order = λ m n a b l ga gb j gj. elim (slice_get_push_cases old x n b gb) [
      | inl hb ↦ elim (slice_get_push_cases old x m a ga) [
        | inl ha ↦ ordered m n a b l ha hb j gj
        | inr ha ↦ absurd (omega (arith, l, ha.0, slice_get_within old n b hb))
      ]
      | inr hb ↦ elim (slice_get_push_cases old x m a ga) [
        | inl ha ↦ elim (slice_get_push_cases places x j b gj) [
          | inl h ↦ absurd (out (subst (Contains old) (sym hb.1) (numbered.all b (Contains-from_slice_get places j b h))))
          | inr h ↦ stands j (omega (arith, h.0)) m a ha
        ]
        | inr ha ↦ absurd (omega (arith, l, ha.0, hb.0))
      ]
    ];
  }

numbered_more : {X : Type 0} (places old : List X) (x : X) (new : List X) (n : ℕ) → Numbers old x new n → AreNumberedByFirstPlace places old → AreNumberedByFirstPlace (places ++ x ∷ []) new
numbered_more places old x new n (inl h) numbered = subst (AreNumberedByFirstPlace (places ++ x ∷ [])) (sym h.1) (old_number places old x numbered n h.0)
numbered_more places old x new n (inr h) numbered = subst (AreNumberedByFirstPlace (places ++ x ∷ [])) (sym h.2) (new_number places old x numbered h.0)

pub behind_none : (old new : Lists) → new ≡ old → NumbersBehind old [] new
behind_none old new same = λ places h. subst (λ ps. AreNumberedByFirstPlace ps new) (sym (append-nil places)) (subst (AreNumberedByFirstPlace places) (sym same) h)

behind_one : (old : Lists) (x : List ℕ) (new : Lists) (n : ℕ) → Numbers old x new n → NumbersBehind old (x ∷ []) new
behind_one old x new n numbers = λ places h. numbered_more places old x new n numbers h

behind_both : (a b c p q : Lists) → NumbersBehind a p b → NumbersBehind b q c → NumbersBehind a (p ++ q) c
behind_both a b c p q f g = λ places h. subst (λ ps. AreNumberedByFirstPlace ps c) (append_assoc places p q) (g (places ++ p) (f places h))

-- ---- the prefixes of a list

below_more : (k : ℕ) (list : List ℕ) → 2 ≤ k → prefixes_below (k + 1) list ≡ prefixes_below k list ++ take k list ∷ []
below_more k list l = rw add-one (grind (arith, nat_tests))

below_two : (k : ℕ) (list : List ℕ) → k ≤ 2 → prefixes_below k list ≡ []
below_two zero list l = refl
below_two (suc zero) list l = refl
below_two (suc (suc zero)) list l = refl
below_two (suc (suc (suc k))) list l = absurd (omega arith)

pub names_begun : (old : Lists) (list : List ℕ) → NamesTo old old list 1
names_begun old list = record {
  some = λ l. subst (λ ps. NumbersBehind old ps old) (sym (below_two (1 + 1) list (omega arith))) (behind_none old old refl);
  all = λ l. subst (λ ps. NumbersBehind old ps old) (sym (below_two (length list) list (omega arith))) (behind_none old old refl);
}

pub names_more : (old mid new : Lists) (list : List ℕ) (k : ℕ) → 0 < k → k < length list → NamesTo old mid list k → Names mid new list k → NamesTo old new list (k + 1)
names_more old mid new list k pos within to names = record {
  some = λ l. (
      let m = names.some l in
      subst (λ ps. NumbersBehind old ps new) (sym (below_more (k + 1) list (omega arith)))
      (behind_both old mid new (prefixes_below (k + 1) list) (take (k + 1) list ∷ []) (to.some within) (behind_one mid (take (k + 1) list) new m.0 m.1))
      );
  all = λ l. (
      let e : k + 1 ≡ length list = omega arith in
      subst (λ n. NumbersBehind old (prefixes_below n list) new) e (subst (NumbersBehind old (prefixes_below (k + 1) list)) (sym (names.all e)) (to.some within))
      );
}

pub none_to_name : (old new : Lists) (list : List ℕ) → length list ≤ 1 → new ≡ old → NumbersBehind old (prefixes_of list) new
none_to_name old new list l same = subst (λ ps. NumbersBehind old ps new) (sym (below_two (length list) list (omega arith))) (behind_none old new same)

-- ---- where no chain is given

both_ways : {X : Type 0} (xs ys : List X) → Keeps xs ys → Keeps ys xs → ys ≡ xs
both_ways [] [] k l = refl
both_ways [] (y ∷ ys) k l = absurd (none-some y (l 0 y refl))
both_ways (x ∷ xs) [] k l = absurd (none-some x (k 0 x refl))
both_ways (x ∷ xs) (y ∷ ys) k l = ap₂ (λ z zs. z ∷ zs) (same_Some y x (k 0 x refl)) (both_ways xs ys (λ n z g. k (suc n) z g) (λ n z g. l (suc n) z g))

steps_stay : (s t : Made) (G : Origin → Form → Type 0) → Adds s t G → ((rs : List ℕ) → HasProperty G rs → ⊥) → t.steps ≡ s.steps
steps_stay s t G a none = both_ways s.steps t.steps a.steps.keeps (λ n rs g. elim (a.properties n rs g) [ inl h ↦ h | inr h ↦ absurd (none rs h) ])

-- it is no chain
abbrev pub NamesNone : Axiom → Type 0
NamesNone (SubProperty rs s) = ⊥
NamesNone _ = Unit {0}

gives_no_chain : (a : Axiom) → NamesNone a → (p q : Property2) (rs : List ℕ) → AxiomGives a (N6 p q (Steps rs)) → ⊥
gives_no_chain (SubClass c d) none p q rs e = let f : N6 p q (Steps rs) ≡ N1 (Whole c) (Whole d) = e in cc
gives_no_chain (EquivalentClasses cs) none p q rs (n, (c, d, _, _, e)) = let f : N6 p q (Steps rs) ≡ N1 (Whole c) (Whole d) = e in cc
gives_no_chain (DisjointClasses cs) none p q rs (m, (n, (c, d, _, _, _, e))) = let f : N6 p q (Steps rs) ≡ N2 (Whole c) (Whole d) (Whole nothing) = e in cc
gives_no_chain (SubProperty rs' s) none p q rs h = none
gives_no_chain (EquivalentProperties rs') none p q rs (n, (r, s, _, _, e)) = let f : N6 p q (Steps rs) ≡ N5 r s = e in cc
gives_no_chain (Domain r c) none p q rs e = let f : N6 p q (Steps rs) ≡ N4 r (Whole thing) (Whole c) = e in cc
gives_no_chain (Transitive r) none p q rs e = let f : N6 p q (Steps rs) ≡ N6 (Property r) (Property r) (Property r) = e in cc
gives_no_chain (Reflexive r) none p q rs e = let f : N6 p q (Steps rs) ≡ N7 r = e in cc
gives_no_chain (ClassAssertion c a) none p q rs e = let f : N6 p q (Steps rs) ≡ N8 a (Whole c) = e in cc
gives_no_chain (PropertyAssertion r a b) none p q rs e = let f : N6 p q (Steps rs) ≡ N9 a r b = e in cc
gives_no_chain (SameIndividuals xs) none p q rs (n, (a, b, _, _, e)) = let f : N6 p q (Steps rs) ≡ N10 a b = e in cc
gives_no_chain (DifferentIndividuals xs) none p q rs (m, (n, (a, b, _, _, _, e))) = let f : N6 p q (Steps rs) ≡ N11 a b = e in cc
gives_no_chain (NegativePropertyAssertion r a b) none p q rs e = let f : N6 p q (Steps rs) ≡ N12 a r b = e in cc

no_prefixes : (a : Axiom) → NamesNone a → chain_prefixes a ≡ []
no_prefixes (SubClass c d) none = refl
no_prefixes (EquivalentClasses cs) none = refl
no_prefixes (DisjointClasses cs) none = refl
no_prefixes (SubProperty rs s) none = absurd none
no_prefixes (EquivalentProperties rs) none = refl
no_prefixes (Domain r c) none = refl
no_prefixes (Transitive r) none = refl
no_prefixes (Reflexive r) none = refl
no_prefixes (ClassAssertion c a) none = refl
no_prefixes (PropertyAssertion r a b) none = refl
no_prefixes (SameIndividuals xs) none = refl
no_prefixes (DifferentIndividuals xs) none = refl
no_prefixes (NegativePropertyAssertion r a b) none = refl

-- an axiom that is no chain names nothing
pub names_none : (s t : Made) (p : Origin) (a : Axiom) → NamesNone a → Adds s t (From p (AxiomGives a)) → NumbersBehind s.steps (chain_prefixes a) t.steps
names_none s t p a none adds =
    subst (λ ps. NumbersBehind s.steps ps t.steps) (sym (no_prefixes a none))
    (behind_none s.steps t.steps (steps_stay s t (From p (AxiomGives a)) adds (λ rs h. gives_no_chain a none h.1 h.2 rs h.3.1)))

right_no_chain : (e : ℕ) (node : Node) (p q : Property2) (rs : List ℕ) → RightGives e node (N6 p q (Steps rs)) → ⊥
right_no_chain e (Class c) p q rs h = h
right_no_chain e (And ds) p q rs (d, _, i) = let f : N6 p q (Steps rs) ≡ N1 (Whole e) (Whole d) = i in cc
right_no_chain e (Exists r c) p q rs i = let f : N6 p q (Steps rs) ≡ N3 (Whole e) r c = i in cc

left_no_chain : (e : ℕ) (node : Node) (p q : Property2) (rs : List ℕ) → LeftGives e node (N6 p q (Steps rs)) → ⊥
left_no_chain e (Class c) p q rs h = h
left_no_chain e (And ds) p q rs (n, (d, _, _, i)) = let f : N6 p q (Steps rs) ≡ N2 (first_of ds e n) (Whole d) (first_of ds e (n + 1)) = i in cc
left_no_chain e (Exists r c) p q rs i = let f : N6 p q (Steps rs) ≡ N4 r (Whole c) (Whole e) = i in cc

-- expressions name no chain
pub expressions_name_none : (s t : Made) (nodes : List Node) (R L : ℕ → Type 0) (numbers : List ℕ) (k : ℕ) → Adds s t (ExpressedTo nodes R L numbers k) → t.steps ≡ s.steps
expressions_name_none s t nodes R L numbers k adds = steps_stay s t (ExpressedTo nodes R L numbers k) adds none
  where
    none : (rs : List ℕ) → HasProperty (ExpressedTo nodes R L numbers k) rs → ⊥
    none rs (o, p, q, (_, _, _, (n, _, (node, _, _, h)))) = elim h [ inl x ↦ right_no_chain n node p q rs x.1 | inr y ↦ left_no_chain n node p q rs y.1 ]

-- ---- axiom by axiom

pub chains_more : (axioms : List Axiom) (a : Axiom) (old new : Lists) → NameChains axioms old → NumbersBehind old (chain_prefixes a) new → NameChains (axioms ++ a ∷ []) new
chains_more axioms a old new h behind =
    let one : all_chain_prefixes (a ∷ []) ≡ chain_prefixes a = append-nil (chain_prefixes a) in
    subst (λ ps. AreNumberedByFirstPlace ps new) (sym (flat_map-append chain_prefixes axioms (a ∷ []) ∙ ap (λ ps. all_chain_prefixes axioms ++ ps) one)) (behind (all_chain_prefixes axioms) h)

-- a list keeps its members at the front of a longer one
pub kept_front : {X : Type 0} (xs ys : List X) → Keeps xs ys → take (length xs) ys ≡ xs
kept_front [] ys k = refl
kept_front (x ∷ xs) [] k = absurd (none-some x (k 0 x refl))
kept_front (x ∷ xs) (y ∷ ys) k = ap₂ (λ z zs. z ∷ zs) (same_Some y x (k 0 x refl)) (kept_front xs ys (λ n z g. k (suc n) z g))

pub all_taken : {X : Type 0} (n : ℕ) (xs : List X) → n ≡ length xs → take n xs ≡ xs
all_taken n xs e = ap (λ k. take k xs) e ∙ kept_front xs xs (λ n x g. g)

pub no_chains : NameChains [] []
no_chains = record { each = λ x c. c; all = λ x c. c; order = λ m n x y l g. absurd (none-some x g) }

-- ---- prefixes and the forms that have them last

begins_last : (e : ℕ) (ds : List ℕ) (n d : ℕ) (list : List ℕ) → 0 < n → slice_get ds n ≡ Some d → Prefix list ≡ first_of ds e (n + 1) → IsPrefixOf ds list
begins_last e ds n d list pos gd i = elim (cases_eq (n + 1) (length ds)) [
  | inl w ↦ (let f : Prefix list ≡ Whole e = i ∙ first_whole ds e (n + 1) w in absurd cc)
  | inr ne ↦ (
      let within : n < length ds = slice_get_within ds n d gd in
      let f : Prefix list ≡ Prefix (take (n + 1) ds) = i ∙ first_more ds e (n + 1) (omega arith) (omega arith) in
      let same : list ≡ take (n + 1) ds = cc in let long : length list ≡ n + 1 = ap length same ∙ take_long (n + 1) ds (omega arith) in
      record { many = omega arith; shorter = omega arith; first = same ∙ ap (λ k. take k ds) (sym long) }
      )
]

n2_last : (a b c a' b' c' : Class2) → N2 a b c ≡ N2 a' b' c' → c ≡ c'
n2_last a b c a' b' c' e = cc

axiom_no_class : (x : Axiom) (a b : Class2) (ds : List ℕ) → AxiomGives x (N2 a b (Prefix ds)) → ⊥
axiom_no_class (SubClass c d) a b ds e = let f : N2 a b (Prefix ds) ≡ N1 (Whole c) (Whole d) = e in cc
axiom_no_class (EquivalentClasses cs) a b ds (n, (c, d, _, _, e)) = let f : N2 a b (Prefix ds) ≡ N1 (Whole c) (Whole d) = e in cc
axiom_no_class (DisjointClasses cs) a b ds (m, (n, (c, d, _, _, _, e))) = let f : N2 a b (Prefix ds) ≡ N2 (Whole c) (Whole d) (Whole nothing) = e in cc
axiom_no_class (SubProperty rs s) a b ds (inl (r, _, e)) = let f : N2 a b (Prefix ds) ≡ N5 r s = e in cc
axiom_no_class (SubProperty rs s) a b ds (inr (n, (r, _, _, e))) = let f : N2 a b (Prefix ds) ≡ N6 (first_steps rs (Property s) n) (Property r) (first_steps rs (Property s) (n + 1)) = e in cc
axiom_no_class (EquivalentProperties rs) a b ds (n, (r, s, _, _, e)) = let f : N2 a b (Prefix ds) ≡ N5 r s = e in cc
axiom_no_class (Domain r c) a b ds e = let f : N2 a b (Prefix ds) ≡ N4 r (Whole thing) (Whole c) = e in cc
axiom_no_class (Transitive r) a b ds e = let f : N2 a b (Prefix ds) ≡ N6 (Property r) (Property r) (Property r) = e in cc
axiom_no_class (Reflexive r) a b ds e = let f : N2 a b (Prefix ds) ≡ N7 r = e in cc
axiom_no_class (ClassAssertion c i) a b ds e = let f : N2 a b (Prefix ds) ≡ N8 i (Whole c) = e in cc
axiom_no_class (PropertyAssertion r i j) a b ds e = let f : N2 a b (Prefix ds) ≡ N9 i r j = e in cc
axiom_no_class (SameIndividuals xs) a b ds (n, (i, j, _, _, e)) = let f : N2 a b (Prefix ds) ≡ N10 i j = e in cc
axiom_no_class (DifferentIndividuals xs) a b ds (m, (n, (i, j, _, _, _, e))) = let f : N2 a b (Prefix ds) ≡ N11 i j = e in cc
axiom_no_class (NegativePropertyAssertion r i j) a b ds e = let f : N2 a b (Prefix ds) ≡ N12 i r j = e in cc

right_no_class : (e : ℕ) (node : Node) (a b : Class2) (ds : List ℕ) → RightGives e node (N2 a b (Prefix ds)) → ⊥
right_no_class e (Class c) a b ds h = h
right_no_class e (And cs) a b ds (d, _, i) = let f : N2 a b (Prefix ds) ≡ N1 (Whole e) (Whole d) = i in cc
right_no_class e (Exists r c) a b ds i = let f : N2 a b (Prefix ds) ≡ N3 (Whole e) r c = i in cc

left_begins : (o : Ontology) (asked : List ℕ) (e : ℕ) (node : Node) (a b : Class2) (ds : List ℕ) → slice_get o.nodes e ≡ Some node → Occurs AtLeft o asked e → LeftGives e node (N2 a b (Prefix ds)) → BeginsIntersection o asked ds
left_begins o asked e (Class c) a b ds at occurs h = absurd h
left_begins o asked e (And cs) a b ds at occurs (n, (d, pos, gd, i)) = record {
  expression = e;
  operands = cs;
  occurs = occurs;
  there = at;
  prefix = begins_last e cs n d ds pos gd (n2_last a b (Prefix ds) (first_of cs e n) (Whole d) (first_of cs e (n + 1)) i);
}
left_begins o asked e (Exists r c) a b ds at occurs i = let f : N2 a b (Prefix ds) ≡ N4 r (Whole c) (Whole e) = i in absurd cc

-- a prefix that a given form has last is that of an intersection
pub given_begins : (o : Ontology) (asked : List ℕ) (ds : List ℕ) → HasClass (GivenBy o asked) ds → BeginsIntersection o asked ds
given_begins o asked ds (origins.Axiom n, a, b, (x, _, h)) = absurd (axiom_no_class x a b ds h)
given_begins o asked ds (origins.Expr e, a, b, (node, at, h)) = elim h [
  | inl x ↦ absurd (right_no_class e.0 node a b ds x.1)
  | inr y ↦ left_begins o asked e.0 node a b ds at y.0 y.1
]

-- each prefix of an intersection is one that a given form has last
pub begins_given : (o : Ontology) (asked : List ℕ) (ds : List ℕ) → BeginsIntersection o asked ds → HasClass (GivenBy o asked) ds
begins_given o asked ds h =
    let e = h.expression in let n = length ds - 1 in
    let many : 2 ≤ length ds = h.prefix.many in let shorter : length ds < length h.operands = h.prefix.shorter in
    let d = slice_get_there h.operands n (omega arith) in
    let long : n + 1 ≡ length ds = omega arith in
    let last : Prefix ds ≡ first_of h.operands e (n + 1) = ap Prefix (h.prefix.first ∙ ap (λ k. take k h.operands) (sym long)) ∙ sym (first_more h.operands e (n + 1) (omega arith) (omega arith)) in
    (origins.Expr (record { 0 = e }), first_of h.operands e n, Whole d.0, (And h.operands, h.there, inr (h.occurs, (n, (d.0, omega arith, d.1, ap (N2 (first_of h.operands e n) (Whole d.0)) last)))))

-- ---- the same of chains

below_begins : (k : ℕ) (rs list : List ℕ) → k ≤ length rs → Contains (prefixes_below k rs) list → IsPrefixOf rs list
below_begins k rs list l c = elim (cases_order k 2) [
  | inl e ↦ absurd (Contains-none list (subst (λ ps. Contains ps list) (below_two k rs (omega arith)) c))
  | inr (inl lt) ↦ absurd (Contains-none list (subst (λ ps. Contains ps list) (below_two k rs (omega arith)) c))
  | inr (inr gt) ↦ go k l gt c
]
  where
    go : (k : ℕ) → k ≤ length rs → 2 < k → Contains (prefixes_below k rs) list → IsPrefixOf rs list
    go zero l gt c = absurd (omega arith)
    go (suc k) l gt c = elim (pushed_cases (prefixes_below k rs) (take k rs) list (subst (λ ps. Contains ps list) (ap (λ m. prefixes_below m rs) (sym (add-one k)) ∙ below_more k rs (omega arith)) c)) [
      | inl h ↦ elim (cases_eq k 2) [
        | inl e ↦ absurd (Contains-none list (subst (λ ps. Contains ps list) (below_two k rs (omega arith)) h))
        | inr ne ↦ go k (omega arith) (omega arith) h
      ]
      | inr e ↦ (let long : length list ≡ k = ap length (sym e) ∙ take_long k rs (omega arith) in
          record { many = omega arith; shorter = omega arith; first = sym e ∙ ap (λ n. take n rs) (sym long) })
    ]

flat_contains : {X Y : Type 0} (f : X → List Y) (xs : List X) (y : Y) → Contains (flat_map f xs) y → (n : ℕ) × (x : X) × (slice_get xs n ≡ Some x) × Contains (f x) y
flat_contains f [] y c = absurd (Contains-none y c)
flat_contains f (x ∷ xs) y c = elim (either (f x) (flat_map f xs) y c) [
  | inl h ↦ (0, x, refl, h)
  | inr h ↦ (let r = flat_contains f xs y h in (suc r.0, r.1, r.2, r.3))
]
  where
    either : {Z : Type 0} (us bs : List Z) (z : Z) → Contains (us ++ bs) z → Contains us z ⊎ Contains bs z
    either [] bs z c = inr c
    either (a ∷ us) bs z c = elim (Contains-cons_cases a z (us ++ bs) c) [
      | inl e ↦ inl (subst (Contains (a ∷ us)) e (Contains-first a us))
      | inr h ↦ elim (either us bs z h) [ inl i ↦ inl (Contains-later a z us i) | inr i ↦ inr i ]
    ]

chain_given : (o : Ontology) (asked : List ℕ) (n : ℕ) (a : Axiom) (rs : List ℕ) → slice_get o.axioms n ≡ Some a → Contains (chain_prefixes a) rs → HasProperty (GivenBy o asked) rs
chain_given o asked n (SubProperty whole s) rs at c =
    let h = below_begins (length whole) whole rs (omega arith) c in let k = length rs - 1 in
    let many : 2 ≤ length rs = h.many in let shorter : length rs < length whole = h.shorter in
    let r = slice_get_there whole k (omega arith) in
    let long : k + 1 ≡ length rs = omega arith in
    let last : Steps rs ≡ first_steps whole (Property s) (k + 1) = ap Steps (h.first ∙ ap (λ m. take m whole) (sym long)) ∙ sym (steps_more whole (Property s) (k + 1) (omega arith) (omega arith)) in
    (origins.Axiom (suc n), first_steps whole (Property s) k, Property r.0, (SubProperty whole s, at, inr (k, (r.0, omega arith, r.1, ap (N6 (first_steps whole (Property s) k) (Property r.0)) last))))
chain_given o asked n (SubClass c d) rs at h = absurd (Contains-none rs h)
chain_given o asked n (EquivalentClasses cs) rs at h = absurd (Contains-none rs h)
chain_given o asked n (DisjointClasses cs) rs at h = absurd (Contains-none rs h)
chain_given o asked n (EquivalentProperties ps) rs at h = absurd (Contains-none rs h)
chain_given o asked n (Domain r c) rs at h = absurd (Contains-none rs h)
chain_given o asked n (Transitive r) rs at h = absurd (Contains-none rs h)
chain_given o asked n (Reflexive r) rs at h = absurd (Contains-none rs h)
chain_given o asked n (ClassAssertion c a) rs at h = absurd (Contains-none rs h)
chain_given o asked n (PropertyAssertion r a b) rs at h = absurd (Contains-none rs h)
chain_given o asked n (SameIndividuals xs) rs at h = absurd (Contains-none rs h)
chain_given o asked n (DifferentIndividuals xs) rs at h = absurd (Contains-none rs h)
chain_given o asked n (NegativePropertyAssertion r a b) rs at h = absurd (Contains-none rs h)

-- what stands for a prefix of a chain is the last of a form
pub chains_given : (o : Ontology) (asked : List ℕ) (steps : Lists) → NameChains o.axioms steps → (n : ℕ) (rs : List ℕ) → slice_get steps n ≡ Some rs → HasProperty (GivenBy o asked) rs
chains_given o asked steps h n rs g =
    let r = flat_contains chain_prefixes o.axioms rs (h.each rs (Contains-from_slice_get steps n rs g)) in
    chain_given o asked r.0 r.1 rs r.2 r.3
