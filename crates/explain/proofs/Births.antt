-- What a form takes, from what gave a fact.
use Rattle.std.proofs.Common.{◌≡◌, ◌⊎◌, ℕ, ◌<◌, ◌≤◌, List, [], ◌∷◌, drop, map, length, slice_get, take, option_map, Option, Some, None, true, Contains, inl, inr, refl, sym, ap, ap₂, ◌∙◌, subst, arith}
use Rattle.std.proofs.lemmas.List.{take-map}
use Rattle.std.proofs.lemmas.Option.{same_Some, none-some, slice_get_within}
use Rattle.lemmas.proofs.Members.{Contains-none, Contains-cons_cases}
use Rattle.lemmas.proofs.Places.{slice_get_take}
use Rattle.axioms.specs.Ontology.{Ontology}
use Rattle.axioms.specs.declared.ids.PropId.{PropId}
use Rattle.axioms.specs.declared.ids.IndId.{IndId}
use Rattle.engine.specs.Saturations.{Saturated, IsSaturated}
use Rattle.explain.specs.OlderFacts.{rests_on, by_axiom, is_by_axiom, is_axiom}
use Rattle.explain.specs.Premises.{LiftTo, LiftsTo, TakesNoSame, first_property, second_property}
use Rattle.explain.specs.Uses.{NamesForm}
use Rattle.facts.specs.Births.{Reason}
use Rattle.facts.specs.Closure.{Problem, Gives, by_form, loop, handed_on, different, apart, Concludes, IsLoop, Links, HandsOn, condition, nothing}
use Rattle.facts.specs.declared.contexts.Context.{Context}
use Rattle.facts.specs.declared.contexts.Context.TheVariants.{Individual}
use Rattle.facts.specs.declared.contexts.Fact.{Fact}
use Rattle.facts.specs.declared.contexts.Fact.TheVariants.{In, Edge}
use Rattle.normal_forms.specs.Properties.{IsAtOrBelow}
use Rattle.normal_forms.specs.declared.forms.Class2.{Class2}
use Rattle.normal_forms.specs.declared.forms.Form.{Form}
use Rattle.normal_forms.specs.declared.forms.Form.TheVariants.{N1, N2, N3, N4, N5, N6, N7, N8, N9, N10, N12}
use Rattle.normal_forms.specs.declared.forms.Origin.TheVariants as origins
use Rattle.normal_forms.specs.declared.forms.PropId2.{PropId2}
use Rattle.normal_forms.specs.declared.forms.PropId2.TheVariants.{Property}
use Rattle.normalise.specs.Entries.{origin_in}
use Rattle.normalise.specs.declared.entries.Entry.{Entry}

-- ---- lists

abbrev head : {X : Type 0} → X → List X → X
head d [] = d
head d (x ∷ xs) = x

pub heads : {X : Type 0} {x y : X} {xs ys : List X} → x ∷ xs ≡ y ∷ ys → x ≡ y
heads {X} {x} e = ap (head x) e

pub tails : {X : Type 0} {x y : X} {xs ys : List X} → x ∷ xs ≡ y ∷ ys → xs ≡ ys
tails {X} e = ap (λ (l : List X). drop 1 l) e

-- what is there among the first is there
pub at_first_places : {X : Type 0} (n : ℕ) (xs : List X) (ms : List ℕ) (ys : List X) → map (slice_get (take n xs)) ms ≡ map Some ys → map (slice_get xs) ms ≡ map Some ys
at_first_places n xs [] [] e = refl
at_first_places n xs [] (y ∷ ys) e = absurd cc
at_first_places n xs (m ∷ ms) [] e = absurd cc
at_first_places n xs (m ∷ ms) (y ∷ ys) e = ap₂ (λ z zs. z ∷ zs) (slice_get_take n xs m y (heads e)).1 (at_first_places n xs ms ys (tails e))

first_place : {X : Type 0} (xs : List X) (ms : List ℕ) (ys : List X) → map (slice_get xs) ms ≡ map Some ys → map (slice_get xs) (take 1 ms) ≡ map Some (take 1 ys)
first_place xs ms ys e = sym (take-map (slice_get xs) 1 ms) ∙ ap (take 1) e ∙ take-map Some 1 ys

-- ---- a form of an axiom

-- what such a form takes: of a domain the edge alone, of a loop nothing, and else all that gives the fact; where individuals have to be
-- one, that is another matter
abbrev pub TakesByAxiom : Problem → Form → List Fact → Fact → Type 0
TakesByAxiom k (N1 a b) older f = Concludes k (N1 a b) older f
TakesByAxiom k (N2 a b c) older f = Concludes k (N2 a b c) older f
TakesByAxiom k (N3 a r b) older f = Concludes k (N3 a r b) older f
TakesByAxiom k (N4 r a b) older f = (x : Context) × (q : PropId2) × (y : Context) × (older ≡ Edge x q y ∷ []) × IsAtOrBelow k.forms q (Property r) × (f ≡ In b x)
TakesByAxiom k (N5 r s) older f = ⊥
TakesByAxiom k (N6 r s t) older f = Concludes k (N6 r s t) older f
TakesByAxiom k (N7 r) older f = (x : Context) × (older ≡ []) × (f ≡ Edge x (Property r) x)
TakesByAxiom k (N8 i a) older f = Concludes k (N8 i a) older f
TakesByAxiom k (N9 i r j) older f = Concludes k (N9 i r j) older f
TakesByAxiom k (N10 i j) older f = ⊥
TakesByAxiom k (N12 i r j) older f = (q : PropId2) × (older ≡ Edge (Individual i) q (Individual j) ∷ []) × IsAtOrBelow k.forms q (Property r) × (f ≡ In nothing (Individual i))

-- the facts at the numbers on which the line rests are what such a form takes
pub record IsTakenByAxiom (k : Problem) (facts : List Fact) (entries : List Entry) (r : Reason) (form : Form) (f : Fact) : Type 0 where
  pub older : List Fact
  pub at : map (slice_get facts) (rests_on entries r) ≡ map Some older
  pub takes : TakesByAxiom k form older f

-- what makes two individuals one is another form
other_link : (form : Form) (i j : IndId) → TakesNoSame form → Links form i j → ⊥
other_link (N10 a b) i j free link = free
other_link _ i j free link = link

pub other_hand : (form : Form) {g f : Fact} → TakesNoSame form → HandsOn form g f → ⊥
other_hand form free (HandsOn.class {i = i} {j = j} link) = other_link form i j free link
other_hand form free (HandsOn.source {i = i} {j = j} link) = other_link form i j free link
other_hand form free (HandsOn.target {i = i} {j = j} link) = other_link form i j free link

abbrev pub reason_of : ℕ → List ℕ → Option ℕ → Reason
reason_of condition older place = record { condition = condition; older = older; form = place }

module _ (k : Problem) (facts : List Fact) (entries : List Entry) (m : ℕ) (by : by_axiom entries (Some m) ≡ true) where
  abbrev Taken : ℕ → List ℕ → Option ℕ → Form → Fact → Type 0
  Taken c numbers place form f = IsTakenByAxiom k facts entries (reason_of c numbers place) form f

  -- two facts give by a domain, of which the first is the edge
  by_domain : (numbers : List ℕ) (older : List Fact) (r : PropId) (a b : Class2) (f : Fact) → map (slice_get facts) numbers ≡ map Some older → Concludes k (N4 r a b) older f → Taken 7 numbers (Some m) (N4 r a b) f
  by_domain numbers (g ∷ h ∷ i ∷ more) r a b f at c = absurd c
  by_domain numbers (Edge x q y ∷ In d z ∷ []) r a b f at c = record {
    older = Edge x q y ∷ [];
    at = rw (by) (first_place facts numbers (Edge x q y ∷ In d z ∷ []) at);
    takes = (x, q, y, refl, c.0, c.3);
  }
  by_domain numbers _ r a b f at c = absurd c

  no_plain : (r s : PropId) (older : List Fact) (f : Fact) → Concludes k (N5 r s) older f → ⊥
  no_plain r s (g ∷ h ∷ i ∷ more) f c = c
  no_plain r s _ f c = c

  no_loop : (r : PropId) (older : List Fact) (f : Fact) → Concludes k (N7 r) older f → ⊥
  no_loop r (g ∷ h ∷ i ∷ more) f c = c
  no_loop r _ f c = c

  -- an edge at or below a pair that is denied
  by_denied : (numbers : List ℕ) (older : List Fact) (i : IndId) (r : PropId) (j : IndId) (f : Fact) → map (slice_get facts) numbers ≡ map Some older → Concludes k (N12 i r j) older f → Taken 13 numbers (Some m) (N12 i r j) f
  by_denied numbers (g ∷ h ∷ i' ∷ more) i r j f at c = absurd c
  by_denied numbers (Edge x q y ∷ []) i r j f at c = record {
    older = Edge x q y ∷ [];
    at = at;
    takes = (q, ap₂ (λ v w. Edge v q w ∷ []) c.0 c.1, c.2, c.3 ∙ ap (In nothing) c.0);
  }
  by_denied numbers _ i r j f at c = absurd c

  concluded_by : (numbers : List ℕ) (older : List Fact) (form : Form) (f : Fact) → TakesNoSame form → map (slice_get facts) numbers ≡ map Some older → Concludes k form older f → Taken (condition form) numbers (Some m) form f
  concluded_by numbers older (N4 r a b) f free at c = by_domain numbers older r a b f at c
  concluded_by numbers older (N5 r s) f free at c = absurd (no_plain r s older f c)
  concluded_by numbers older (N7 r) f free at c = absurd (no_loop r older f c)
  concluded_by numbers older (N10 i j) f free at c = absurd free
  concluded_by numbers older (N12 i r j) f free at c = by_denied numbers older i r j f at c
  concluded_by numbers older _ f free at c = record { older = older; at = at; takes = c }

  looped_by : (numbers : List ℕ) (x : Context) (form : Form) (f : Fact) → IsLoop x form f → Taken 10 numbers (Some m) form f
  looped_by numbers x (N7 r) f is = record { older = []; at = refl; takes = (x, refl, is) }
  looped_by numbers x _ f is = absurd is

  same_form : {n : ℕ} {form form' : Form} → Some n ≡ Some m → slice_get k.forms n ≡ Some form' → slice_get k.forms m ≡ Some form → form' ≡ form
  same_form {n} {form} {form'} e at there = same_Some form' form (sym at ∙ ap (slice_get k.forms) (same_Some n m e) ∙ there)

  taken_by : {c : ℕ} {place : Option ℕ} {older : List Fact} {f : Fact} (numbers : List ℕ) (form : Form) → TakesNoSame form → NamesForm c → Gives k c place older f → place ≡ Some m → slice_get k.forms m ≡ Some form → map (slice_get facts) numbers ≡ map Some older → Taken c numbers place form f
  taken_by {older = older} {f = f} numbers form free of_form (by_form n form' at_n c) e there at =
      subst (λ (p : Option ℕ). Taken (condition form') numbers p form f) (sym e)
      (subst (λ g. Taken (condition form') numbers (Some m) g f) (same_form e at_n there) (concluded_by numbers older form' f (subst TakesNoSame (sym (same_form e at_n there)) free) at c))
  taken_by {f = f} numbers form free of_form (loop x n form' at_n is by') e there at =
      subst (λ (p : Option ℕ). Taken 10 numbers p form f) (sym e)
      (subst (λ g. Taken 10 numbers (Some m) g f) (same_form e at_n there) (looped_by numbers x form' f is))
  taken_by numbers form free of_form (handed_on n form' at_n hands) e there at = absurd (other_hand form' (subst TakesNoSame (sym (same_form e at_n there)) free) hands)
  taken_by numbers form free of_form (different l a b listed same) e there at = absurd (of_form.0 refl)
  taken_by numbers form free of_form (apart l a b x listed) e there at = absurd (of_form.1 refl)
  taken_by numbers form free of_form _ e there at = absurd (none-some m e)

-- ---- the conditions of forms

below_lists : (form : Form) → (condition form ≤ 11) ⊎ (condition form ≡ 13)
below_lists (N12 _ _ _) = inr refl
below_lists _ = inl (omega arith)

-- none is one of lists
pub of_a_form : (form : Form) → NamesForm (condition form)
of_a_form form = elim (below_lists form) [
  | inl l ↦ ((λ e. (let bad : ⊥ = omega (arith, e, l) in bad)), (λ e. (let bad : ⊥ = omega (arith, e, l) in bad)))
  | inr l ↦ ((λ e. (let bad : ⊥ = omega (arith, e, l) in bad)), (λ e. (let bad : ⊥ = omega (arith, e, l) in bad)))
]

-- ---- which facts are there, and which edges are lifted

pub none_named : (forms : List Form) (form : Form) (older : List Fact) → first_property form ≡ None → second_property form ≡ None → LiftTo forms form older
none_named forms form [] e h = tt
none_named forms form (f ∷ []) e h = subst (λ p. LiftsTo forms p f) (sym e) tt
none_named forms form (f ∷ g ∷ more) e h = (subst (λ p. LiftsTo forms p f) (sym e) tt, subst (λ p. LiftsTo forms p g) (sym h) tt)

pub by_chain : (k : Problem) (r s t : PropId2) (older : List Fact) (f : Fact) → Concludes k (N6 r s t) older f → LiftTo k.forms (N6 r s t) older
by_chain k r s t (g ∷ h ∷ i ∷ more) f c = absurd c
by_chain k r s t [] f c = tt
by_chain k r s t (Edge x p y ∷ Edge z q w ∷ []) f c = (c.0, c.1)
by_chain k r s t _ f c = absurd c

takes_lead_up : (k : Problem) (form : Form) (older : List Fact) (f : Fact) → TakesByAxiom k form older f → LiftTo k.forms form older
takes_lead_up k (N1 a b) older f t = none_named k.forms (N1 a b) older refl refl
takes_lead_up k (N2 a b d) older f t = none_named k.forms (N2 a b d) older refl refl
takes_lead_up k (N3 a r b) older f t = none_named k.forms (N3 a r b) older refl refl
takes_lead_up k (N4 r a b) older f (x, q, y, e, below, is) = subst (LiftTo k.forms (N4 r a b)) (sym e) below
takes_lead_up k (N5 r s) older f t = absurd t
takes_lead_up k (N6 r s t) older f takes = by_chain k r s t older f takes
takes_lead_up k (N7 r) older f t = none_named k.forms (N7 r) older refl refl
takes_lead_up k (N8 i a) older f t = none_named k.forms (N8 i a) older refl refl
takes_lead_up k (N9 i r j) older f t = none_named k.forms (N9 i r j) older refl refl
takes_lead_up k (N10 i j) older f t = absurd t
takes_lead_up k (N12 i r j) older f (q, e, below, is) = subst (LiftTo k.forms (N12 i r j)) (sym e) below

pub same_each : {X : Type 0} (xs ys : List X) → map Some xs ≡ map Some ys → xs ≡ ys
same_each [] [] e = refl
same_each [] (y ∷ ys) e = absurd cc
same_each (x ∷ xs) [] e = absurd cc
same_each (x ∷ xs) (y ∷ ys) e = ap₂ (λ z zs. z ∷ zs) (same_Some x y (heads e)) (same_each xs ys (tails e))

pub each_there : {X : Type 0} (xs : List X) (ms : List ℕ) (ys : List X) (n : ℕ) → map (slice_get xs) ms ≡ map Some ys → Contains ms n → n < length xs
each_there xs [] ys n e there = absurd (Contains-none n there)
each_there xs (m ∷ ms) [] n e there = absurd cc
each_there xs (m ∷ ms) (y ∷ ys) n e there = elim (Contains-cons_cases m n ms there) [
  | inl is ↦ subst (λ p. p < length xs) is (slice_get_within xs m y (heads e))
  | inr later ↦ each_there xs ms ys n (tails e) later
]

-- ---- of a saturation

pub born_by : (o : Ontology) (s : Saturated) (n : ℕ) (r : Reason) (f : Fact) → IsSaturated o s → slice_get s.state.births n ≡ Some r → slice_get s.state.facts n ≡ Some f
    → (older : List Fact) × (map (slice_get s.state.facts) r.older ≡ map Some older) × Gives s.state.problem r.condition r.form older f
born_by o s n r f saturated born there =
    let (older, at, gives) = saturated.born.born n f r there born in
    (older, at_first_places n s.state.facts r.older older at, gives)

module _ (o : Ontology) (s : Saturated) (saturated : IsSaturated o s) (n : ℕ) (r : Reason) (born : slice_get s.state.births n ≡ Some r) (m : ℕ) (place : r.form ≡ Some m) (of_form : NamesForm r.condition)
    (number : ℕ) (origin : option_map origin_in (slice_get s.normal.entries m) ≡ Some (origins.Axiom number)) where
  is_given_by_axiom : (e : Option Entry) → option_map origin_in e ≡ Some (origins.Axiom number) → is_by_axiom e ≡ true
  is_given_by_axiom None h = absurd cc
  is_given_by_axiom (Some e) h = ap is_axiom (same_Some e.origin (origins.Axiom number) h)

  pub taken_by_axiom : (form : Form) (f : Fact) → TakesNoSame form → slice_get s.state.problem.forms m ≡ Some form → slice_get s.state.facts n ≡ Some f → IsTakenByAxiom s.state.problem s.state.facts s.normal.entries r form f
  taken_by_axiom form f free at there =
      let (older, at_older, gives) = born_by o s n r f saturated born there in
      taken_by s.state.problem s.state.facts s.normal.entries m (is_given_by_axiom (slice_get s.normal.entries m) origin) r.older form free of_form gives place at at_older

  pub rests_there : (form : Form) (f : Fact) → TakesNoSame form → slice_get s.state.problem.forms m ≡ Some form → slice_get s.state.facts n ≡ Some f → (p : ℕ) → Contains (rests_on s.normal.entries r) p → p < length s.state.facts
  rests_there form f free at there p rests =
      let t = taken_by_axiom form f free at there in
      each_there s.state.facts (rests_on s.normal.entries r) t.older p t.at rests

  pub rests_lead_up : (form : Form) (f : Fact) → TakesNoSame form → slice_get s.state.problem.forms m ≡ Some form → slice_get s.state.facts n ≡ Some f → (fs : List Fact) → map (slice_get s.state.facts) (rests_on s.normal.entries r) ≡ map Some fs → LiftTo s.state.problem.forms form fs
  rests_lead_up form f free at there fs at_fs =
      let t = taken_by_axiom form f free at there in
      subst (LiftTo s.state.problem.forms form) (same_each t.older fs (sym t.at ∙ at_fs)) (takes_lead_up s.state.problem form t.older f t.takes)
