-- The expressions of axioms stand in the forms that these give.
use Rattle.std.proofs.Common.{◌≡◌, ℕ, zero, suc, ◌+◌, ◌<◌, ◌≤◌, ◌⊎◌, inl, inr, Bool, List, [], ◌∷◌, ◌++◌, length, slice_get, Some, Contains, refl, sym, ap, ◌∙◌, subst, arith}
use Rattle.std.proofs.lemmas.Bool.{cases_order}
use Rattle.std.proofs.lemmas.Option.{slice_get_within}
use Rattle.std.proofs.lemmas.List.Elements.{All-contains}
use Rattle.lemmas.proofs.Choices.{one_value}
use Rattle.lemmas.proofs.Members.{Contains-from_slice_get, slice_get-from_Contains}
use Rattle.lemmas.proofs.Places.{slice_get_there}
use Rattle.axioms.specs.Ontology.{Ontology, Axiom, thing, SubClass, EquivalentClasses, DisjointClasses, SubProperty, EquivalentProperties, Domain, Transitive, Reflexive, ClassAssertion, PropertyAssertion, SameIndividuals, DifferentIndividuals, NegativePropertyAssertion}
use Rattle.axioms.specs.WellFormedness.{AreOperands, IsAxiomOf, IsOntology}
use Rattle.axioms.specs.declared.ids.ExprId.{ExprId}
use Rattle.normal_forms.specs.Apart.{AreListedAt}
use Rattle.normal_forms.specs.declared.forms.Class2 as code_class
use Rattle.normal_forms.specs.declared.forms.Class2.TheVariants as classes
use Rattle.normal_forms.specs.declared.forms.Form as code_form
use Rattle.normal_forms.specs.declared.forms.Form.TheVariants as forms
use Rattle.normal_forms.specs.declared.forms.Origin.{Origin}
use Rattle.normal_forms.specs.declared.forms.Origin.TheVariants as origins
use Rattle.normal_forms.specs.Forms.{Class2, Form, Whole, Prefix, N1, N2, N4, N8}
use Rattle.normal_forms.specs.Occurrences.{AtLeft, AtRight}
use Rattle.normal_forms.specs.Origins.{AxiomGives, disjoint, subsumed}
use Rattle.normalise.specs.Apart.{disjoint_classes}
use Rattle.normalise.specs.declared.entries.Entry.{Entry}
use Rattle.normalise.specs.declared.made.Made.{Made}
use Rattle.normalise.specs.Growth.{AreThere, Grows, IsFreshAt, IsHeldAt, IsNormalFor, MakesMore}
use Rattle.normalise.specs.Listing.{Listing}
use Rattle.normalise.specs.Named.{AreNamedBelow, AreNamedBelowMarks, IsClassBelow, IsFormBelow}
use Rattle.normalise.specs.Steps.{ExpressedTo, StatedFrom}
use Rattle.normalise.specs.View.{Adds, AtClasses, AtEntry, AtIndividuals, Listed, Lists, Place, Says, SaysClass}
use Rattle.normalise.proofs.Adding.{adds_both, behind_nothing}
use Rattle.normalise.proofs.Grown.{number_at, stated_apart}

-- ---- the same of the definition's forms

abbrev IsWholeBelow : ℕ → Class2 → Type 0
IsWholeBelow bound (Whole e) = e < bound
IsWholeBelow bound (Prefix ds) = Unit {0}

abbrev IsBelow : ℕ → Form → Type 0
IsBelow bound (N1 x y) = IsWholeBelow bound x × IsWholeBelow bound y
IsBelow bound (N2 x y z) = IsWholeBelow bound x × IsWholeBelow bound y
IsBelow bound (N4 r x y) = IsWholeBelow bound y
IsBelow bound (N8 i x) = IsWholeBelow bound x
IsBelow bound _ = Unit {0}

class_up : (bound : ℕ) (t : Lists) (a : code_class.Class2) (x : Class2) → SaysClass t a x → IsClassBelow bound a → IsWholeBelow bound x
class_up bound t (classes.Expr e) x h l = subst (IsWholeBelow bound) (sym h) l
class_up bound t (classes.Partial n) x h l = subst (IsWholeBelow bound) (sym h.2) tt

class_down : (bound : ℕ) (t : Lists) (a : code_class.Class2) (x : Class2) → SaysClass t a x → IsWholeBelow bound x → IsClassBelow bound a
class_down bound t (classes.Expr e) x h l = subst (IsWholeBelow bound) h l
class_down bound t (classes.Partial n) x h l = tt

form_up : (bound : ℕ) (t u : Lists) (f : code_form.Form) (g : Form) → Says t u f g → IsFormBelow bound f → IsBelow bound g
form_up bound t u (forms.N1 a b) g (x, y, h, i, e) l = subst (IsBelow bound) (sym e) (class_up bound t a x h l.0, class_up bound t b y i l.1)
form_up bound t u (forms.N2 a b c) g (x, y, z, h, i, j, e) l = subst (IsBelow bound) (sym e) (class_up bound t a x h l.0, class_up bound t b y i l.1)
form_up bound t u (forms.N3 a r b) g (x, h, e) l = subst (IsBelow bound) (sym e) tt
form_up bound t u (forms.N4 r a b) g (x, y, h, i, e) l = subst (IsBelow bound) (sym e) (class_up bound t b y i l)
form_up bound t u (forms.N5 r s) g e l = subst (IsBelow bound) (sym e) tt
form_up bound t u (forms.N6 p q r) g (x, y, z, h, i, j, e) l = subst (IsBelow bound) (sym e) tt
form_up bound t u (forms.N7 r) g e l = subst (IsBelow bound) (sym e) tt
form_up bound t u (forms.N8 i a) g (x, h, e) l = subst (IsBelow bound) (sym e) (class_up bound t a x h l)
form_up bound t u (forms.N9 a r b) g e l = subst (IsBelow bound) (sym e) tt
form_up bound t u (forms.N10 a b) g e l = subst (IsBelow bound) (sym e) tt
form_up bound t u (forms.N12 a r b) g e l = subst (IsBelow bound) (sym e) tt

form_down : (bound : ℕ) (t u : Lists) (f : code_form.Form) (g : Form) → Says t u f g → IsBelow bound g → IsFormBelow bound f
form_down bound t u (forms.N1 a b) g (x, y, h, i, e) l = let k = subst (IsBelow bound) e l in (class_down bound t a x h k.0, class_down bound t b y i k.1)
form_down bound t u (forms.N2 a b c) g (x, y, z, h, i, j, e) l = let k = subst (IsBelow bound) e l in (class_down bound t a x h k.0, class_down bound t b y i k.1)
form_down bound t u (forms.N3 a r b) g h l = tt
form_down bound t u (forms.N4 r a b) g (x, y, h, i, e) l = class_down bound t b y i (subst (IsBelow bound) e l)
form_down bound t u (forms.N5 r s) g h l = tt
form_down bound t u (forms.N6 p q r) g h l = tt
form_down bound t u (forms.N7 r) g h l = tt
form_down bound t u (forms.N8 i a) g (x, h, e) l = class_down bound t a x h (subst (IsBelow bound) e l)
form_down bound t u (forms.N9 a r b) g h l = tt
form_down bound t u (forms.N10 a b) g h l = tt
form_down bound t u (forms.N12 a r b) g h l = tt

class_raise : (low high : ℕ) → low ≤ high → (a : code_class.Class2) → IsClassBelow low a → IsClassBelow high a
class_raise low high le (classes.Expr e) l = omega (arith, le, l)
class_raise low high le (classes.Partial n) l = tt

form_raise : (low high : ℕ) → low ≤ high → (f : code_form.Form) → IsFormBelow low f → IsFormBelow high f
form_raise low high le (forms.N1 a b) l = (class_raise low high le a l.0, class_raise low high le b l.1)
form_raise low high le (forms.N2 a b c) l = (class_raise low high le a l.0, class_raise low high le b l.1)
form_raise low high le (forms.N3 a r b) l = tt
form_raise low high le (forms.N4 r a b) l = class_raise low high le b l
form_raise low high le (forms.N5 r s) l = tt
form_raise low high le (forms.N6 p q r) l = tt
form_raise low high le (forms.N7 r) l = tt
form_raise low high le (forms.N8 i a) l = class_raise low high le a l
form_raise low high le (forms.N9 a r b) l = tt
form_raise low high le (forms.N10 a b) l = tt
form_raise low high le (forms.N12 a r b) l = tt

-- ---- axioms

member_below : (bound : ℕ) (cs : List ℕ) → AreOperands bound cs → (n c : ℕ) → slice_get cs n ≡ Some c → c < bound
member_below bound cs ok n c g = All-contains (λ x. x < bound) cs c ok.within (Contains-from_slice_get cs n c g)

-- an axiom of an ontology gives forms of expressions that are there
axiom_below : (p : Ontology) (a : Axiom) → IsAxiomOf p a → (g : Form) → AxiomGives a g → IsBelow (length p.nodes) g
axiom_below p (SubClass c d) ok g e = subst (IsBelow (length p.nodes)) (sym e) ok
axiom_below p (EquivalentClasses cs) ok g (n, (c, d, gc, next, e)) =
    let at_next : d < length p.nodes = elim next [ inl h ↦ member_below (length p.nodes) cs ok (n + 1) d h | inr h ↦ member_below (length p.nodes) cs ok 0 d h.1 ] in
    subst (IsBelow (length p.nodes)) (sym e) (member_below (length p.nodes) cs ok n c gc, at_next)
axiom_below p (DisjointClasses cs) ok g (m, (n, (c, d, lt, gc, gd, e))) = subst (IsBelow (length p.nodes)) (sym e) (member_below (length p.nodes) cs ok m c gc, member_below (length p.nodes) cs ok n d gd)
axiom_below p (SubProperty rs s) ok g (inl (r, _, e)) = subst (IsBelow (length p.nodes)) (sym e) tt
axiom_below p (SubProperty rs s) ok g (inr (n, (r, _, _, e))) = subst (IsBelow (length p.nodes)) (sym e) tt
axiom_below p (EquivalentProperties rs) ok g (n, (c, d, gc, next, e)) = subst (IsBelow (length p.nodes)) (sym e) tt
axiom_below p (Domain r c) ok g e = subst (IsBelow (length p.nodes)) (sym e) ok.1
axiom_below p (Transitive r) ok g e = subst (IsBelow (length p.nodes)) (sym e) tt
axiom_below p (Reflexive r) ok g e = subst (IsBelow (length p.nodes)) (sym e) tt
axiom_below p (ClassAssertion c a) ok g e = subst (IsBelow (length p.nodes)) (sym e) ok.0
axiom_below p (PropertyAssertion r a b) ok g e = subst (IsBelow (length p.nodes)) (sym e) tt
axiom_below p (SameIndividuals xs) ok g (n, (a, b, ga, gb, e)) = subst (IsBelow (length p.nodes)) (sym e) tt
axiom_below p (DifferentIndividuals xs) ok g (m, (n, (a, b, lt, ga, gb, e))) = subst (IsBelow (length p.nodes)) (sym e) tt
axiom_below p (NegativePropertyAssertion r a b) ok g e = subst (IsBelow (length p.nodes)) (sym e) tt

module _ (bound : ℕ) where
  -- each class of a circle stands in a form of it
  circle_names : (cs : List ℕ) → 2 ≤ length cs → ((g : Form) → AxiomGives (EquivalentClasses cs) g → IsBelow bound g) → (e : ℕ) → Contains cs e → e < bound
  circle_names cs many all e c =
      let p = slice_get-from_Contains cs e c in
      elim (cases_order (p.0 + 1) (length cs)) [
        | inl last ↦ (let first = slice_get_there cs 0 (omega arith) in
            let two : IsBelow bound (subsumed e first.0) = all (subsumed e first.0) (p.0, (e, first.0, p.1, inr (last, first.1), refl)) in two.0)
        | inr (inl low) ↦ (let next = slice_get_there cs (p.0 + 1) low in
            let two : IsBelow bound (subsumed e next.0) = all (subsumed e next.0) (p.0, (e, next.0, p.1, inl next.1, refl)) in two.0)
        | inr (inr high) ↦ absurd (omega (arith, high, slice_get_within cs p.0 e p.1))
      ]

  -- each class of a list of which each two are apart stands in a form of it
  pair_names : (cs : List ℕ) → 2 ≤ length cs → ((g : Form) → AxiomGives (DisjointClasses cs) g → IsBelow bound g) → (e : ℕ) → Contains cs e → e < bound
  pair_names cs many all e c =
      let p = slice_get-from_Contains cs e c in
      elim (cases_order (p.0 + 1) (length cs)) [
        | inl last ↦ (let first = slice_get_there cs 0 (omega arith) in
            let two : IsBelow bound (disjoint first.0 e) = all (disjoint first.0 e) (0, (p.0, (first.0, e, omega arith, first.1, p.1, refl))) in two.1)
        | inr (inl low) ↦ (let next = slice_get_there cs (p.0 + 1) low in
            let two : IsBelow bound (disjoint e next.0) = all (disjoint e next.0) (p.0, (p.0 + 1, (e, next.0, omega arith, p.1, next.1, refl))) in two.0)
        | inr (inr high) ↦ absurd (omega (arith, high, slice_get_within cs p.0 e p.1))
      ]

  -- what an axiom has on a side stands in a form that it gives
  names_below : (p : Ontology) (a : Axiom) → IsAxiomOf p a → ((g : Form) → AxiomGives a g → IsBelow bound g) → (e : ℕ) → AtRight a e ⊎ AtLeft a e → e < bound
  unfolding circle_names pair_names
  names_below p (SubClass c d) ok all e h =
      let two : IsBelow bound (N1 (Whole c) (Whole d)) = all (N1 (Whole c) (Whole d)) refl in
      elim h [ inl i ↦ subst (λ x. x < bound) (sym i) two.1 | inr i ↦ subst (λ x. x < bound) (sym i) two.0 ]
  names_below p (EquivalentClasses cs) ok all e h = elim h [ inl c ↦ circle_names cs ok.many all e c | inr c ↦ circle_names cs ok.many all e c ]
  names_below p (DisjointClasses cs) ok all e h = elim h [ inl c ↦ absurd c | inr c ↦ pair_names cs ok.many all e c ]
  names_below p (SubProperty rs s) ok all e h = elim h [ inl c ↦ absurd c | inr c ↦ absurd c ]
  names_below p (EquivalentProperties rs) ok all e h = elim h [ inl c ↦ absurd c | inr c ↦ absurd c ]
  names_below p (Domain r c) ok all e h =
      let one : IsBelow bound (N4 r (Whole thing) (Whole c)) = all (N4 r (Whole thing) (Whole c)) refl in
      elim h [ inl i ↦ subst (λ x. x < bound) (sym i) one | inr i ↦ absurd i ]
  names_below p (Transitive r) ok all e h = elim h [ inl c ↦ absurd c | inr c ↦ absurd c ]
  names_below p (Reflexive r) ok all e h = elim h [ inl c ↦ absurd c | inr c ↦ absurd c ]
  names_below p (ClassAssertion c a) ok all e h =
      let one : IsBelow bound (N8 a (Whole c)) = all (N8 a (Whole c)) refl in
      elim h [ inl i ↦ subst (λ x. x < bound) (sym i) one | inr i ↦ absurd i ]
  names_below p (PropertyAssertion r a b) ok all e h = elim h [ inl c ↦ absurd c | inr c ↦ absurd c ]
  names_below p (SameIndividuals xs) ok all e h = elim h [ inl c ↦ absurd c | inr c ↦ absurd c ]
  names_below p (DifferentIndividuals xs) ok all e h = elim h [ inl c ↦ absurd c | inr c ↦ absurd c ]
  names_below p (NegativePropertyAssertion r a b) ok all e h = elim h [ inl c ↦ absurd c | inr c ↦ absurd c ]

-- ---- forms that are held

held_below : (v : Listing) → AreNamedBelowMarks v → (at : Place) (k : ℕ) (g : Form) → IsHeldAt v at (origins.Axiom k) g → IsBelow (length v.right) g
held_below v named (AtEntry n) k g (f, at, says) = form_up (length v.right) v.operands v.steps f g says (named.forms n (record { form = f; origin = origins.Axiom k }) at k refl)
held_below v named (AtClasses l m n) k g h =
    let two = named.classes l h.one h.other (h.members, h.there, (m, n, h.later, h.at_first, h.at_second)) in
    let P : Form → Type 0 = IsBelow (length v.right) in subst P (sym h.form) two
held_below v named (AtIndividuals l m n) k g h = let P : Form → Type 0 = IsBelow (length v.right) in subst P (sym h.form) tt

axiom_of_ontology : (p : Ontology) → IsOntology p → (n : ℕ) (a : Axiom) → slice_get p.axioms n ≡ Some a → IsAxiomOf p a
axiom_of_ontology p ok n a g = All-contains (IsAxiomOf p) p.axioms a ok.axioms (Contains-from_slice_get p.axioms n a g)

-- what an old axiom has is an expression that was there
old_there : (o p : Ontology) (from : ℕ) (v : Listing) → IsOntology p → IsNormalFor o v → Grows o p from → AreNamedBelowMarks v → (a : Axiom) → Contains o.axioms a → (e : ℕ) → AtRight a e ⊎ AtLeft a e → e < length o.nodes
old_there o p from v ok normal w named a c e h =
    let q = slice_get-from_Contains o.axioms a c in
    let given : (g : Form) → AxiomGives a g → IsBelow (length v.right) g = λ g gives. (let held = normal.all (origins.Axiom (q.0 + 1)) g (a, number_at o.axioms q.0 ∙ q.1, gives) in held_below v named held.0 (q.0 + 1) g held.1) in
    let below : e < length v.right = names_below (length v.right) p a (axiom_of_ontology p ok q.0 a (w.axioms q.0 a q.1)) given e h in
    omega (arith, below, normal.right.0)

pub right_there : (o p : Ontology) (from : ℕ) (v : Listing) → IsOntology p → IsNormalFor o v → Grows o p from → AreNamedBelowMarks v → AreThere AtRight o
right_there o p from v ok normal w named e (a, c, at) = old_there o p from v ok normal w named a c e (inl at)

pub left_there : (o p : Ontology) (from : ℕ) (v : Listing) → IsOntology p → IsNormalFor o v → Grows o p from → AreNamedBelowMarks v → AreThere AtLeft o
left_there o p from v ok normal w named e (a, c, at) = old_there o p from v ok normal w named a c e (inr at)

-- ---- forms that were made

append_cases : {X : Type 0} (xs ys : List X) (n : ℕ) (x : X) → slice_get (xs ++ ys) n ≡ Some x → (slice_get xs n ≡ Some x) ⊎ ((m : ℕ) × (slice_get ys m ≡ Some x))
append_cases [] ys n x h = inr (n, h)
append_cases (y ∷ xs) ys zero x h = inl h
append_cases (y ∷ xs) ys (suc n) x h = append_cases xs ys n x h

module _ (p : Ontology) (from : ℕ) (v : Listing) (right left : List Bool) (u : Made) (ok : IsOntology p) (makes : MakesMore p from v right left u) where
  New : Origin → Form → Type 0
  New by g = StatedFrom p.axioms from (length p.axioms) by g ⊎ ExpressedTo p.nodes (IsFreshAt right v.right) (IsFreshAt left v.left) makes.numbers (length makes.numbers) by g

  adds : Adds makes.begun u New
  unfolding New
  adds = adds_both (StatedFrom p.axioms from (length p.axioms)) (ExpressedTo p.nodes (IsFreshAt right v.right) (IsFreshAt left v.left) makes.numbers (length makes.numbers))
      (stated_apart p.axioms p.nodes (IsFreshAt right v.right) (IsFreshAt left v.left) makes.numbers from (length p.axioms) (length makes.numbers)) makes.states makes.expresses

  new_below : (by : Origin) (k : ℕ) (g : Form) → by ≡ origins.Axiom k → New by g → IsBelow (length p.nodes) g
  unfolding New
  new_below by k g is (inl (n, _, _, (a, at, _, gives))) = axiom_below p a (axiom_of_ontology p ok n a at) g gives
  new_below by k g is (inr (_, _, _, (n, _, (_, _, e, _)))) = let h : origins.Axiom k ≡ origins.Expr (record { 0 = n }) = sym is ∙ e in absurd cc

  made_forms : (m : ℕ) (entry : Entry) → slice_get u.entries m ≡ Some entry → (k : ℕ) → entry.origin ≡ origins.Axiom k → IsFormBelow (length p.nodes) entry.form
  unfolding adds new_below
  made_forms m entry at k is =
      let said = adds.says m (omega (arith, ap length makes.no_entries)) (slice_get_within u.entries m entry at) in
      let given = adds.each (AtEntry m) said.0 said.1.0 (behind_nothing makes.begun makes.no_entries makes.no_apart (AtEntry m)) said.1.1 in
      let same = one_value _ _ entry said.1.1.1 at in
      let origin : said.0 ≡ origins.Axiom k = ap (λ (e : Entry). e.origin) same ∙ is in
      let below = form_down (length p.nodes) u.operands u.steps said.1.1.0 said.1.0 said.1.1.2 (new_below said.0 k said.1.0 origin given) in
      let P : Entry → Type 0 = λ e. IsFormBelow (length p.nodes) e.form in subst P same below

  made_classes : (l : ℕ) (c d : ExprId) → AreListedAt u.apart.lists.classes l c d → (c.0 < length p.nodes) × (d.0 < length p.nodes)
  unfolding adds new_below
  made_classes l c d (xs, there, (i, j, later, at_c, at_d)) =
      let q = adds.apart.classes_numbered l (omega (arith, ap (λ a. length a.lists.classes) makes.no_apart)) (slice_get_within u.apart.lists.classes l xs there) in
      let listed : Listed u (AtClasses l i j) (origins.Axiom q.0) (disjoint_classes c d) = record { members = xs; there = there; number = q.0; numbered = q.1; one = c; other = d; later = later; at_first = at_c; at_second = at_d; origin = refl; form = refl } in
      new_below (origins.Axiom q.0) q.0 (disjoint_classes c d) refl (adds.each (AtClasses l i j) (origins.Axiom q.0) (disjoint_classes c d) (behind_nothing makes.begun makes.no_entries makes.no_apart (AtClasses l i j)) listed)

  pub named_more : AreNamedBelowMarks v → (bound : ℕ) → length v.right ≤ bound → length p.nodes ≤ bound → AreNamedBelow bound (v.entries ++ u.entries) (v.apart.classes ++ u.apart.lists.classes)
  unfolding made_forms made_classes
  named_more named bound old new = record {
    forms = λ n entry at k is. elim (append_cases v.entries u.entries n entry at) [
      | inl i ↦ form_raise (length v.right) bound old entry.form (named.forms n entry i k is)
      | inr i ↦ form_raise (length p.nodes) bound new entry.form (made_forms i.0 entry i.1 k is)
    ];
    classes = λ l c d (xs, there, at). elim (append_cases v.apart.classes u.apart.lists.classes l xs there) [
      | inl i ↦ (let two = named.classes l c d (xs, i, at) in (omega (arith, old, two.0), omega (arith, old, two.1)))
      | inr i ↦ (let two = made_classes i.0 c d (xs, i.1, at) in (omega (arith, new, two.0), omega (arith, new, two.1)))
    ];
  }
