-- The forms of an ontology that has grown are the old ones and those of what is new.
use Rattle.std.proofs.Common.{◌≡◌, ◌++◌, ℕ, zero, suc, ◌+◌, ◌<◌, ◌⊎◌, inl, inr, Bool, true, false, List, [], ◌∷◌, length, take, slice_get, Some, Contains, refl, sym, ap, ap₂, ◌∙◌, subst, arith, add-one}
use Rattle.std.proofs.lemmas.Bool.{cases_order}
use Rattle.std.proofs.lemmas.List.{append-nil}
use Rattle.std.proofs.lemmas.Option.{none-some, slice_get_within}
use Rattle.lemmas.proofs.Choices.{one_value}
use Rattle.lemmas.proofs.Members.{slice_get-from_Contains}
use Rattle.lemmas.proofs.Places.{slice_get_there}
use Rattle.axioms.specs.Ontology.{Ontology, Axiom, Node}
use Rattle.axioms.specs.View.{at_number}
use Rattle.axioms.specs.declared.ids.ExprId.{ExprId}
use Rattle.axioms.specs.declared.ids.IndId.{IndId}
use Rattle.normal_forms.specs.Apart.{AreListedAt, joined_lists, no_lists}
use Rattle.normal_forms.specs.declared.forms.Origin.{Origin}
use Rattle.normal_forms.specs.declared.forms.Origin.TheVariants as origins
use Rattle.normal_forms.specs.Forms.{Form, IsForm}
use Rattle.normal_forms.specs.Origins.{GivenBy, RightGives, LeftGives}
use Rattle.normal_forms.specs.Occurrences.{AtRight, AtLeft}
use Rattle.normal_forms.proofs.Sources.{forms_given, given_forms}
use Rattle.normalise.specs.declared.entries.Entry.{Entry}
use Rattle.normalise.specs.declared.made.Made.{Made}
use Rattle.normalise.specs.Apart.{Apartness, AreNumbered, different_individuals, disjoint_classes, joined_apartness, no_apartness}
use Rattle.normalise.specs.Growth.{Grown, Grows, Has, IsFreshAt, IsHeld, IsHeldAt, IsNormalFor, MakesMore, made_of}
use Rattle.normalise.specs.Listing.{Listing}
use Rattle.normalise.specs.Marks.{IsMarked, MarksOccurring}
use Rattle.normalise.specs.Steps.{ExpressedTo, StatedFrom}
use Rattle.normalise.specs.View.{Adds, Lengthens, IsBehind, Place, AtEntry, AtClasses, AtIndividuals}
use Rattle.normalise.proofs.Adding.{adds_behind, adds_both, adds_same, at_one, at_within, before, behind_nothing}
use Rattle.normalise.proofs.FreshNames.{begins_given, chains_given, expressions_name_none, given_begins, kept_front}
use Rattle.normalise.proofs.Giving.{sides_apart}
use Rattle.normalise.proofs.Occurrences.{kept_back, more_occurs}
use Rattle.normalise.specs.FreshNames.{NameChains}

pub number_at : (xs : List Axiom) (n : ℕ) → at_number xs (n + 1) ≡ slice_get xs n
number_at xs n = rw add-one refl

-- ---- what is given stays given

more_given : (o p : Ontology) (before asked : List ℕ) (from : ℕ) → Grows o p from → ((e : ℕ) → Contains before e → Contains asked e) → (by : Origin) (g : Form) → GivenBy o before by g → GivenBy p asked by g
more_given o p before asked from w more (origins.Axiom zero) g (a, at, h) = absurd (none-some a at)
more_given o p before asked from w more (origins.Axiom (suc n)) g (a, at, h) = (a, w.axioms n a at, h)
more_given o p before asked from w more (origins.Expr e) g (node, at, h) = (
  node,
  w.nodes e.0 node at,
  elim h [
    | inl x ↦ inl (more_occurs AtRight o p before asked w.nodes w.axioms more e.0 x.0, x.1)
    | inr y ↦ inr (more_occurs AtLeft o p before asked w.nodes w.axioms more e.0 y.0, y.1)
  ],
)

-- ---- the old ones and the new ones

cases_marked : (marks : List Bool) (e : ℕ) → IsMarked marks e ⊎ (IsMarked marks e → ⊥)
cases_marked [] e = inr (λ h. none-some true h)
cases_marked (true ∷ marks) zero = inl refl
cases_marked (false ∷ marks) zero = inr (λ h. cc)
cases_marked (b ∷ marks) (suc e) = cases_marked marks e

-- an axiom is no expression
pub stated_apart : (axioms : List Axiom) (nodes : List Node) (R L : ℕ → Type 0) (numbers : List ℕ) (from m k : ℕ) (by : Origin) (g : Form) → StatedFrom axioms from m by g → ExpressedTo nodes R L numbers k by g → ⊥
stated_apart axioms nodes R L numbers from m k by g (n, _, _, (_, _, e, _)) (_, _, _, (l, _, (_, _, f, _))) = let h : origins.Axiom (n + 1) ≡ origins.Expr (record { 0 = l }) = sym e ∙ f in absurd cc

no_forms : Made
no_forms = record { entries = []; apart = no_apartness; operands = []; steps = [] }

module _ (o p : Ontology) (before asked : List ℕ) (from : ℕ) (w : Grows o p from) (more : (e : ℕ) → Contains before e → Contains asked e)
    (r r' l l' : List Bool) (R : MarksOccurring AtRight o before r) (R' : MarksOccurring AtRight p asked r') (L : MarksOccurring AtLeft o before l) (L' : MarksOccurring AtLeft p asked l')
    (numbers : List ℕ) (noted : (e : ℕ) → IsFreshAt r' r e ⊎ IsFreshAt l' l e → Contains numbers e) where
  New : Origin → Form → Type 0
  New by g = StatedFrom p.axioms from (length p.axioms) by g ⊎ ExpressedTo p.nodes (IsFreshAt r' r) (IsFreshAt l' l) numbers (length numbers) by g

  new_given : (by : Origin) (g : Form) → New by g → GivenBy p asked by g
  unfolding New
  new_given by g (inl (n, a, b, (x, at, e, h))) = let P : Origin → Type 0 = λ y. GivenBy p asked y g in subst P (sym e) (x, number_at p.axioms n ∙ at, h)
  new_given by g (inr (_, _, _, (n, _, (node, at, e, h)))) =
      let P : Origin → Type 0 = λ x. GivenBy p asked x g in let there : n < length p.nodes = slice_get_within p.nodes n node at in
      subst P (sym e) (node, at, elim h [ inl x ↦ inl ((R'.1 n there).0 x.0.0, x.1) | inr y ↦ inr ((L'.1 n there).0 y.0.0, y.1) ])

  -- the expression of a number that is noted
  expressed : (n : ℕ) (g : Form) (node : Node) → slice_get p.nodes n ≡ Some node → Contains numbers n → (IsFreshAt r' r n × RightGives n node g) ⊎ (IsFreshAt l' l n × LeftGives n node g) → New (origins.Expr (record { 0 = n })) g
  unfolding New
  expressed n g node at c h = let q = slice_get-from_Contains numbers n c in inr (q.0, omega arith, slice_get_within numbers q.0 n q.1, (n, q.1, (node, at, refl, h)))

  old_or_new : (by : Origin) (g : Form) → GivenBy p asked by g → GivenBy o before by g ⊎ New by g
  unfolding New
  old_or_new (origins.Axiom zero) g (a, at, h) = absurd (none-some a at)
  old_or_new (origins.Axiom (suc n)) g (a, at, h) = elim (cases_order n from) [
    | inl e ↦ inr (inl (n, omega arith, slice_get_within p.axioms n a at, (a, at, ap origins.Axiom (sym (add-one n)), h)))
    | inr (inl lt) ↦ inl (a, kept_back o.axioms p.axioms w.axioms n a (omega (arith, lt, w.new_from)) at, h)
    | inr (inr gt) ↦ inr (inl (n, omega arith, slice_get_within p.axioms n a at, (a, at, ap origins.Axiom (sym (add-one n)), h)))
  ]
  old_or_new (origins.Expr e) g (node, at, h) =
      let there : e.0 < length p.nodes = slice_get_within p.nodes e.0 node at in
      elim h [
        | inl x ↦ elim (cases_marked r e.0) [
          | inl k ↦ (let t : e.0 < length o.nodes = omega (arith, slice_get_within r e.0 true k, R.0) in inl (node, kept_back o.nodes p.nodes w.nodes e.0 node t at, inl ((R.1 e.0 t).0 k, x.1)))
          | inr k ↦ (let fresh : IsFreshAt r' r e.0 = ((R'.1 e.0 there).1 x.0, k) in inr (expressed e.0 g node at (noted e.0 (inl fresh)) (inl (fresh, x.1))))
        ]
        | inr y ↦ elim (cases_marked l e.0) [
          | inl k ↦ (let t : e.0 < length o.nodes = omega (arith, slice_get_within l e.0 true k, L.0) in inl (node, kept_back o.nodes p.nodes w.nodes e.0 node t at, inr ((L.1 e.0 t).0 k, y.1)))
          | inr k ↦ (let fresh : IsFreshAt l' l e.0 = ((L'.1 e.0 there).1 y.0, k) in inr (expressed e.0 g node at (noted e.0 (inr fresh)) (inr (fresh, y.1))))
        ]
      ]

  -- nothing new is old
  apart : (by : Origin) (g : Form) → GivenBy o before by g → New by g → ⊥
  unfolding New
  apart by g old (inl (n, low, _, (_, _, e, _))) =
      let P : Origin → Type 0 = λ x. GivenBy o before x g in let q = subst P e old in
      omega (arith, low, w.new_from, slice_get_within o.axioms n q.0 (sym (number_at o.axioms n) ∙ q.1))
  apart by g old (inr (_, _, _, (n, _, (node, at, e, h)))) =
      let P : Origin → Type 0 = λ x. GivenBy o before x g in let q = subst P e old in
      let here : n < length o.nodes = slice_get_within o.nodes n q.0 q.1 in
      let same : q.0 ≡ node = one_value _ q.0 node (w.nodes n q.0 q.1) at in
      let S : Node → Type 0 = λ x. RightGives n x g in let T : Node → Type 0 = λ x. LeftGives n x g in
      elim h [
        | inl x ↦ elim q.2 [
          | inl y ↦ x.0.1 ((R.1 n here).1 y.0)
          | inr y ↦ sides_apart n node g x.1 (subst T same y.1)
        ]
        | inr x ↦ elim q.2 [
          | inl y ↦ sides_apart n node g (subst S same y.1) x.1
          | inr y ↦ x.0.1 ((L.1 n here).1 y.0)
        ]
      ]

  grown_adds : (s t u : Made) (xs : List Entry) (lists : Apartness) → AreNumbered lists.lists lists.disjoint_axioms lists.different_axioms → s.entries ≡ [] → s.apart ≡ no_apartness → Adds no_forms (record { entries = xs; apart = lists; operands = s.operands; steps = s.steps }) (GivenBy o before) → Adds s t (StatedFrom p.axioms from (length p.axioms)) → Adds t u (ExpressedTo p.nodes (IsFreshAt r' r) (IsFreshAt l' l) numbers (length numbers)) → Adds no_forms (record { entries = xs ++ u.entries; apart = joined_apartness lists u.apart; operands = u.operands; steps = u.steps }) (GivenBy p asked)
  unfolding New
  grown_adds s t u xs lists num none no_lists old a b = adds_same (λ by g. GivenBy o before by g ⊎ New by g) (GivenBy p asked)
      (λ by g h. elim h [ inl x ↦ more_given o p before asked from w more by g x | inr y ↦ new_given by g y ]) old_or_new
      (adds_both (GivenBy o before) New apart old (adds_behind xs lists num s u New none no_lists
      (adds_both (StatedFrom p.axioms from (length p.axioms)) (ExpressedTo p.nodes (IsFreshAt r' r) (IsFreshAt l' l) numbers (length numbers)) (stated_apart p.axioms p.nodes (IsFreshAt r' r) (IsFreshAt l' l) numbers from (length p.axioms) (length numbers)) a b)))

-- ---- what callers see

from_nothing : {X : Type 0} (xs : List X) → ((m n : ℕ) (x : X) → slice_get xs m ≡ Some x → slice_get xs n ≡ Some x → m ≡ n) → Lengthens [] xs
from_nothing xs one = record { keeps = λ n x g. absurd (none-some x g); distinct = λ _. one }

list_given : (o : Ontology) (v : Listing) (by : Origin) (g : Form) (k number : ℕ) (f : Form) → k ≡ number → by ≡ origins.Axiom number → g ≡ f → GivenBy o v.asked (origins.Axiom k) f → GivenBy o v.asked by g
list_given o v by g k number f same is_origin is_form given =
    let P : Origin → Type 0 = λ x. GivenBy o v.asked x g in let Q : Form → Type 0 = λ x. GivenBy o v.asked (origins.Axiom k) x in
    subst P (ap origins.Axiom same ∙ sym is_origin) (subst Q (sym is_form) given)

-- what is held is given
held_given : (o : Ontology) (v : Listing) → IsNormalFor o v → (p : Place) (by : Origin) (g : Form) → IsHeldAt v p by g → GivenBy o v.asked by g
held_given o v normal (AtEntry n) by g h =
    let e = normal.each n (at_within v.entries v.operands v.steps n by g h) in
    let same = at_one v.entries v.operands v.steps n e.0 by e.1.0 g e.1.1 h in
    let P : Origin → Type 0 = λ x. GivenBy o v.asked x g in let Q : Form → Type 0 = λ x. GivenBy o v.asked e.0 x in
    subst P same.0 (subst Q same.1 e.1.2)
held_given o v normal (AtClasses l m n) by g h =
    let e = normal.each_disjoint l h.one h.other (h.members, h.there, (m, n, h.later, h.at_first, h.at_second)) in
    list_given o v by g e.0 h.number _ (one_value _ e.0 h.number e.1 h.numbered) h.origin h.form e.2
held_given o v normal (AtIndividuals l m n) by g h =
    let e = normal.each_different l h.one h.other (h.members, h.there, (m, n, h.later, h.at_first, h.at_second)) in
    list_given o v by g e.0 h.number _ (one_value _ e.0 h.number e.1 h.numbered) h.origin h.form e.2

normal_adds : (o : Ontology) (v : Listing) → IsNormalFor o v → Adds no_forms (made_of v) (GivenBy o v.asked)
unfolding no_forms
normal_adds o v h = record {
  entries = λ n x g. absurd (none-some x g);
  apart = record {
    classes = λ n x g. absurd (none-some x g);
    individuals = λ n x g. absurd (none-some x g);
    disjoint_axioms = λ n x g. absurd (none-some x g);
    different_axioms = λ n x g. absurd (none-some x g);
    classes_numbered = λ l _ high. slice_get_there v.disjoint_axioms l (omega (arith, high, h.numbered.0));
    individuals_numbered = λ l _ high. slice_get_there v.different_axioms l (omega (arith, high, h.numbered.1));
    numbered = λ _. h.numbered;
  };
  operands = from_nothing v.operands h.operands;
  steps = from_nothing v.steps h.steps;
  says = λ n low high. (let e = h.each n high in (e.0, (e.1.0, e.1.1)));
  each = λ p by g _. held_given o v h p by g;
  all = λ by g k. (let e = h.all by g k in (e.0, behind_nothing (record { entries = []; apart = no_apartness; operands = []; steps = [] }) refl refl e.0, e.1));
  once = λ p q by g _ _. h.once p q by g;
  classes = λ n ds g. inr (begins_given o v.asked ds (h.intersections n ds g));
  properties = λ n rs g. inr (chains_given o v.asked v.steps h.chains n rs g);
}

none_distinct : {X : Type 0} (m n : ℕ) (x : X) → slice_get [] m ≡ Some x → slice_get [] n ≡ Some x → m ≡ n
none_distinct m n x g h = absurd (none-some x g)

adds_normal : (o : Ontology) (v : Listing) → Adds no_forms (made_of v) (GivenBy o v.asked) → NameChains o.axioms v.steps → MarksOccurring AtRight o v.asked v.right → MarksOccurring AtLeft o v.asked v.left → IsNormalFor o v
unfolding no_forms
adds_normal o v a c r l = record {
  each = λ n high. (let e = a.says n (omega arith) high in (e.0, (e.1.0, e.1.1, a.each (AtEntry n) e.0 e.1.0 (nothing_first (AtEntry n)) e.1.1)));
  each_disjoint = λ n x y (xs, there, (i, j, later, at_x, at_y)).
      let q = slice_get_there v.disjoint_axioms n (omega (arith, slice_get_within v.apart.classes n xs there, numbered.0)) in (
        q.0,
        q.1,
        a.each (AtClasses n i j) (origins.Axiom q.0) (disjoint_classes x y) (nothing_first (AtClasses n i j))
            (record { members = xs; there = there; number = q.0; numbered = q.1; one = x; other = y; later = later; at_first = at_x; at_second = at_y; origin = refl; form = refl }),
      );
  each_different = λ n x y (xs, there, (i, j, later, at_x, at_y)).
      let q = slice_get_there v.different_axioms n (omega (arith, slice_get_within v.apart.individuals n xs there, numbered.1)) in (
        q.0,
        q.1,
        a.each (AtIndividuals n i j) (origins.Axiom q.0) (different_individuals x y) (nothing_first (AtIndividuals n i j))
            (record { members = xs; there = there; number = q.0; numbered = q.1; one = x; other = y; later = later; at_first = at_x; at_second = at_y; origin = refl; form = refl }),
      );
  all = λ by g h. (let e = a.all by g h in (e.0, e.2));
  once = λ p q by g. a.once p q by g (nothing_first p) (nothing_first q);
  numbered = numbered;
  operands = a.operands.distinct none_distinct;
  steps = a.steps.distinct none_distinct;
  intersections = λ n ds g. elim (a.classes n ds g) [ inl h ↦ absurd (none-some ds h) | inr h ↦ given_begins o v.asked ds h ];
  chains = c;
  right = r;
  left = l;
}
  where
    numbered : AreNumbered v.apart v.disjoint_axioms v.different_axioms
    numbered = a.apart.numbered (refl, refl)

    nothing_first : (p : Place) → IsBehind no_forms p
    nothing_first p = behind_nothing (record { entries = []; apart = no_apartness; operands = []; steps = [] }) refl refl p

abbrev apart_of : Listing → Apartness
apart_of v = record { lists = v.apart; disjoint_axioms = v.disjoint_axioms; different_axioms = v.different_axioms }

-- the forms of before, and behind them those that were made
pub grown_normal : (o p : Ontology) (v : Listing) (asked : List ℕ) (right left : List Bool) (from : ℕ) → Grows o p from → ((e : ℕ) → Contains v.asked e → Contains asked e) → MarksOccurring AtRight p asked right → MarksOccurring AtLeft p asked left → (u : Made) → MakesMore p from v right left u → IsNormalFor o v
    → IsNormalFor p (record { entries = v.entries ++ u.entries; apart = joined_lists v.apart u.apart.lists; disjoint_axioms = v.disjoint_axioms ++ u.apart.disjoint_axioms; different_axioms = v.different_axioms ++ u.apart.different_axioms; operands = u.operands; steps = u.steps; asked = asked; right = right; left = left })
grown_normal o p v asked right left from w more R' L' u m n =
    let P : List (List ℕ) → Type 0 = λ x. Adds no_forms (record { entries = v.entries; apart = apart_of v; operands = x; steps = v.steps }) (GivenBy o v.asked) in
    let Q : List (List ℕ) → Type 0 = λ x. Adds no_forms (record { entries = v.entries; apart = apart_of v; operands = m.begun.operands; steps = x }) (GivenBy o v.asked) in
    adds_normal p (record { entries = v.entries ++ u.entries; apart = joined_lists v.apart u.apart.lists; disjoint_axioms = v.disjoint_axioms ++ u.apart.disjoint_axioms; different_axioms = v.different_axioms ++ u.apart.different_axioms; operands = u.operands; steps = u.steps; asked = asked; right = right; left = left })
    (grown_adds o p v.asked asked from w more v.right right v.left left n.right R' n.left L' m.numbers m.fresh m.begun m.stated u v.entries (apart_of v) n.numbered m.no_entries m.no_apart (subst Q (sym m.steps) (subst P (sym m.operands) (normal_adds o v n))) m.states m.expresses) named R' L'
  where
    kept : take from p.axioms ≡ o.axioms
    kept = ap (λ k. take k p.axioms) w.new_from ∙ kept_front o.axioms p.axioms w.axioms

    named : NameChains p.axioms u.steps
    named =
        subst (NameChains p.axioms) (sym (expressions_name_none m.stated u p.nodes (IsFreshAt right v.right) (IsFreshAt left v.left) m.numbers (length m.numbers) m.expresses))
        (m.chains (subst (NameChains (take from p.axioms)) (sym m.steps) (subst (λ xs. NameChains xs v.steps) (sym kept) n.chains)))

pub grown_kept : (p : Ontology) (from : ℕ) (v : Listing) (asked : List ℕ) (right left right' left' : List Bool) (u : Made) → MakesMore p from v right' left' u
    → Grown v (record { entries = v.entries ++ u.entries; apart = joined_lists v.apart u.apart.lists; disjoint_axioms = v.disjoint_axioms ++ u.apart.disjoint_axioms; different_axioms = v.different_axioms ++ u.apart.different_axioms; operands = u.operands; steps = u.steps; asked = asked; right = right; left = left })
grown_kept p from v asked right left right' left' u m = record {
  entries = before v.entries u.entries;
  apart = (u.apart.lists, refl);
  disjoint_axioms = before v.disjoint_axioms u.apart.disjoint_axioms;
  different_axioms = before v.different_axioms u.apart.different_axioms;
  operands = λ n x g. m.expresses.operands.keeps n x (m.states.operands.keeps n x (ap (λ xs. slice_get xs n) m.operands ∙ g));
  steps = λ n x g. m.expresses.steps.keeps n x (m.states.steps.keeps n x (ap (λ xs. slice_get xs n) m.steps ∙ g));
}

-- what is the same has all with the same numbers
pub grown_itself : (v : Listing) → Grown v v
grown_itself v = record {
  entries = λ n x g. g;
  apart = (no_lists, ap₂ (λ cs xs. record { classes = cs; individuals = xs }) (sym (append-nil v.apart.classes)) (sym (append-nil v.apart.individuals)));
  disjoint_axioms = λ n x g. g;
  different_axioms = λ n x g. g;
  operands = λ n x g. g;
  steps = λ n x g. g;
}

pub listed_forms : (o : Ontology) (v : Listing) → IsNormalFor o v →
    ((n : ℕ) → n < length v.entries → (by : Origin) × ((g : Form) × Has v n by g × IsForm o v.asked g))
    × ((l : ℕ) (c d : ExprId) → AreListedAt v.apart.classes l c d → IsForm o v.asked (disjoint_classes c d))
    × ((l : ℕ) (i j : IndId) → AreListedAt v.apart.individuals l i j → IsForm o v.asked (different_individuals i j))
    × ((g : Form) → IsForm o v.asked g → (by : Origin) × IsHeld v by g)
listed_forms o v h = (
  (λ n l. let e = h.each n l in (e.0, (e.1.0, e.1.1, given_forms o v.asked e.1.0 (e.0, e.1.2)))),
  (λ l c d at. let e = h.each_disjoint l c d at in given_forms o v.asked (disjoint_classes c d) (origins.Axiom e.0, e.2)),
  (λ l i j at. let e = h.each_different l i j at in given_forms o v.asked (different_individuals i j) (origins.Axiom e.0, e.2)),
  (λ g f. let p = forms_given o v.asked g f in (p.0, h.all p.0 g p.1)),
)
