-- What an interpretation has after one more member, one more pair, one more row.
use Rattle.std.proofs.Common.{◌≡◌, ◌↔◌, ℕ, zero, suc, ◌+◌, ◌<◌, ◌≤◌, ◌⊎◌, inl, inr, Bool, true, false, List, [], ◌∷◌, ◌++◌, length, map, take, get_or, set, slice_get, eqb, not, Result, Ok, Err, OnOk, Some, Contains, refl, sym, ap, ◌∙◌, subst, arith}
use Rattle.std.specs.List.{list_any}
use Rattle.std.specs.Result.{is_ok}
use Rattle.std.proofs.lemmas.Bool.{cases_eq, cases_order, lt-ltb, le-ltb, eq-eqb, ne_eqb, false≢true}
use Rattle.std.proofs.lemmas.List.{length-set, get_or-set_same, get_or-set_other, map-append}
use Rattle.std.proofs.lemmas.Option.{none-some, same_Some}
use Rattle.lemmas.proofs.Members.{Contains-from_slice_get, slice_get-from_Contains}
use Rattle.lemmas.proofs.Places.{slice_get_push, slice_get_push_cases, keeps_push, take_push, slice_get_take, take_slice_get}
use Rattle.axioms.specs.Ontology.{Ontology, IsClassAt}
use Rattle.axioms.proofs.Trees.{one_class}
use Rattle.interpretation_spec.specs.NamedInterpretation.{is_target}
use Rattle.interpretation_spec.specs.NumberedInterpretation.{NumberedInterpretation, IsNumberedInterpretation, targets_of, with_member, with_pair, with_individual, with_number}
use Rattle.cert_check.specs.Additions.{SomeRow, AddsMembers, AddsPairs, PutsIndividuals}
use Rattle.cert_check.proofs.Rowwise.{one_more_number, adds_none}

-- ---- lists

pub some_none : {A : Type 0} (P : A → Type 0) → SomeRow [] P → ⊥
some_none P (k, row, g, p) = none-some row g

pub some_more : {A : Type 0} (P : A → Type 0) (rows : List A) (last : A) → SomeRow (rows ++ last ∷ []) P ↔ (SomeRow rows P ⊎ P last)
some_more P rows last = (
  λ (k, row, g, p). elim (slice_get_push_cases rows last k row g) [
    | inl h ↦ inl (k, row, h, p)
    | inr e ↦ inr (subst P (sym e.1) p)
  ],
  λ h. elim h [
    | inl s ↦ (s.0, s.1, keeps_push rows last s.0 s.1 s.2, s.3)
    | inr p ↦ (length rows, last, slice_get_push rows last, p)
  ],
)

pub next_mapped : {A B : Type 0} (f : A → B) (xs : List A) (k : ℕ) (x : A) → slice_get xs k ≡ Some x → map f (take (k + 1) xs) ≡ map f (take k xs) ++ f x ∷ []
next_mapped f xs k x g = ap (map f) (take_push xs k x g) ∙ map-append f (take k xs) (x ∷ [])

pub some_next : {A B : Type 0} (P : B → Type 0) (f : A → B) (xs : List A) (k : ℕ) (x : A) → slice_get xs k ≡ Some x
    → SomeRow (map f (take (k + 1) xs)) P ↔ (SomeRow (map f (take k xs)) P ⊎ P (f x))
some_next P f xs k x g = rw (next_mapped f xs k x g) (some_more P (map f (take k xs)) (f x))

pub contains_more : {A : Type 0} (xs : List A) (x y : A) → Contains (xs ++ x ∷ []) y ↔ (Contains xs y ⊎ (y ≡ x))
contains_more xs x y = (
  λ c. (let (k, g) = slice_get-from_Contains (xs ++ x ∷ []) y c in
      elim (slice_get_push_cases xs x k y g) [
        | inl h ↦ inl (Contains-from_slice_get xs k y h)
        | inr e ↦ inr (sym e.1)
      ]),
  λ h. elim h [
    | inl c ↦ (let (k, g) = slice_get-from_Contains xs y c in Contains-from_slice_get (xs ++ x ∷ []) k y (keeps_push xs x k y g))
    | inr e ↦ Contains-from_slice_get (xs ++ x ∷ []) (length xs) y (slice_get_push xs x ∙ ap Some (sym e))
  ],
)

pub contains_next : (xs : List ℕ) (k x y : ℕ) → slice_get xs k ≡ Some x → Contains (take (k + 1) xs) y ↔ (Contains (take k xs) y ⊎ (y ≡ x))
contains_next xs k x y g = rw (take_push xs k x g) (contains_more (take k xs) x y)

-- a list with another element at one place
pub slice_get-set_same : {A : Type 0} (xs : List A) (k : ℕ) (x : A) → k < length xs → slice_get (set xs k x) k ≡ Some x
slice_get-set_same [] k x l = absurd (omega arith)
slice_get-set_same (y ∷ xs) zero x l = refl
slice_get-set_same (y ∷ xs) (suc k) x l = slice_get-set_same xs k x (omega arith)

pub slice_get-set_other : {A : Type 0} (xs : List A) (k j : ℕ) (x : A) → (j ≡ k → ⊥) → slice_get (set xs k x) j ≡ slice_get xs j
slice_get-set_other [] k j x ne = refl
slice_get-set_other (y ∷ xs) zero zero x ne = absurd (ne refl)
slice_get-set_other (y ∷ xs) zero (suc j) x ne = refl
slice_get-set_other (y ∷ xs) (suc k) zero x ne = refl
slice_get-set_other (y ∷ xs) (suc k) (suc j) x ne = slice_get-set_other xs k j x (λ e. ne (ap suc e))

-- what a call that went well ensures
pub went_well : {T E P : Type 0} (r : Result T E) (refused : Bool) → is_ok r ≡ not refused → refused ≡ false → OnOk r P → (is_ok r ≡ true) × P
went_well (Ok x) refused e f h = (refl, h)
went_well (Err x) refused e f h = absurd (false≢true (e ∙ ap not f))

-- ---- one step after another

pub step_both : {A B C P Q R : Type 0} → (B ↔ (A ⊎ P)) → (C ↔ (B ⊎ Q)) → (R ↔ (P ⊎ Q)) → (C ↔ (A ⊎ R))
step_both p q r = (
  λ c. elim (q.0 c) [
    | inl b ↦ elim (p.0 b) [ inl a ↦ inl a | inr u ↦ inr (r.1 (inl u)) ]
    | inr v ↦ inr (r.1 (inr v))
  ],
  λ h. elim h [
    | inl a ↦ q.1 (inl (p.1 (inl a)))
    | inr w ↦ elim (r.0 w) [ inl u ↦ q.1 (inl (p.1 (inr u))) | inr v ↦ q.1 (inr v) ]
  ],
)

-- ---- members

pub no_members : (puts : ℕ → ℕ → Type 0) (i : NumberedInterpretation) → ((c x : ℕ) → puts c x → ⊥) → AddsMembers puts i i
no_members puts i none = record { size = refl; many = refl; classes = adds_none puts i.classes none; pairs = refl; individuals = refl }

pub one_member : (i : NumberedInterpretation) → IsNumberedInterpretation i → (c x : ℕ) → c < length i.classes → x < i.size
    → AddsMembers (λ d y. (d ≡ c) × (y ≡ x)) i (with_member i c x)
one_member i w c x lc lx =
    let long = w.classes c lc in
    record {
      size = refl;
      many = length-set i.classes c (set (get_or i.classes c []) x true);
      classes = one_more_number i.classes c x lc (omega arith);
      pairs = refl;
      individuals = refl;
    }

pub more_members : (P Q R : ℕ → ℕ → Type 0) (a b c : NumberedInterpretation) → AddsMembers P a b → AddsMembers Q b c → ((d x : ℕ) → R d x ↔ (P d x ⊎ Q d x)) → AddsMembers R a c
more_members P Q R a b c p q r = record {
  size = q.size ∙ p.size;
  many = q.many ∙ p.many;
  classes = λ d x. step_both (p.classes d x) (q.classes d x) (r d x);
  pairs = q.pairs ∙ p.pairs;
  individuals = q.individuals ∙ p.individuals;
}

-- ---- pairs

pub any_first : (y x : ℕ) (xs : List ℕ) → (list_any (λ z. eqb z y) (x ∷ xs) ≡ true) ↔ ((x ≡ y) ⊎ (list_any (λ z. eqb z y) xs ≡ true))
any_first y x xs = elim (cases_eq x y) [
  | inl e ↦ (λ t. inl e, λ h. rw (eq-eqb x y e) refl)
  | inr ne ↦ rw (ne_eqb x y ne) (λ t. inr t, λ h. elim h [ inl e ↦ absurd (ne e) | inr t ↦ t ])
]

with_number_has : (n : ℕ) (xs : List ℕ) (y : ℕ) → (list_any (λ z. eqb z y) (with_number n xs) ≡ true) ↔ ((list_any (λ z. eqb z y) xs ≡ true) ⊎ (y ≡ n))
with_number_has n [] y =
    let f = any_first y n [] in
    (λ t. elim (f.0 t) [ inl e ↦ inr (sym e) | inr u ↦ inl u ], λ h. elim h [ inl u ↦ f.1 (inr u) | inr e ↦ f.1 (inl (sym e)) ])
with_number_has n (x ∷ xs) y =
    let rest = with_number_has n xs y in
    let old = any_first y x xs in
    elim (cases_order n x) [
      | inl e ↦
          (let k : x ≤ n = omega arith in
          rw (le-ltb n x k, eq-eqb n x e) (λ t. inl t, λ h. elim h [ inl t ↦ t | inr s ↦ old.1 (inl (sym (s ∙ e))) ]))
      | inr (inl l) ↦
          (let f = any_first y n (x ∷ xs) in
          rw (lt-ltb n x l) (λ t. elim (f.0 t) [ inl e ↦ inr (sym e) | inr u ↦ inl u ], λ h. elim h [ inl u ↦ f.1 (inr u) | inr e ↦ f.1 (inl (sym e)) ]))
      | inr (inr l) ↦
          (let k : x ≤ n = omega arith in
          let f = any_first y x (with_number n xs) in
          rw (le-ltb n x k, ne_eqb n x (λ e. omega arith)) (
            λ t. elim (f.0 t) [ inl e ↦ inl (old.1 (inl e)) | inr u ↦ elim (rest.0 u) [ inl v ↦ inl (old.1 (inr v)) | inr e ↦ inr e ] ],
            λ h. elim h [ inl u ↦ elim (old.0 u) [ inl e ↦ f.1 (inl e) | inr v ↦ f.1 (inr (rest.1 (inl v))) ] | inr e ↦ f.1 (inr (rest.1 (inr e))) ],
          ))
    ]

module _ (i : NumberedInterpretation) (w : IsNumberedInterpretation i) (r x t : ℕ) (lr : r < length i.pairs) (lx : x < i.size) where
  sources : List (List ℕ)
  sources = get_or i.pairs r []

  source : List (List ℕ)
  source = set sources x (with_number t (get_or sources x []))

  long : x < length sources
  unfolding sources
  long = omega (arith, w.sources r lr)

  this_pair : targets_of (with_pair i r x t) r x ≡ with_number t (targets_of i r x)
  unfolding sources source
  this_pair =
      ap (λ (ss : List (List ℕ)). get_or ss x []) (get_or-set_same i.pairs r source [] lr)
      ∙ get_or-set_same sources x (with_number t (get_or sources x [])) [] long

  other_pair : (s z : ℕ) → ((s ≡ r) × (z ≡ x) → ⊥) → targets_of (with_pair i r x t) s z ≡ targets_of i s z
  unfolding sources source
  other_pair s z apart = elim (cases_eq s r) [
    | inl e ↦ subst (λ k. targets_of (with_pair i r x t) k z ≡ targets_of i k z) (sym e)
        (ap (λ (ss : List (List ℕ)). get_or ss z []) (get_or-set_same i.pairs r source [] lr)
        ∙ get_or-set_other sources x z (with_number t (get_or sources x [])) [] (λ f. apart (e, f)))
    | inr ne ↦ ap (λ (ss : List (List ℕ)). get_or ss z []) (get_or-set_other i.pairs r s source [] ne)
  ]

  stays : (s z y : ℕ) → ((s ≡ r) × (z ≡ x) → ⊥) → (is_target (with_pair i r x t) s z y ≡ true) ↔ ((is_target i s z y ≡ true) ⊎ ((s ≡ r) × (z ≡ x) × (y ≡ t)))
  stays s z y apart =
      let e = ap (list_any (λ v. eqb v y)) (other_pair s z apart) in
      (λ h. inl (sym e ∙ h), λ h. elim h [ inl u ↦ e ∙ u | inr p ↦ absurd (apart (p.0, p.1)) ])

  here : (y : ℕ) → (is_target (with_pair i r x t) r x y ≡ true) ↔ ((is_target i r x y ≡ true) ⊎ (y ≡ t))
  here y = rw this_pair (with_number_has t (targets_of i r x) y)

  pub one_pair : AddsPairs (λ s z y. (s ≡ r) × (z ≡ x) × (y ≡ t)) i (with_pair i r x t)
  unfolding sources source
  one_pair = record {
    size = refl;
    classes = refl;
    many = length-set i.pairs r source;
    pairs = λ s z y. elim (cases_eq s r) [
      | inr ne ↦ stays s z y (λ p. ne p.0)
      | inl e ↦ elim (cases_eq z x) [
        | inr ne ↦ stays s z y (λ p. ne p.1)
        | inl f ↦ there s z y e f
      ]
    ];
    individuals = refl;
  }
    where
      there : (s z y : ℕ) → s ≡ r → z ≡ x → (is_target (with_pair i r x t) s z y ≡ true) ↔ ((is_target i s z y ≡ true) ⊎ ((s ≡ r) × (z ≡ x) × (y ≡ t)))
      there s z y e f =
          let h = subst (λ a. (is_target (with_pair i r x t) a z y ≡ true) ↔ ((is_target i a z y ≡ true) ⊎ (y ≡ t))) (sym e)
          (subst (λ b. (is_target (with_pair i r x t) r b y ≡ true) ↔ ((is_target i r b y ≡ true) ⊎ (y ≡ t))) (sym f) (here y)) in
          (λ u. elim (h.0 u) [ inl v ↦ inl v | inr g ↦ inr (e, f, g) ], λ u. elim u [ inl v ↦ h.1 (inl v) | inr p ↦ h.1 (inr p.2) ])

pub no_pairs : (puts : ℕ → ℕ → ℕ → Type 0) (i : NumberedInterpretation) → ((r x y : ℕ) → puts r x y → ⊥) → AddsPairs puts i i
no_pairs puts i none = record {
  size = refl;
  classes = refl;
  many = refl;
  pairs = λ r x y. (λ t. inl t, λ h. elim h [ inl t ↦ t | inr p ↦ absurd (none r x y p) ]);
  individuals = refl;
}

pub more_pairs : (P Q R : ℕ → ℕ → ℕ → Type 0) (a b c : NumberedInterpretation) → AddsPairs P a b → AddsPairs Q b c → ((r x y : ℕ) → R r x y ↔ (P r x y ⊎ Q r x y)) → AddsPairs R a c
more_pairs P Q R a b c p q e = record {
  size = q.size ∙ p.size;
  classes = q.classes ∙ p.classes;
  many = q.many ∙ p.many;
  pairs = λ r x y. step_both (p.pairs r x y) (q.pairs r x y) (e r x y);
  individuals = q.individuals ∙ p.individuals;
}

-- ---- rows

pub member_step : (o : Ontology) (e class : ℕ) → IsClassAt o class e → (xs : List ℕ) (k x : ℕ) → slice_get xs k ≡ Some x → (old mid new : NumberedInterpretation)
    → IsNumberedInterpretation mid → class < length mid.classes → x < mid.size → new ≡ with_member mid class x
    → AddsMembers (λ c y. IsClassAt o c e × Contains (take k xs) y) old mid → AddsMembers (λ c y. IsClassAt o c e × Contains (take (k + 1) xs) y) old new
member_step o e class at xs k x g old mid new w lc lx is before =
    let P : ℕ → ℕ → Type 0 = λ c y. IsClassAt o c e × Contains (take k xs) y in
    let R : ℕ → ℕ → Type 0 = λ c y. IsClassAt o c e × Contains (take (k + 1) xs) y in
    subst (AddsMembers R old) (sym is)
    (more_members P (λ d y. (d ≡ class) × (y ≡ x)) R old mid (with_member mid class x) before (one_member mid w class x lc lx) (λ d y.
    let more = contains_next xs k x y g in (
      λ p. elim (more.0 p.1) [ inl h ↦ inl (p.0, h) | inr f ↦ inr (one_class o d class e p.0 at, f) ],
      λ h. elim h [
        | inl p ↦ (p.0, more.1 (inl p.1))
        | inr q ↦ (subst (λ j. IsClassAt o j e) (sym q.0) at, more.1 (inr q.1))
      ],
    )))

pub pair_step : (r x : ℕ) (ys : List ℕ) (k y : ℕ) → slice_get ys k ≡ Some y → (old mid new : NumberedInterpretation)
    → IsNumberedInterpretation mid → r < length mid.pairs → x < mid.size → new ≡ with_pair mid r x y
    → AddsPairs (λ s z t. (r ≡ s) × (x ≡ z) × Contains (take k ys) t) old mid → AddsPairs (λ s z t. (r ≡ s) × (x ≡ z) × Contains (take (k + 1) ys) t) old new
pair_step r x ys k y g old mid new w lr lx is before =
    let P : ℕ → ℕ → ℕ → Type 0 = λ s z t. (r ≡ s) × (x ≡ z) × Contains (take k ys) t in
    let R : ℕ → ℕ → ℕ → Type 0 = λ s z t. (r ≡ s) × (x ≡ z) × Contains (take (k + 1) ys) t in
    subst (AddsPairs R old) (sym is)
    (more_pairs P (λ s z t. (s ≡ r) × (z ≡ x) × (t ≡ y)) R old mid (with_pair mid r x y) before (one_pair mid w r x y lr lx) (λ s z t.
    let more = contains_next ys k y t g in (
      λ p. elim (more.0 p.2) [ inl h ↦ inl (p.0, p.1, h) | inr f ↦ inr (sym p.0, sym p.1, f) ],
      λ h. elim h [
        | inl p ↦ (p.0, p.1, more.1 (inl p.2))
        | inr q ↦ (sym q.0, sym q.1, more.1 (inr q.2))
      ],
    )))

pub members_step : {A : Type 0} (puts : A → ℕ → ℕ → Type 0) {B : Type 0} (f : B → A) (rows : List B) (k : ℕ) (row : B) → slice_get rows k ≡ Some row → (old mid new : NumberedInterpretation)
    → AddsMembers (λ c x. SomeRow (map f (take k rows)) (λ r. puts r c x)) old mid → AddsMembers (puts (f row)) mid new
    → AddsMembers (λ c x. SomeRow (map f (take (k + 1) rows)) (λ r. puts r c x)) old new
members_step puts f rows k row g old mid new before step =
    more_members (λ c x. SomeRow (map f (take k rows)) (λ r. puts r c x)) (puts (f row)) (λ c x. SomeRow (map f (take (k + 1) rows)) (λ r. puts r c x)) old mid new before step
    (λ c x. some_next (λ r. puts r c x) f rows k row g)

pub pairs_step : {A : Type 0} (puts : A → ℕ → ℕ → ℕ → Type 0) {B : Type 0} (f : B → A) (rows : List B) (k : ℕ) (row : B) → slice_get rows k ≡ Some row → (old mid new : NumberedInterpretation)
    → AddsPairs (λ s x y. SomeRow (map f (take k rows)) (λ r. puts r s x y)) old mid → AddsPairs (puts (f row)) mid new
    → AddsPairs (λ s x y. SomeRow (map f (take (k + 1) rows)) (λ r. puts r s x y)) old new
pairs_step puts f rows k row g old mid new before step =
    more_pairs (λ s x y. SomeRow (map f (take k rows)) (λ r. puts r s x y)) (puts (f row)) (λ s x y. SomeRow (map f (take (k + 1) rows)) (λ r. puts r s x y)) old mid new before step
    (λ s x y. some_next (λ r. puts r s x y) f rows k row g)

-- the individuals so far have their elements, and one more
pub individual_step : (elements : List ℕ) (k x : ℕ) → slice_get elements k ≡ Some x → (old mid new : NumberedInterpretation)
    → k < length mid.individuals → new ≡ with_individual mid k x → PutsIndividuals (take k elements) old mid → PutsIndividuals (take (k + 1) elements) old new
individual_step elements k x g old mid new lk is before =
    subst (PutsIndividuals (take (k + 1) elements) old) (sym is) (record {
      size = before.size;
      classes = before.classes;
      pairs = before.pairs;
      many = length-set mid.individuals k x ∙ before.many;
      each = λ a y h. (
          let (la, there) = slice_get_take (k + 1) elements a y h in
          elim (cases_eq a k) [
            | inl e ↦
                (let same : x ≡ y = same_Some x y (sym g ∙ subst (λ j. slice_get elements j ≡ Some y) e there) in
                ap (slice_get (set mid.individuals k x)) e ∙ slice_get-set_same mid.individuals k x lk ∙ ap Some same)
            | inr ne ↦ slice_get-set_other mid.individuals k a x ne ∙ before.each a y (take_slice_get k elements a y (omega arith) there)
          ]
          );
    })
