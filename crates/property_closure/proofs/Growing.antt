-- What one plain form more puts above each property.
use Rattle.std.proofs.Common.{◌≡◌, ◌↔◌, ℕ, ◌+◌, ◌-◌, ◌<◌, ◌≤◌, ◌⊎◌, inl, inr, List, [], ◌∷◌, ◌++◌, length, get_or, take, Contains, refl, sym, ap, ap₂, ◌∙◌, subst, subst₂, arith}
use Rattle.std.specs.Prelude.{slice_set}
use Rattle.std.proofs.lemmas.Bool.{cases_eq, cases_lt}
use Rattle.std.proofs.lemmas.List.{append-nil, append_assoc, get_or_append_left, get_or-append_right, get_or_push, get_or-set_same, get_or-set_other, length-append, length_push, length-set, take_more}
use Rattle.std.proofs.lemmas.List.Elements.{Contains-append_left, Contains-push, Contains-push_cases}
use Rattle.lemmas.proofs.Members.{Contains-first, Contains-one}
use Rattle.axioms.specs.declared.ids.PropId.{PropId}
use Rattle.normal_forms.specs.declared.forms.PropId2.{PropId2}
use Rattle.normal_forms.specs.declared.forms.PropId2.TheVariants.{Property}
use Rattle.normal_forms.specs.declared.forms.Form.{Form}
use Rattle.normal_forms.specs.declared.forms.Form.TheVariants.{N5}
use Rattle.normal_forms.specs.Properties.{IsAtOrBelow, same, step}
use Rattle.number_sets.specs.Pieces.{list_at}
use Rattle.number_sets.proofs.Members.{all_taken, one_more_taken}
use Rattle.property_closure.specs.Relations.{as_id, as_property, AreAbove, ArePlainWithin, Tells}
use Rattle.property_closure.specs.Growth.{AreSupers, AreRaised, BeginBehind, IsRaised, IsLengthened, IsUnion}
use Rattle.property_closure.proofs.Keeping.{alone_above}
use Rattle.property_closure.proofs.Plain.{same_parts}
use Rattle.property_closure.proofs.Reflexives.{number_of}

-- ---- paths

-- more forms lead to no less
pub led_on : (before after : List Form) → ((r s : ℕ) → Tells before r s → Tells after r s) → (p q : PropId2) → IsAtOrBelow before p q → IsAtOrBelow after p q
led_on before after more p _ same = same
led_on before after more p _ (step s t h f) = step s t (led_on before after more p (Property s) h) (more s.0 t.0 f)

pub through : (forms : List Form) (p q r : PropId2) → IsAtOrBelow forms p q → IsAtOrBelow forms q r → IsAtOrBelow forms p r
through forms p q _ h same = h
through forms p q _ h (step s t g f) = step s t (through forms p q (Property s) h g) f

-- a plain form more: sub is below sup
abbrev pub AddsEdge : List Form → List Form → PropId → PropId → Type 0
AddsEdge before after sub sup = (r s : ℕ) → Tells after r s ↔ (Tells before r s ⊎ ((r ≡ sub.0) × (s ≡ sup.0)))

pub adds_edge : (forms : List Form) (sub sup : PropId) → AddsEdge forms (forms ++ N5 sub sup ∷ []) sub sup
adds_edge forms sub sup r s = (
  λ h. elim (Contains-push_cases forms (N5 sub sup) (N5 (as_id r) (as_id s)) h) [
    | inl c ↦ inl c
    | inr e ↦ inr (same_parts sub sup (as_id r) (as_id s) e)
  ],
  λ h. elim h [
    | inl c ↦ Contains-append_left forms (N5 sub sup ∷ []) (N5 (as_id r) (as_id s)) c
    | inr e ↦ subst₂ (λ (x y : ℕ). Contains (forms ++ N5 sub sup ∷ []) (N5 (as_id x) (as_id y))) (sym e.0) (sym e.1) (Contains-push forms (N5 sub sup))
  ],
)

-- what leads there with the form led there without it, or to its first property and then from its second
pub edge_cases : (before after : List Form) (sub sup : PropId) → AddsEdge before after sub sup → (p q : PropId2) → IsAtOrBelow after p q
    → IsAtOrBelow before p q ⊎ (IsAtOrBelow before p (Property sub) × IsAtOrBelow before (Property sup) q)
edge_cases before after sub sup adds p _ same = inl same
edge_cases before after sub sup adds p _ (step s t h f) = elim ((adds s.0 t.0).0 f) [
  | inl old ↦ elim (edge_cases before after sub sup adds p (Property s) h) [
    | inl a ↦ inl (step s t a old)
    | inr b ↦ inr (b.0, step s t b.1 old)
  ]
  | inr new ↦
      let there : IsAtOrBelow before (Property sup) (Property t) = subst (λ (x : ℕ). IsAtOrBelow before (Property sup) (as_property x)) (sym new.1) same in
      elim (edge_cases before after sub sup adds p (Property s) h) [
        | inl a ↦ inr (subst (λ (x : ℕ). IsAtOrBelow before p (as_property x)) new.0 a, there)
        | inr b ↦ inr (b.0, there)
      ]
]

still : (before after : List Form) (sub sup : PropId) → AddsEdge before after sub sup → (p q : PropId2) → IsAtOrBelow before p q → IsAtOrBelow after p q
still before after sub sup adds = led_on before after (λ r s h. (adds r s).1 (inl h))

-- ---- one list

-- what is below sub has those above sup too
pub widened : (before after : List Form) (sub sup : PropId) (p : PropId2) (old above new : List PropId2) → AddsEdge before after sub sup → AreAbove before p old → AreAbove before (Property sup) above
    → IsAtOrBelow before p (Property sub) → IsUnion old above new → AreAbove after p new
widened before after sub sup p old above new adds mine theirs below union = record {
  ascending = union.ascending;
  exact = λ q. (
    λ c. elim ((union.exact q).0 c) [
      | inl a ↦ still before after sub sup adds p q ((mine.exact q).0 a)
      | inr b ↦
          let up : IsAtOrBelow after p (Property sup) = step sub sup (still before after sub sup adds p (Property sub) below) ((adds sub.0 sup.0).1 (inr (refl, refl))) in
          through after p (Property sup) q up (still before after sub sup adds (Property sup) q ((theirs.exact q).0 b))
    ],
    λ h. (union.exact q).1 (elim (edge_cases before after sub sup adds p q h) [
      | inl a ↦ inl ((mine.exact q).1 a)
      | inr b ↦ inr ((theirs.exact q).1 b.1)
    ]),
  );
}

-- and what is not below sub, or is below sup already, has what it had
pub unchanged : (before after : List Form) (sub sup : PropId) (p : PropId2) (list : List PropId2) → AddsEdge before after sub sup → AreAbove before p list
    → (IsAtOrBelow before p (Property sub) → IsAtOrBelow before p (Property sup)) → AreAbove after p list
unchanged before after sub sup p list adds mine there = record {
  ascending = mine.ascending;
  exact = λ q. (
    λ c. still before after sub sup adds p q ((mine.exact q).0 c),
    λ h. (mine.exact q).1 (elim (edge_cases before after sub sup adds p q h) [
      | inl a ↦ a
      | inr b ↦ through before p (Property sup) q (there b.0) b.1
    ]),
  );
}

-- the list of p with the form
abbrev pub Goes : List Form → PropId → PropId → List PropId2 → PropId2 → List PropId2 → List PropId2 → Type 0
Goes before sub sup above p old new = (IsAtOrBelow before p (Property sub) × IsUnion old above new) ⊎ ((IsAtOrBelow before p (Property sub) → IsAtOrBelow before p (Property sup)) × (new ≡ old))

goes_on : (before after : List Form) (sub sup : PropId) (p : PropId2) (old above new : List PropId2) → AddsEdge before after sub sup → AreAbove before p old → AreAbove before (Property sup) above
    → Goes before sub sup above p old new → AreAbove after p new
goes_on before after sub sup p old above new adds mine theirs goes = elim goes [
  | inl w ↦ widened before after sub sup p old above new adds mine theirs w.0 w.1
  | inr w ↦ subst (AreAbove after p) (sym w.1) (unchanged before after sub sup p old adds mine w.0)
]

-- ---- lists that are longer

alone_list : (forms : List Form) (p : ℕ) → ((s : ℕ) → Tells forms p s → ⊥) → AreAbove forms (as_property p) (as_property p ∷ [])
alone_list forms p none = record {
  ascending = λ i j d m high. absurd (omega arith);
  exact = λ q. (
    λ c. subst (IsAtOrBelow forms (as_property p)) (Contains-one (as_property p) q c) same,
    λ h. subst (Contains (as_property p ∷ [])) (sym (alone_above forms p none q h)) (Contains-first (as_property p) []),
  );
}

pub lengthened : (forms : List Form) (base old new : List (List PropId2)) (n : ℕ) → AreSupers forms base old → IsLengthened (base ++ old) (base ++ new) n → AreSupers forms base new
lengthened forms base old new n were longer = record {
  within = λ r s t. (let w = were.within r s t in (omega (arith, w.0, longer.longer), omega (arith, w.1, longer.longer)));
  apart = were.apart;
  each = λ p l. elim (cases_lt p (length (base ++ old))) [
    | inl low ↦ subst (AreAbove forms (as_property p)) (sym (longer.same p low)) (were.each p low)
    | inr high ↦ subst (AreAbove forms (as_property p)) (sym (longer.alone p high l)) (alone_list forms p (λ s t. (let w : p < length (base ++ old) = (were.within p s t).0 in omega (arith, w, high))))
  ];
}

-- ---- all lists

-- from a first property no path leads behind
stays : (n : ℕ) (forms : List Form) → ((r s : ℕ) → Tells forms r s → r < n → s < n) → (p : ℕ) (q : PropId2) → p < n → IsAtOrBelow forms (as_property p) q → number_of q < n
stays n forms apart p _ low same = low
stays n forms apart p _ low (step s t h f) = apart s.0 t.0 f (stays n forms apart p (Property s) low h)

pub grown : (before after : List Form) (sub sup : PropId) (base old new : List (List PropId2)) (above : List PropId2) → AddsEdge before after sub sup → length base ≤ sub.0
    → sub.0 < length (base ++ old) → sup.0 < length (base ++ old) → AreSupers before base old → above ≡ list_at (base ++ old) sup.0 → length new ≡ length old
    → ((k : ℕ) → k < length old → Goes before sub sup above (as_property (length base + k)) (list_at old k) (list_at new k)) → AreSupers after base new
grown before after sub sup base old new above adds behind sub_low sup_low were is long goes = record {
  within = λ r s t. elim ((adds r s).0 t) [
    | inl b ↦ (let w = were.within r s b in (omega (arith, w.0, as_long), omega (arith, w.1, as_long)))
    | inr e ↦ (omega (arith, e.0, sub_low, as_long), omega (arith, e.1, sup_low, as_long))
  ];
  apart = λ r s t l. elim ((adds r s).0 t) [
    | inl b ↦ were.apart r s b l
    | inr e ↦ absurd (omega (arith, e.0, behind, l))
  ];
  each = λ p l. elim (cases_lt p (length base)) [ inl low ↦ first p low | inr high ↦ later p high l ];
}
  where
    as_long : length (base ++ new) ≡ length (base ++ old)
    as_long = omega (arith, length-append base old, length-append base new, long)

    theirs : AreAbove before (Property sup) above
    theirs = subst (AreAbove before (Property sup)) (sym is) (were.each sup.0 sup_low)

    first : (p : ℕ) → p < length base → AreAbove after (as_property p) (list_at (base ++ new) p)
    first p low =
        let mine = were.each p (omega (arith, low, length-append base old)) in
        let kept : list_at (base ++ new) p ≡ list_at (base ++ old) p = get_or_append_left base new [] p low ∙ sym (get_or_append_left base old [] p low) in
        subst (AreAbove after (as_property p)) (sym kept) (unchanged before after sub sup (as_property p) (list_at (base ++ old) p) adds mine (λ h. (let l : sub.0 < length base = stays (length base) before were.apart p (Property sub) low h in absurd (omega (arith, l, behind)))))

    later : (p : ℕ) → length base ≤ p → p < length (base ++ new) → AreAbove after (as_property p) (list_at (base ++ new) p)
    later p high l =
        let k : ℕ = p - length base in
        let back : length base + k ≡ p = omega (arith, high) in
        let low : k < length old = omega (arith, l, high, long, length-append base new) in
        let old_at : list_at (base ++ old) p ≡ list_at old k = get_or-append_right base old (length base) p [] refl high in
        let new_at : list_at (base ++ new) p ≡ list_at new k = get_or-append_right base new (length base) p [] refl high in
        let mine : AreAbove before (as_property p) (list_at old k) = subst (AreAbove before (as_property p)) old_at (were.each p (omega (arith, l, as_long))) in
        let now = subst (λ (x : ℕ). Goes before sub sup above (as_property x) (list_at old k) (list_at new k)) back (goes k low) in
        subst (AreAbove after (as_property p)) (sym new_at) (goes_on before after sub sup (as_property p) (list_at old k) above (list_at new k) adds mine theirs now)

-- ---- which lists change

-- where no form named the property, it alone is below it
newest : (n : ℕ) (forms : List Form) (sub : PropId) → ArePlainWithin n forms → n ≤ sub.0 → (p q : PropId2) → IsAtOrBelow forms p q → q ≡ Property sub → p ≡ Property sub
newest n forms sub within high p _ same e = e
newest n forms sub within high p _ (step s t h f) e =
    let low : t.0 < n = (within s.0 t.0 f).1 in
    let is : t.0 ≡ sub.0 = ap number_of e in
    absurd (omega (arith, low, is, high))

-- then its list alone changes
pub one_goes : (n : ℕ) (forms : List Form) (sub sup : PropId) (base old new : List (List PropId2)) (above list : List PropId2) (place : ℕ) → ArePlainWithin n forms → n ≤ sub.0 → length base + place ≡ sub.0 → place < length old
    → IsUnion (list_at old place) above list → new ≡ slice_set old place list → (k : ℕ) → k < length old → Goes forms sub sup above (as_property (length base + k)) (list_at old k) (list_at new k)
one_goes n forms sub sup base old new above list place within high at low union is k l = elim (cases_eq k place) [
  | inl e ↦
      let here : list_at new k ≡ list = ap₂ (λ (x : List (List PropId2)) (y : ℕ). list_at x y) is e ∙ get_or-set_same old place list [] low in
      let id : length base + k ≡ sub.0 = ap (λ x. length base + x) e ∙ at in
      inl (subst (λ (x : ℕ). IsAtOrBelow forms (as_property (length base + k)) (as_property x)) id same, subst₂ (λ (x y : List PropId2). IsUnion x above y) (ap (list_at old) (sym e)) (sym here) union)
  | inr apart ↦
      let there : list_at new k ≡ list_at old k = ap (λ (x : List (List PropId2)). list_at x k) is ∙ get_or-set_other old place k list [] apart in
      inr (λ h. (let e : length base + k ≡ sub.0 = ap number_of (newest n forms sub within high (as_property (length base + k)) (Property sub) h refl) in absurd (apart (omega (arith, e, at)))), there)
]

-- else each that has sub and lacks sup
pub all_go : (forms : List Form) (sub sup : PropId) (base old new : List (List PropId2)) (above : List PropId2) → AreSupers forms base old → AreRaised (Property sub) (Property sup) above (length old) old new
    → (k : ℕ) → k < length old → Goes forms sub sup above (as_property (length base + k)) (list_at old k) (list_at new k)
all_go forms sub sup base old new above were raised k l =
    let n : ℕ = length base + k in
    let at : list_at (base ++ old) n ≡ list_at old k = get_or-append_right base old (length base) n [] refl (omega arith) ∙ ap (list_at old) (omega arith) in
    let mine : AreAbove forms (as_property n) (list_at old k) = subst (AreAbove forms (as_property n)) at (were.each n (omega (arith, l, length-append base old))) in
    elim (raised.raised k l) [
      | inl w ↦ inl ((mine.exact (Property sub)).0 w.0, w.1)
      | inr w ↦ inr (λ h. (mine.exact (Property sup)).0 (w.0 ((mine.exact (Property sub)).1 h)), w.1)
    ]

-- ---- forms one by one

pub next_form : (before forms : List Form) (k : ℕ) (d : Form) → k < length forms → before ++ take (k + 1) forms ≡ (before ++ take k forms) ++ get_or forms k d ∷ []
next_form before forms k d low = ap (λ (x : List Form). before ++ x) (take_more forms k d low) ∙ sym (append_assoc before (take k forms) (get_or forms k d ∷ []))

-- a form that is not plain changes nothing
pub as_before : (forms : List Form) (other : Form) (base more : List (List PropId2)) → ((r s : PropId) → other ≡ N5 r s → ⊥) → AreSupers forms base more → AreSupers (forms ++ other ∷ []) base more
as_before forms other base more apart were = record {
  within = λ r s t. were.within r s (back r s t);
  apart = λ r s t. were.apart r s (back r s t);
  each = λ p l. record {
    ascending = (were.each p l).ascending;
    exact = λ q. (
      λ c. led_on forms (forms ++ other ∷ []) (λ r s t. Contains-append_left forms (other ∷ []) (N5 (as_id r) (as_id s)) t) (as_property p) q (((were.each p l).exact q).0 c),
      λ h. ((were.each p l).exact q).1 (led_on (forms ++ other ∷ []) forms back (as_property p) q h),
    );
  };
}
  where
    back : (r s : ℕ) → Tells (forms ++ other ∷ []) r s → Tells forms r s
    back r s t = elim (Contains-push_cases forms other (N5 (as_id r) (as_id s)) t) [
      | inl c ↦ c
      | inr e ↦ absurd (apart (as_id r) (as_id s) e)
    ]

-- ---- lists that are raised one by one

pub raised_more : (sub sup : PropId2) (above : List PropId2) (k : ℕ) (start now : List (List PropId2)) (list : List PropId2) → k < length now → AreRaised sub sup above k start now → Contains (list_at now k) sub → IsUnion (list_at now k) above list
    → AreRaised sub sup above (k + 1) start (slice_set now k list)
raised_more sub sup above k start now list low before listed union = record {
  long = length-set now k list ∙ before.long;
  raised = λ j l. elim (cases_eq j k) [
    | inl e ↦ subst (λ (i : ℕ). IsRaised sub sup above (list_at start i) (list_at (slice_set now k list) i)) (sym e) here
    | inr apart ↦ subst (IsRaised sub sup above (list_at start j)) (sym (get_or-set_other now k j list [] apart)) (before.raised j (omega (arith, apart)))
  ];
  same = λ j l. get_or-set_other now k j list [] (λ e. omega (arith, e, l)) ∙ before.same j (omega arith);
}
  where
    was : list_at now k ≡ list_at start k
    was = before.same k (omega arith)

    here : IsRaised sub sup above (list_at start k) (list_at (slice_set now k list) k)
    here = inl (subst (λ (l : List PropId2). Contains l sub) was listed, subst₂ (λ (x y : List PropId2). IsUnion x above y) was (sym (get_or-set_same now k list [] low)) union)

pub raised_same : (sub sup : PropId2) (above : List PropId2) (k : ℕ) (start now : List (List PropId2)) → AreRaised sub sup above k start now → (Contains (list_at now k) sub → Contains (list_at now k) sup) → AreRaised sub sup above (k + 1) start now
raised_same sub sup above k start now before has = record {
  long = before.long;
  raised = λ j l. elim (cases_eq j k) [
    | inl e ↦ subst (λ (i : ℕ). IsRaised sub sup above (list_at start i) (list_at now i)) (sym e) here
    | inr apart ↦ before.raised j (omega (arith, apart))
  ];
  same = λ j l. before.same j (omega arith);
}
  where
    was : list_at now k ≡ list_at start k
    was = before.same k (omega arith)

    here : IsRaised sub sup above (list_at start k) (list_at now k)
    here = inr (subst (λ (l : List PropId2). Contains l sub → Contains l sup) was has, was)

-- ---- where plain forms begin

pub begin_more : (n : ℕ) (forms : List Form) (k : ℕ) (d : Form) (sub sup : PropId) → k < length forms → get_or forms k d ≡ N5 sub sup → n ≤ sub.0 → BeginBehind n (take k forms) → BeginBehind n (take (k + 1) forms)
begin_more n forms k d sub sup low is behind before r s t = elim ((one_more_taken forms k d (N5 (as_id r) (as_id s)) low).0 t) [
  | inl v ↦ before r s v
  | inr e ↦
      let at : r ≡ sub.0 = (same_parts sub sup (as_id r) (as_id s) (sym is ∙ e)).0 in
      omega (arith, at, behind)
]

pub begin_same : (n : ℕ) (forms : List Form) (k : ℕ) (d : Form) → k < length forms → ((r s : PropId) → get_or forms k d ≡ N5 r s → ⊥) → BeginBehind n (take k forms) → BeginBehind n (take (k + 1) forms)
begin_same n forms k d low other before r s t = elim ((one_more_taken forms k d (N5 (as_id r) (as_id s)) low).0 t) [
  | inl v ↦ before r s v
  | inr e ↦ absurd (other (as_id r) (as_id s) e)
]

pub begin_all : (n : ℕ) (forms : List Form) (k : ℕ) → length forms ≤ k → BeginBehind n (take k forms) → BeginBehind n forms
begin_all n forms k done before r s t = before r s ((all_taken forms k (N5 (as_id r) (as_id s)) done).1 t)

-- ---- lists that are longer by one, and lists that were searched for

pub one_longer : (start now : List (List PropId2)) (n : ℕ) → IsLengthened start now n → length now ≡ n → IsLengthened start (now ++ (as_property n ∷ []) ∷ []) (n + 1)
one_longer start now n before long = record {
  longer = omega (arith, before.longer, many);
  enough = omega (arith, long, many);
  most = λ m a b. omega (arith, b, long, many);
  same = λ p l. get_or_append_left now (new ∷ []) [] p (omega (arith, l, before.longer)) ∙ before.same p l;
  alone = λ p high l. elim (cases_eq p n) [
    | inl e ↦ ap (list_at (now ++ new ∷ [])) e ∙ get_or_push now new [] n long ∙ ap (λ (x : ℕ). as_property x ∷ []) (sym e)
    | inr apart ↦
        let low : p < length now = omega (arith, l, apart, long, many) in
        get_or_append_left now (new ∷ []) [] p low ∙ before.alone p high low
  ];
}
  where
    new : List PropId2
    new = as_property n ∷ []

    many : length (now ++ new ∷ []) ≡ length now + 1
    many = length_push now new

pub searched : (forms : List Form) (n : ℕ) (base more : List (List PropId2)) → more ≡ [] → length base ≡ n → ArePlainWithin n forms → ((p : ℕ) → p < n → AreAbove forms (as_property p) (list_at base p)) → AreSupers forms base more
searched forms n base more none long within each = record {
  within = subst (λ (m : ℕ). ArePlainWithin m forms) (sym (ap length all ∙ long)) within;
  apart = λ r s t l. (let w = within r s t in omega (arith, w.1, long));
  each = λ p l. subst (λ (lists : List (List PropId2)). AreAbove forms (as_property p) (list_at lists p)) (sym all) (each p (omega (arith, l, ap length all, long)));
}
  where
    all : base ++ more ≡ base
    all = ap (λ (m : List (List PropId2)). base ++ m) none ∙ append-nil base

-- a plain form more, where lists were made longer first and then changed
pub edge_added : (forms : List Form) (sub sup : PropId) (base first old more new : List (List PropId2)) (above : List PropId2) (n : ℕ) → base ≡ first → IsLengthened (first ++ old) (base ++ more) n → length base ≤ sub.0 → sub.0 < n → sup.0 < n
    → above ≡ list_at (base ++ more) sup.0 → length new ≡ length more → (ArePlainWithin (length (base ++ old)) forms → AreSupers forms base more → (k : ℕ) → k < length more → Goes forms sub sup above (as_property (length base + k)) (list_at more k) (list_at new k))
    → AreSupers forms first old → AreSupers (forms ++ N5 sub sup ∷ []) base new
edge_added forms sub sup base first old more new above n kept longer behind sub_low sup_low is long goes were =
    let here : AreSupers forms base old = subst (λ (b : List (List PropId2)). AreSupers forms b old) (sym kept) were in
    let now = lengthened forms base old more n here (subst (λ (b : List (List PropId2)). IsLengthened (b ++ old) (base ++ more) n) (sym kept) longer) in
    grown forms (forms ++ N5 sub sup ∷ []) sub sup base more new above (adds_edge forms sub sup) behind (omega (arith, sub_low, longer.enough)) (omega (arith, sup_low, longer.enough)) now is long (goes here.within now)

-- the same forms with one more
pub form_added : (before forms : List Form) (k : ℕ) (d : Form) (form : Form) (base more : List (List PropId2)) → k < length forms → get_or forms k d ≡ form → AreSupers ((before ++ take k forms) ++ form ∷ []) base more → AreSupers (before ++ take (k + 1) forms) base more
form_added before forms k d form base more low is = subst (λ (all : List Form). AreSupers all base more) (sym (next_form before forms k d low ∙ ap (λ (x : Form). (before ++ take k forms) ++ x ∷ []) is))
