-- The lists of chains are those that forms say.
use Rattle.std.proofs.Common.{◌≡◌, ◌↔◌, ℕ, ◌+◌, ◌<◌, ◌≤◌, ◌⊎◌, inl, inr, List, [], ◌∷◌, ◌++◌, length, get_or, take, Contains, refl, sym, ap, ap₂, ◌∙◌, subst, arith}
use Rattle.std.specs.Prelude.{slice_set}
use Rattle.std.specs.List.{AllPairs}
use Rattle.std.specs.Ordering.{ordering_then}
use Rattle.std.specs.declared.cmp.Ordering.{Ordering}
use Rattle.std.specs.declared.cmp.Ordering.TheVariants.{Less, Equal, Greater}
use Rattle.std.proofs.lemmas.Bool.{cases_eq, cases_lt}
use Rattle.std.proofs.lemmas.Cmp.{ranked}
use Rattle.std.proofs.lemmas.List.{get_or_push, get_or_append_left, get_or_past, length_push, length-set}
use Rattle.std.proofs.lemmas.List.Elements.{Contains-append_cases, Contains-append_left}
use Rattle.axioms.specs.declared.ids.PropId.{PropId}
use Rattle.normal_forms.specs.declared.forms.PropId2.{PropId2}
use Rattle.normal_forms.specs.declared.forms.PropId2.TheVariants.{Property, Partial}
use Rattle.normal_forms.specs.declared.forms.Form.{Form}
use Rattle.normal_forms.specs.declared.forms.Form.TheVariants.{N6}
use Rattle.normal_forms.specs.Properties.{ComesBefore, ChainComesBefore, IsChainFrom}
use Rattle.normal_forms.specs.contracts.forms.PropId2Ord.TheImpl as order
use Rattle.number_sets.specs.Pieces.{list_at}
use Rattle.property_closure.specs.declared.chains.OpenChains.{OpenChains}
use Rattle.property_closure.specs.Chains.{AddsChain, AreChains, AreChainsOf, AreNoChains, ArePacked, chains_at, open_chains_at}
use Rattle.property_closure.specs.Relations.{as_property}
use Rattle.number_sets.proofs.Members.{one_more_item, one_more_taken, all_taken}
use Rattle.property_closure.proofs.Reflexives.{number_of}

-- what follows the first property of a chain, and what is above both
abbrev pub Chain : Type 0
Chain = PropId2 × PropId2

-- ---- one chain more

pub adds_property : (o : OpenChains) (lists : List (List Chain)) (id : PropId) (chain : Chain) → lists ≡ slice_set o.properties id.0 (list_at o.properties id.0 ++ chain ∷ []) → id.0 < length o.properties
    → AddsChain o (record { properties = lists; partials = o.partials }) (Property id) chain
adds_property o lists id chain is within = record {
  properties = ap length is ∙ length-set o.properties id.0 (list_at o.properties id.0 ++ chain ∷ []);
  partials = refl;
  each = each;
}
  where
    each : (p : PropId2) (c : Chain) → Contains (open_chains_at (record { properties = lists; partials = o.partials }) p) c ↔ (Contains (open_chains_at o p) c ⊎ ((p ≡ Property id) × (c ≡ chain)))
    each (Property p) c = (
      λ h. elim ((one_more_item o.properties id.0 chain p.0 c within).0 (subst (λ (l : List (List Chain)). Contains (list_at l p.0) c) is h)) [
        | inl v ↦ inl v
        | inr v ↦ inr (ap as_property v.0, v.1)
      ],
      λ h. subst (λ (l : List (List Chain)). Contains (list_at l p.0) c) (sym is) ((one_more_item o.properties id.0 chain p.0 c within).1 (elim h [
        | inl v ↦ inl v
        | inr v ↦ inr (ap number_of v.0, v.1)
      ])),
    )
    each (Partial n) c = (λ h. inl h, λ h. elim h [ inl v ↦ v | inr v ↦ absurd (let e : Partial n ≡ Property id = v.0 in cc) ])

pub adds_partial : (o : OpenChains) (lists : List (List Chain)) (number : ℕ) (chain : Chain) → lists ≡ slice_set o.partials number (list_at o.partials number ++ chain ∷ []) → number < length o.partials
    → AddsChain o (record { properties = o.properties; partials = lists }) (Partial number) chain
adds_partial o lists number chain is within = record {
  properties = refl;
  partials = ap length is ∙ length-set o.partials number (list_at o.partials number ++ chain ∷ []);
  each = each;
}
  where
    each : (p : PropId2) (c : Chain) → Contains (open_chains_at (record { properties = o.properties; partials = lists }) p) c ↔ (Contains (open_chains_at o p) c ⊎ ((p ≡ Partial number) × (c ≡ chain)))
    each (Property p) c = (λ h. inl h, λ h. elim h [ inl v ↦ v | inr v ↦ absurd (let e : Property p ≡ Partial number = v.0 in cc) ])
    each (Partial n) c = (
      λ h. elim ((one_more_item o.partials number chain n c within).0 (subst (λ (l : List (List Chain)). Contains (list_at l n) c) is h)) [
        | inl v ↦ inl v
        | inr v ↦ inr (ap Partial v.0, v.1)
      ],
      λ h. subst (λ (l : List (List Chain)). Contains (list_at l n) c) (sym is) ((one_more_item o.partials number chain n c within).1 (elim h [
        | inl v ↦ inl v
        | inr v ↦ inr (ap number_of v.0, v.1)
      ])),
    )

-- ---- the chains of forms

first_of : Form → PropId2
first_of (N6 p s t) = p
first_of _ = Partial 0

rest_of : Form → Chain
rest_of (N6 p s t) = (s, t)
rest_of _ = (Partial 0, Partial 0)

same_chains : (p s t q : PropId2) (c : Chain) → N6 p s t ≡ N6 q c.0 c.1 → (q ≡ p) × (c ≡ (s, t))
unfolding first_of rest_of
same_chains p s t q c e = (sym (ap first_of e), sym (ap rest_of e))

-- the chains of the first forms
abbrev pub AreChainsUpTo : List Form → ℕ → OpenChains → Type 0
AreChainsUpTo forms k o = (p : PropId2) (c : Chain) → Contains (open_chains_at o p) c ↔ IsChainFrom (take k forms) p c

pub chains_more : (forms : List Form) (k : ℕ) (d : Form) (p s t : PropId2) (old new : OpenChains) → k < length forms → get_or forms k d ≡ N6 p s t → AddsChain old new p (s, t) → AreChainsUpTo forms k old → AreChainsUpTo forms (k + 1) new
chains_more forms k d p s t old new low is adds before q c = (
  λ h. (one_more_taken forms k d (N6 q c.0 c.1) low).1 (elim ((adds.each q c).0 h) [
    | inl v ↦ inl ((before q c).0 v)
    | inr v ↦ inr (is ∙ ap₂ (λ (x : PropId2) (y : Chain). N6 x y.0 y.1) (sym v.0) (sym v.1))
  ]),
  λ h. (adds.each q c).1 (elim ((one_more_taken forms k d (N6 q c.0 c.1) low).0 h) [
    | inl v ↦ inl ((before q c).1 v)
    | inr e ↦ inr (same_chains p s t q c (sym is ∙ e))
  ]),
)

pub chains_same : (forms : List Form) (k : ℕ) (d : Form) (o : OpenChains) → k < length forms → ((p s t : PropId2) → get_or forms k d ≡ N6 p s t → ⊥) → AreChainsUpTo forms k o → AreChainsUpTo forms (k + 1) o
chains_same forms k d o low other before q c = (
  λ h. (one_more_taken forms k d (N6 q c.0 c.1) low).1 (inl ((before q c).0 h)),
  λ h. elim ((one_more_taken forms k d (N6 q c.0 c.1) low).0 h) [
    | inl v ↦ (before q c).1 v
    | inr e ↦ absurd (other q c.0 c.1 e)
  ],
)

pub chains_of : (forms : List Form) (k : ℕ) (o : OpenChains) → length forms ≤ k → AreChainsUpTo forms k o → AreChainsOf forms o
chains_of forms k o done each p c = (
  λ h. (all_taken forms k (N6 p c.0 c.1) done).0 ((each p c).0 h),
  λ h. (each p c).1 ((all_taken forms k (N6 p c.0 c.1) done).1 h),
)

-- ---- forms that are of no chain

pub no_chains_more : (forms : List Form) (k : ℕ) (d : Form) → k < length forms → ((p s t : PropId2) → get_or forms k d ≡ N6 p s t → ⊥) → AreNoChains (take k forms) → AreNoChains (take (k + 1) forms)
no_chains_more forms k d low other before p c h = elim ((one_more_taken forms k d (N6 p c.0 c.1) low).0 h) [
  | inl v ↦ before p c v
  | inr e ↦ other p c.0 c.1 e
]

pub no_chains_of : (forms : List Form) (k : ℕ) → length forms ≤ k → AreNoChains (take k forms) → AreNoChains forms
no_chains_of forms k done none p c h = none p c ((all_taken forms k (N6 p c.0 c.1) done).1 h)

-- with such forms the chains are the same
pub still_chains : (forms added : List Form) (p : PropId2) (list : List Chain) → AreNoChains added → AreChains forms p list → AreChains (forms ++ added) p list
still_chains forms added p list none were = record {
  ascending = were.ascending;
  exact = λ c. (
    λ h. Contains-append_left forms added (N6 p c.0 c.1) ((were.exact c).0 h),
    λ h. (were.exact c).1 (elim (Contains-append_cases forms added (N6 p c.0 c.1) h) [ inl v ↦ v | inr v ↦ absurd (none p c v) ]),
  );
}

-- ---- ascending lists

pub packed_more : (lists packed : List (List Chain)) (n : ℕ) (list : List Chain) → ArePacked lists n packed → AllPairs ChainComesBefore list → ((c : Chain) → Contains list c ↔ Contains (list_at lists n) c) → ArePacked lists (n + 1) (packed ++ list ∷ [])
packed_more lists packed n list before up like = record {
  long = omega (arith, length_push packed list, before.long);
  ascending = λ k l. at k (λ (m : ℕ) (now : List Chain). AllPairs ChainComesBefore now) before.ascending up l;
  same = λ k c l. at k (λ (m : ℕ) (now : List Chain). Contains now c ↔ Contains (list_at lists m) c) (λ m low. before.same m c low) (like c) l;
}
  where
    at : (k : ℕ) (P : ℕ → List Chain → Type 0) → ((m : ℕ) → m < n → P m (list_at packed m)) → P n list → k < n + 1 → P k (list_at (packed ++ list ∷ []) k)
    at k P each new l = elim (cases_eq k n) [
      | inl e ↦ subst (λ (m : ℕ). P m (list_at (packed ++ list ∷ []) m)) (sym e) (subst (P n) (sym (get_or_push packed list [] n before.long)) new)
      | inr apart ↦ subst (P k) (sym (get_or_append_left packed (list ∷ []) [] k (omega (arith, apart, before.long)))) (each k (omega (arith, apart)))
    ]

list_closed : (forms : List Form) (p : PropId2) (lists packed : List (List Chain)) (k : ℕ) → ((c : Chain) → Contains (list_at lists k) c ↔ IsChainFrom forms p c) → ArePacked lists (length lists) packed → AreChains forms p (list_at packed k)
list_closed forms p lists packed k each w = elim (cases_lt k (length lists)) [
  | inl l ↦ record {
    ascending = w.ascending k l;
    exact = λ c. (λ h. (each c).0 ((w.same k c l).0 h), λ h. (w.same k c l).1 ((each c).1 h));
  }
  | inr l ↦
      let none : list_at packed k ≡ [] = get_or_past packed k [] (omega (arith, w.long)) in
      let before : list_at lists k ≡ [] = get_or_past lists k [] l in record {
        ascending = subst (AllPairs ChainComesBefore) (sym none) (λ i j d m high. absurd (omega arith));
        exact = λ c. (
          λ h. absurd (omega (arith, (subst (λ (now : List Chain). Contains now c) none h).1)),
          λ h. absurd (omega (arith, (subst (λ (now : List Chain). Contains now c) before ((each c).1 h)).1)),
        );
      }
]

pub chains_closed : (forms : List Form) (o : OpenChains) (properties partials : List (List Chain)) → AreChainsOf forms o → ArePacked o.properties (length o.properties) properties → ArePacked o.partials (length o.partials) partials
    → (p : PropId2) → AreChains forms p (chains_at (record { properties = properties; partials = partials }) p)
chains_closed forms o properties partials each w v (Property p) = list_closed forms (Property p) o.properties properties p.0 (each (Property p)) w
chains_closed forms o properties partials each w v (Partial n) = list_closed forms (Partial n) o.partials partials n (each (Partial n)) v

-- ---- the order of chains

abbrev pub order_of : PropId2 → PropId2 → Ordering
order_of = order.ghosts.cmp

pub less_before : (x y : PropId2) → order_of x y ≡ Less → ComesBefore x y
less_before (Property p) (Property q) e = ranked p.0 q.0 Less (sym e)
less_before (Property p) (Partial n) e = tt
less_before (Partial m) (Property q) e = absurd (let f : Greater ≡ Less = e in cc)
less_before (Partial m) (Partial n) e = ranked m n Less (sym e)

equal_same : (x y : PropId2) → order_of x y ≡ Equal → x ≡ y
equal_same (Property p) (Property q) e = ap as_property (ranked p.0 q.0 Equal (sym e))
equal_same (Property p) (Partial n) e = absurd (let f : Less ≡ Equal = e in cc)
equal_same (Partial m) (Property q) e = absurd (let f : Greater ≡ Equal = e in cc)
equal_same (Partial m) (Partial n) e = ap Partial (ranked m n Equal (sym e))

pub chain_before : (x y : Chain) → ordering_then (order_of x.0 y.0) (order_of x.1 y.1) ≡ Less → ChainComesBefore x y
chain_before x y e = go (order_of x.0 y.0) refl e
  where
    go : (o : Ordering) → order_of x.0 y.0 ≡ o → ordering_then o (order_of x.1 y.1) ≡ Less → ChainComesBefore x y
    go Less f g = inl (less_before x.0 y.0 f)
    go Equal f g = inr (equal_same x.0 y.0 f, less_before x.1 y.1 g)
    go Greater f g = absurd (let h : Greater ≡ Less = g in cc)
