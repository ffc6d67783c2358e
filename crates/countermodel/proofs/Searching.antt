-- The search for the contexts that edges lead to.
use Rattle.std.proofs.Common.{◌≡◌, ◌↔◌, ◌⊎◌, ℕ, ◌+◌, ◌<◌, ◌≤◌, inl, inr, true, List, [], length, get_or, take, slice_get, Some, Contains, refl, sym, ap, ◌∙◌, subst, arith}
use Rattle.std.proofs.lemmas.Bool.{cases_eq}
use Rattle.std.proofs.lemmas.Option.{same_Some, slice_get_within}
use Rattle.lemmas.proofs.Members.{Contains-none, Contains-from_slice_get, slice_get-from_Contains}
use Rattle.lemmas.proofs.Places.{slice_get_there}
use Rattle.axioms.specs.Ontology.{Ontology, nothing}
use Rattle.axioms.specs.declared.ids.PropId.{PropId}
use Rattle.facts.specs.declared.contexts.Context as code
use Rattle.facts.specs.declared.contexts.Context.TheVariants as contexts
use Rattle.facts.specs.declared.contexts.Fact as code_fact
use Rattle.facts.specs.declared.contexts.Fact.TheVariants as facts
use Rattle.normal_forms.specs.declared.forms.Class2.TheVariants as classes
use Rattle.normal_forms.specs.declared.forms.PropId2.TheVariants as properties
use Rattle.normal_forms.specs.Forms.{Property2, Property, Steps}
use Rattle.closure.specs.Closure.{Context, Edge, IsAtOrBelow, IsFact}
use Rattle.closure.specs.Denotations.{Prefixes, context_of}
use Rattle.closure.specs.Groups.{least_same}
use Rattle.closure.proofs.Facts as fact
use Rattle.closure.proofs.Names.{expr_id, ind_id, prop_id}
use Rattle.engine.specs.Saturations.{SayTheClosure}
use Rattle.exactness.specs.ListedInterpretation.{IsSatisfiable, Leads}
use Rattle.indexes.specs.FactIndex.{IsFrom}
use Rattle.number_sets.proofs.Members.{one_more_taken}
use Rattle.saturate.specs.ServedFacts.{AreNumbersOf}
use Rattle.countermodel.specs.Reached.{IsReachedFrom, itself, individual, onward}
use Rattle.countermodel.specs.Searching.{AddsContexts, AreMarked, HasElement, IsEdgeTo, IsStart, LeadByFacts}
use Rattle.countermodel.specs.Sets.{holds}
use Rattle.countermodel.specs.declared.context_set.ContextSet.{ContextSet}
use Rattle.countermodel.proofs.Facts.{code_of, code_of-is, edge_said, whole_said}
use Rattle.countermodel.proofs.Listing.{same_code}
use Rattle.countermodel.proofs.Said.{plain_below}

-- ---- more contexts

-- what is added in two steps
pub both_added : (P Q R : code.Context → Type 0) (old now new : List code.Context) → AddsContexts P old now → AddsContexts Q now new → ((x : code.Context) → R x ↔ (P x ⊎ Q x)) → AddsContexts R old new
both_added P Q R old now new first second is = record {
  kept = λ k x at. second.kept k x (first.kept k x at);
  each = λ x c. elim (second.each x c) [
    | inl c' ↦ elim (first.each x c') [ inl before ↦ inl before | inr p ↦ inr ((is x).1 (inl p)) ]
    | inr q ↦ inr ((is x).1 (inr q))
  ];
  all = λ x r. elim ((is x).0 r) [ inl p ↦ later x (first.all x p) | inr q ↦ second.all x q ];
}
  where
    later : (x : code.Context) → Contains now x → Contains new x
    later x c = (let (k, at) = slice_get-from_Contains now x c in Contains-from_slice_get new k x (second.kept k x at))

pub same_added : (P Q : code.Context → Type 0) (old new : List code.Context) → ((x : code.Context) → Q x ↔ P x) → AddsContexts P old new → AddsContexts Q old new
same_added P Q old new is adds = record {
  kept = adds.kept;
  each = λ x c. elim (adds.each x c) [ inl before ↦ inl before | inr p ↦ inr ((is x).1 p) ];
  all = λ x q. adds.all x ((is x).0 q);
}

-- ---- where it starts

module _ (o : Ontology) (from : code.Context) where
  pub first_start : (found now : List code.Context) → found ≡ [] → AddsContexts (λ x. x ≡ from) found now → (x : code.Context) → Contains now x ↔ IsStart o from 0 x
  first_start found now none adds x = (
    λ c. elim (adds.each x c) [
      | inl before ↦ absurd (Contains-none x (subst (λ (xs : List code.Context). Contains xs x) none before))
      | inr same ↦ inl same
    ],
    λ h. elim h [ inl same ↦ adds.all x same | inr (a, low, same) ↦ absurd (omega (arith, low)) ],
  )

  abbrev leader_at : ℕ → code.Context
  leader_at a = contexts.Individual (ind_id (least_same o a))

  pub start_more : (n : ℕ) (found now : List code.Context) (least : code.Context) → least ≡ contexts.Individual (ind_id (least_same o n)) → AddsContexts (λ x. x ≡ least) found now
      → ((x : code.Context) → Contains found x ↔ IsStart o from n x) → (x : code.Context) → Contains now x ↔ IsStart o from (n + 1) x
  start_more n found now least leads adds was x = (
    λ c. elim (adds.each x c) [
      | inl before ↦ elim ((was x).0 before) [ inl same ↦ inl same | inr (a, low, same) ↦ inr (a, omega (arith, low), same) ]
      | inr same ↦ inr (n, omega arith, same ∙ leads)
    ],
    λ h. elim h [
      | inl same ↦ later ((was x).1 (inl same))
      | inr (a, low, same) ↦ elim (cases_eq a n) [
        | inl here ↦ adds.all x (same ∙ ap leader_at here ∙ sym leads)
        | inr apart ↦ later ((was x).1 (inr (a, omega (arith, low, apart), same)))
      ]
    ],
  )
    where
      later : Contains found x → Contains now x
      later c = (let (k, at) = slice_get-from_Contains found x c in Contains-from_slice_get now k x (adds.kept k x at))

-- ---- by facts

module _ (o : Ontology) (asked : List ℕ) (list : List code_fact.Fact) (numbers : List ℕ) (k d : ℕ) (low : k < length numbers) (f : code_fact.Fact) (at : slice_get list (get_or numbers k d) ≡ Some f) where
  pub led_by_more : (y : code.Context) → LeadByFacts o asked list (take (k + 1) numbers) y ↔ (LeadByFacts o asked list (take k numbers) y ⊎ IsEdgeTo o asked f y)
  led_by_more y = (
    λ h. elim ((one_more_taken numbers k d h.0 low).0 h.1) [
      | inl before ↦ inl (h.0, before, h.2, h.3, h.4)
      | inr here ↦
          let same : h.2 ≡ f = same_Some h.2 f (sym h.3 ∙ subst (λ (n : ℕ). slice_get list n ≡ Some f) here at) in
          inr (subst (λ (g : code_fact.Fact). IsEdgeTo o asked g y) same h.4)
    ],
    λ h. elim h [
      | inl before ↦ (before.0, (one_more_taken numbers k d before.0 low).1 (inl before.1), before.2, before.3, before.4)
      | inr edge ↦ (get_or numbers k d, (one_more_taken numbers k d (get_or numbers k d) low).1 (inr refl), f, at, edge)
    ],
  )

-- a fact is an edge to one context alone
pub edge_to_one : (o : Ontology) (asked : List ℕ) (f : code_fact.Fact) (x : code.Context) → IsEdgeTo o asked f x → (y : code.Context) → IsEdgeTo o asked f y ↔ (y ≡ x)
edge_to_one o asked f x e y = (
  λ h. (let same = sym h.2 ∙ e.2 in cc),
  λ same. subst (IsEdgeTo o asked f) (sym same) e,
)

-- ---- edges

-- an edge of a property leads from the one to the other, which has an element
abbrev pub IsStep : Ontology → List ℕ → code.Context → code.Context → Type 0
IsStep o asked x y = (q : ℕ) × IsFact o asked (Edge (context_of x) (Property q) (context_of y)) × HasElement o asked y

module _ (o : Ontology) (asked : List ℕ) (b : Prefixes) (list : List code_fact.Fact) (says : SayTheClosure o asked b list) where
  -- the target of an edge has an element where it is without owl:Nothing and leads
  pub target_has : (x y : code.Context) (q : PropId) → Contains list (facts.Edge x (properties.Property q) y) → Leads o asked (context_of y)
      → (Contains list (facts.In (classes.Expr (expr_id nothing)) y) → ⊥) → HasElement o asked y
  target_has x y q there leads never = (
    record {
      context = fact.target (context_of x) (Property q.0) ((edge_said o asked b list says x q y).0 there);
      without_nothing = λ f.
          let said = (whole_said o asked b list says (expr_id nothing) (context_of y)).1 f in
          never (subst (λ (z : code.Context). Contains list (facts.In (classes.Expr (expr_id nothing)) z)) (same_code (code_of (context_of y)) y (code_of-is (context_of y))) said);
    },
    leads,
  )

  pub never_nothing : (y : code.Context) → HasElement o asked y → Contains list (facts.In (classes.Expr (expr_id nothing)) y) → ⊥
  never_nothing y has there =
      has.0.without_nothing ((whole_said o asked b list says (expr_id nothing) (context_of y)).0
      (subst (λ (z : code.Context). Contains list (facts.In (classes.Expr (expr_id nothing)) z)) (sym (same_code (code_of (context_of y)) y (code_of-is (context_of y)))) there))

  module _ (x : code.Context) (numbers : List ℕ) (are : AreNumbersOf (IsFrom x) list numbers) where
    pub led_step : (y : code.Context) → IsStep o asked x y ↔ LeadByFacts o asked list numbers y
    led_step y = (
      λ (q, f, has).
          let edge : code_fact.Fact = facts.Edge x (properties.Property (prop_id q)) y in
          let (n, at) = slice_get-from_Contains list edge ((edge_said o asked b list says x (prop_id q) y).1 f) in
          (n, (are n).1 (edge, at, refl), edge, at, (x, prop_id q, refl, has)),
      λ (n, c, f, at, (x', q, is, has)).
          let edge : code_fact.Fact = facts.Edge x' (properties.Property q) y in
          let here : slice_get list n ≡ Some edge = at ∙ ap Some is in
          let (g, at_g, from) = (are n).0 c in
          let from' : IsFrom x edge = subst (IsFrom x) (same_Some g edge (sym at_g ∙ here)) from in
          let fact' = (edge_said o asked b list says x' q y).0 (Contains-from_slice_get list n edge here) in
          (q.0, subst (λ (z : code.Context). IsFact o asked (Edge (context_of z) (Property q.0) (context_of y))) from' fact', has),
    )

-- ---- the search

-- so many of those that were found are followed
pub record IsReaching (o : Ontology) (asked : List ℕ) (from : code.Context) (next : ℕ) (found : List code.Context) (seen : ContextSet) : Type 0 where
  pub marked : AreMarked o found seen
  pub started : (x : code.Context) → IsStart o from (length o.names.individuals) x → Contains found x
  pub sound : (x : code.Context) → Contains found x → IsReachedFrom o asked (context_of from) (context_of x)
  pub closed : (k : ℕ) (x y : code.Context) → k < next → slice_get found k ≡ Some x → IsStep o asked x y → Contains found y

module _ (o : Ontology) (asked : List ℕ) (from : code.Context) where
  start_reached : (x : code.Context) → IsStart o from (length o.names.individuals) x → IsReachedFrom o asked (context_of from) (context_of x)
  start_reached x (inl same) = subst (λ (z : code.Context). IsReachedFrom o asked (context_of from) (context_of z)) (sym same) itself
  start_reached x (inr (a, low, same)) = subst (λ (z : code.Context). IsReachedFrom o asked (context_of from) (context_of z)) (sym same) (individual a low)

  pub begun : (found : List code.Context) (seen : ContextSet) → AreMarked o found seen → ((x : code.Context) → Contains found x ↔ IsStart o from (length o.names.individuals) x) → IsReaching o asked from 0 found seen
  begun found seen marked is = record {
    marked = marked;
    started = λ x. (is x).1;
    sound = λ x c. start_reached x ((is x).0 c);
    closed = λ k x y low. absurd (omega (arith, low));
  }

  step_reached : (x y : code.Context) → IsReachedFrom o asked (context_of from) (context_of x) → IsStep o asked x y → IsReachedFrom o asked (context_of from) (context_of y)
  step_reached x y h (q, f, has) = onward q (context_of x) h (record { property = Property q; edge = f; below = IsAtOrBelow.same }) has.0 has.1

  module _ (next : ℕ) (found : List code.Context) (seen : ContextSet) (was : IsReaching o asked from next found seen) where
    pub followed : (x : code.Context) (now : List code.Context) (more : ContextSet) → slice_get found next ≡ Some x → AreMarked o now more → AddsContexts (IsStep o asked x) found now → IsReaching o asked from (next + 1) now more
    followed x now more here marked adds = record {
      marked = marked;
      started = λ y s. later y (was.started y s);
      sound = λ y c. elim (adds.each y c) [
        | inl before ↦ was.sound y before
        | inr step ↦ step_reached x y (was.sound x (Contains-from_slice_get found next x here)) step
      ];
      closed = λ k y z low at step. elim (cases_eq k next) [
        | inl same ↦
            let one : y ≡ x = same_Some y x (sym at ∙ subst (λ (j : ℕ). slice_get now j ≡ Some x) (sym same) (adds.kept next x here)) in
            adds.all z (subst (λ (v : code.Context). IsStep o asked v z) one step)
        | inr apart ↦
            let earlier : k < next = omega (arith, low, apart) in
            let (v, before) = slice_get_there found k (omega (arith, earlier, slice_get_within found next x here)) in
            let one : v ≡ y = same_Some v y (sym (adds.kept k v before) ∙ at) in
            later z (was.closed k y z earlier (before ∙ ap Some one) step)
      ];
    }
      where
        later : (y : code.Context) → Contains found y → Contains now y
        later y c = (let (k, at) = slice_get-from_Contains found y c in Contains-from_slice_get now k y (adds.kept k y at))

    module _ (done : length found ≤ next) where
      -- an edge of a property or of properties below it is one of a property
      plain_step : (x y : Context) (p : Property2) (r : ℕ) → IsFact o asked (Edge x p y) → IsAtOrBelow o asked p (Property r) → (q : ℕ) × IsFact o asked (Edge x (Property q) y)
      plain_step x y (Property q) r f below = (q, f)
      plain_step x y (Steps rs) r f below = absurd (plain_below below tt)

      all_found : (x : Context) → IsReachedFrom o asked (context_of from) x → Contains found (code_of x)
      all_found _ itself = subst (Contains found) (sym (same_code (code_of (context_of from)) from (code_of-is (context_of from)))) (was.started from (inl refl))
      all_found _ (individual a low) = was.started (contexts.Individual (ind_id (least_same o a))) (inr (a, low, refl))
      all_found y (onward r x h edge satisfiable leads) =
          let (k, at) = slice_get-from_Contains found (code_of x) (all_found x h) in
          let (q, f) = plain_step x y edge.property r edge.edge edge.below in
          let has : HasElement o asked (code_of y) = subst (λ (z : Context). IsSatisfiable o asked z × Leads o asked z) (sym (code_of-is y)) (satisfiable, leads) in
          let from_x : IsFact o asked (Edge (context_of (code_of x)) (Property q) y) = subst (λ (z : Context). IsFact o asked (Edge z (Property q) y)) (sym (code_of-is x)) f in
          let step : IsStep o asked (code_of x) (code_of y) = (q, subst (λ (z : Context). IsFact o asked (Edge (context_of (code_of x)) (Property q) z)) (sym (code_of-is y)) from_x, has) in
          was.closed k (code_of x) (code_of y) (omega (arith, done, slice_get_within found k (code_of x) at)) at step

      pub seen_reached : (x : Context) → (holds seen x ≡ true) ↔ IsReachedFrom o asked (context_of from) x
      seen_reached x = (
        λ h.
            let c = (was.marked.same (code_of x)).0 (subst (λ (z : Context). holds seen z ≡ true) (sym (code_of-is x)) h) in
            subst (IsReachedFrom o asked (context_of from)) (code_of-is x) (was.sound (code_of x) c),
        λ h. subst (λ (z : Context). holds seen z ≡ true) (code_of-is x) ((was.marked.same (code_of x)).1 (all_found x h)),
      )
