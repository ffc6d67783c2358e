-- The pairs that the facts of a saturation give are the edges of the interpretation that its closure lists.
use Rattle.std.proofs.Common.{◌≡◌, ◌↔◌, ℕ, ◌+◌, ◌<◌, inl, inr, List, [], ◌∷◌, length, get_or, slice_get, Some, Contains, AllPairs, sym, ap, ◌∙◌, subst, subst₂, arith}
use Rattle.std.proofs.lemmas.Bool.{cases_lt}
use Rattle.std.proofs.lemmas.List.Elements.{All-contains, Contains-get_or}
use Rattle.std.proofs.lemmas.Option.{same_Some, slice_get_within, get_or_from_slice_get}
use Rattle.lemmas.proofs.Members.{Contains-from_slice_get, slice_get-from_Contains}
use Rattle.axioms.specs.Ontology.{Ontology, SubProperty, EquivalentProperties}
use Rattle.axioms.specs.WellFormedness.{AreDistinct, IsOntology}
use Rattle.axioms.specs.declared.ids.PropId.{PropId}
use Rattle.certificate.specs.Writability.{AreElements, Ascends}
use Rattle.normal_forms.specs.declared.forms.PropId2 as code_property
use Rattle.normal_forms.specs.declared.forms.PropId2.TheVariants as properties
use Rattle.normal_forms.specs.declared.forms.Form as code_form
use Rattle.normal_forms.specs.Forms.{Property2, Property, Steps, N5, IsForm, sub_property, same_property, IsNextInCircle}
use Rattle.normal_forms.specs.Properties as code_below
use Rattle.normal_forms.proofs.Suffice.{suffice}
use Rattle.facts.specs.declared.contexts.Context as code_context
use Rattle.facts.specs.declared.contexts.Fact as code_fact
use Rattle.facts.specs.declared.contexts.Fact.TheVariants as facts
use Rattle.closure.specs.Closure.{Context, Expression, Individual, Fact, Edge, IsAtOrBelow, IsFact}
use Rattle.closure.specs.Denotations.{Prefixes, property, SaysFact, edge, context_of}
use Rattle.exactness.specs.ListedInterpretation.{HasEdge, IsBefore}
use Rattle.exactness.proofs.Facts.{fact_derivable}
use Rattle.exactness.proofs.Rules.{axiom_within, derivable_within}
use Rattle.engine.specs.Saturations.{IsSaturated, Saturated}
use Rattle.normalise.specs.Problem.{prefixes_of}
use Rattle.property_closure.specs.PropertyClosures.{Known, Has}
use Rattle.inference.specs.PropertyClosures.{IsClosureOf}
use Rattle.inference.proofs.Edges as edges
use Rattle.countermodel.specs.declared.pair.Pair.{Pair}
use Rattle.countermodel.specs.Edges.{IsGiven, IsGivenBy}
use Rattle.countermodel.specs.Pairs.{AreGrouped, Row, pair}
use Rattle.countermodel.specs.PairRows.{ArePairRows}
use Rattle.closure.proofs.Names.{prop_id}
use Rattle.countermodel.proofs.Said.{below_said, below_sayer, plain_below, said_context, said_property}
use Rattle.countermodel.proofs.Grouping.{listed_are, row_has_pair, row_has_targets}

-- ---- contexts

never_before_itself : (x : Context) → IsBefore x x → ⊥
never_before_itself (Expression e) l = omega arith
never_before_itself (Individual a) l = omega arith

-- contexts in order stand at one place each
pub one_place : (elements : List Context) → AllPairs IsBefore elements → AreDistinct elements
one_place elements ascend m n x at_m at_n =
    let low_m = slice_get_within elements m x at_m in
    let low_n = slice_get_within elements n x at_n in
    elim (cases_lt m n) [
      | inl l ↦ absurd (never_before_itself x (before m n at_m at_n l low_n))
      | inr l ↦ elim (cases_lt n m) [
        | inl k ↦ absurd (never_before_itself x (before n m at_n at_m k low_m))
        | inr k ↦ omega arith
      ]
    ]
  where
    before : (i j : ℕ) → slice_get elements i ≡ Some x → slice_get elements j ≡ Some x → i < j → j < length elements → IsBefore x x
    before i j at_i at_j l k = subst₂ IsBefore (get_or_from_slice_get elements i x x at_i) (get_or_from_slice_get elements j x x at_j) (ascend i j x l k)

-- ---- properties

IsThere : Ontology → Property2 → Type 0
IsThere o (Property r) = r < length o.names.properties
IsThere o (Steps rs) = Unit {0}

in_circle : (rs : List ℕ) (r s : ℕ) → IsNextInCircle rs r s → Contains rs s
in_circle rs r s (n, at, inl next) = Contains-from_slice_get rs (n + 1) s next
in_circle rs r s (n, at, inr (last, first)) = Contains-from_slice_get rs 0 s first

module _ (o : Ontology) (asked : List ℕ) (w : IsOntology o) where
  form_there : (r s : ℕ) → IsForm o asked (N5 r s) → s < length o.names.properties
  form_there r s (sub_property _ _ there) = (axiom_within o w (SubProperty (r ∷ []) s) there).2
  form_there r s (same_property rs _ _ there next) = All-contains (λ q. q < length o.names.properties) rs s (axiom_within o w (EquivalentProperties rs) there).within (in_circle rs r s next)

  above_there : {p q : Property2} → IsAtOrBelow o asked p q → IsThere o p → IsThere o q
  unfolding IsThere
  above_there IsAtOrBelow.same h = h
  above_there (IsAtOrBelow.step s t below form) h = form_there s t form

  edge_there : (x y : Context) (p : Property2) → IsFact o asked (Edge x p y) → IsThere o p
  unfolding IsThere
  edge_there x y (Property r) fact = (derivable_within (fact_derivable o asked w fact).2).1
  edge_there x y (Steps rs) fact = tt

  -- the property of an edge is there
  pub property_there : (x y : Context) (r : ℕ) → HasEdge o asked x (Property r) y → r < length o.names.properties
  unfolding IsThere
  property_there x y r h = above_there h.below (edge_there x y h.property h.edge)

-- ---- edges

module _ (o : Ontology) (s : Saturated) (saturated : IsSaturated o s) (k : Known) (closed : IsClosureOf s.state.problem.forms k) (elements : List Context) where
  abbrev begun : Prefixes
  begun = prefixes_of s.normal

  abbrev asked : List ℕ
  asked = s.normal.asked

  below_o : (a b : PropId) → code_below.IsAtOrBelow k.forms (properties.Property a) (properties.Property b) → IsAtOrBelow o asked (Property a.0) (Property b.0)
  below_o a b below = below_said o s saturated a b
      ((suffice s.state.problem.forms (properties.Property a) (properties.Property b) (properties.Property a, properties.Property a)).0.0
      (subst (λ (fs : List code_form.Form). code_below.IsAtOrBelow fs (properties.Property a) (properties.Property b)) closed.same below))

  below_k : (a : PropId) (r : ℕ) → IsAtOrBelow o asked (Property a.0) (Property r) → code_below.IsAtOrBelow k.forms (properties.Property a) (properties.Property (prop_id r))
  below_k a r below =
      subst (λ (fs : List code_form.Form). code_below.IsAtOrBelow fs (properties.Property a) (properties.Property (prop_id r))) (sym closed.same)
      ((suffice s.state.problem.forms (properties.Property a) (properties.Property (prop_id r)) (properties.Property a, properties.Property a)).0.1 (below_sayer o s saturated a r below))

  -- a pair that a fact gives is an edge
  by_said : (x y : code_context.Context) (id : PropId) (p : Pair) → IsGivenBy k elements (facts.Edge x (properties.Property id) y) p
      → (g : Fact) → SaysFact begun (facts.Edge x (properties.Property id) y) g → IsFact o asked g
      → HasEdge o asked (context_of x) (Property p.property.0) (context_of y)
  by_said x y id p (at_source, at_target, (there, below)) g (edge {x' = x'} {y' = y'} {r' = q} says_x says_q says_y) fact =
      let same : Property id.0 ≡ q = said_property o s saturated id says_q in
      let first : IsFact o asked (Edge (context_of x) q y') = subst (λ (z : Context). IsFact o asked (Edge z q y')) (sym (said_context says_x)) fact in
      let second : IsFact o asked (Edge (context_of x) q (context_of y)) = subst (λ (z : Context). IsFact o asked (Edge (context_of x) q z)) (sym (said_context says_y)) first in
      record { property = q; edge = second; below = subst (λ (r : Property2). IsAtOrBelow o asked r (Property p.property.0)) same (below_o id p.property below) }

  of_fact : (p : Pair) (fact : code_fact.Fact) → Contains s.state.facts fact → IsGivenBy k elements fact p
      → (x : Context) × (y : Context) × (slice_get elements p.source ≡ Some x) × (slice_get elements p.target ≡ Some y) × HasEdge o asked x (Property p.property.0) y
  of_fact p (facts.Edge x (properties.Property id) y) there by =
      let (g, says, fact) = saturated.facts.each (facts.Edge x (properties.Property id) y) there in
      (context_of x, context_of y, by.0, by.1, by_said x y id p by g says fact)
  of_fact p (facts.Edge x (properties.Partial n) y) there by = absurd by
  of_fact p (facts.In a x) there by = absurd by

  pub edge_of_pair : (p : Pair) → IsGiven k elements s.state.facts p
      → (x : Context) × (y : Context) × (slice_get elements p.source ≡ Some x) × (slice_get elements p.target ≡ Some y) × HasEdge o asked x (Property p.property.0) y
  edge_of_pair p (fact, there, by) = of_fact p fact there by

  -- from edges to pairs: the property of an edge among the facts is known
  has_property : (x y : code_context.Context) (q : code_property.PropId2) → Contains s.state.facts (facts.Edge x q y) → Has k q
  has_property x y q there =
      let f = facts.Edge x q y in
      let (n, at) = slice_get-from_Contains s.state.facts f there in
      edges.has_property s.state.problem closed saturated.born n f at

  sayer_edge : (x y : Context) (q r m n : ℕ) → slice_get elements m ≡ Some x → slice_get elements n ≡ Some y → IsAtOrBelow o asked (Property q) (Property r)
      → (f : code_fact.Fact) → Contains s.state.facts f → SaysFact begun f (Edge x (Property q) y) → IsGivenBy k elements f (pair r m n)
  sayer_edge x y q r m n at_m at_n below f there (edge {x = x'} {y = y'} says_x (property {p = id} is) says_y) = (
    at_m ∙ ap Some (sym (said_context says_x)),
    at_n ∙ ap Some (sym (said_context says_y)),
    (
      has_property x' y' (properties.Property id) there,
      below_k id r (subst (λ z. IsAtOrBelow o asked (Property z) (Property r)) (sym is) below),
    ),
  )

  of_edge : (x y : Context) (p : Property2) (r m n : ℕ) → slice_get elements m ≡ Some x → slice_get elements n ≡ Some y → IsFact o asked (Edge x p y) → IsAtOrBelow o asked p (Property r) → IsGiven k elements s.state.facts (pair r m n)
  of_edge x y (Property q) r m n at_m at_n fact below =
      let (f, there, says) = saturated.facts.all (Edge x (Property q) y) fact in
      (f, there, sayer_edge x y q r m n at_m at_n below f there says)
  of_edge x y (Steps rs) r m n at_m at_n fact below = absurd (plain_below below tt)

  pub pair_of_edge : (x y : Context) (r m n : ℕ) → slice_get elements m ≡ Some x → slice_get elements n ≡ Some y → HasEdge o asked x (Property r) y → IsGiven k elements s.state.facts (pair r m n)
  pair_of_edge x y r m n at_m at_n h = of_edge x y h.property r m n at_m at_n h.edge h.below

  target_within : (pairs : List Pair) (rows : List Row) → ((p : Pair) → Contains pairs p ↔ IsGiven k elements s.state.facts p) → AreGrouped pairs rows → (row : Row) → Contains rows row → (z : ℕ) → Contains row.2 z → z < length elements
  target_within pairs rows are g row c z h =
      let (x, y, at_x, at_y, e) = edge_of_pair (pair row.0 row.1 z) ((are (pair row.0 row.1 z)).0 (row_has_targets pairs rows g row c z h)) in
      slice_get_within elements z y at_y

  row_within : IsOntology o → (pairs : List Pair) (rows : List Row) → ((p : Pair) → Contains pairs p ↔ IsGiven k elements s.state.facts p) → AreGrouped pairs rows
      → (row : Row) → Contains rows row → (row.0 < length o.names.properties) × (row.1 < length elements) × AreElements (length elements) row.2
  row_within w pairs rows are g row c =
      let (z, there) = row_has_pair pairs rows g row c in
      let (x, y, at_x, at_y, h) = edge_of_pair (pair row.0 row.1 z) ((are (pair row.0 row.1 z)).0 there) in
      let targets = All-contains (λ (r : Row). (0 < length r.2) × Ascends r.2) rows row g.targets c in (
        property_there o asked w x y row.0 h,
        slice_get_within elements row.1 x at_x,
        record {
          some = targets.0;
          within = λ n d l. target_within pairs rows are g row c (get_or row.2 n d) (Contains-get_or row.2 n d l);
          ascend = targets.1;
        },
      )

  -- rows of the pairs that the facts give
  pub are_rows : IsOntology o → (pairs : List Pair) (rows : List Row) → ((p : Pair) → Contains pairs p ↔ IsGiven k elements s.state.facts p) → AreGrouped pairs rows → ArePairRows o asked elements rows
  are_rows w pairs rows are g = record {
    within = λ n d l. row_within w pairs rows are g (get_or rows n d) (Contains-get_or rows n d l);
    ascend = g.ascend;
    exact = λ r m n x y at_m at_n.
        let says = listed_are pairs rows g r m n in (
          λ c.
              let (x', y', at_m', at_n', h) = edge_of_pair (pair r m n) ((are (pair r m n)).0 (says.0 c)) in
              let same_x : x' ≡ x = same_Some x' x (sym at_m' ∙ at_m) in
              let same_y : y' ≡ y = same_Some y' y (sym at_n' ∙ at_n) in
              subst₂ (λ (u v : Context). HasEdge o asked u (Property r) v) same_x same_y h,
          λ h. says.1 ((are (pair r m n)).1 (pair_of_edge x y r m n at_m at_n h)),
        );
  }
