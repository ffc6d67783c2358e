-- Contexts that are added one by one, until they are the roots.
use Rattle.std.proofs.Common.{◌≡◌, ◌↔◌, ◌⊎◌, ◌++◌, ◌∷◌, ◌+◌, ◌<◌, ◌≤◌, ℕ, inl, inr, List, [], length, map, Contains, refl, sym, ap, ◌∙◌, subst, arith}
use Rattle.std.proofs.lemmas.Bool.{cases_eq, cases_lt}
use Rattle.std.proofs.lemmas.List.Elements.{All-contains, Contains-push, Contains-push_cases, Contains-append_cases, Contains-append_left, Contains-append_right}
use Rattle.std.specs.List.{All}
use Rattle.lemmas.proofs.Mapped.{Contains-map, slice_get_map_from}
use Rattle.lemmas.proofs.Members.{Contains-from_slice_get, slice_get-from_Contains}
use Rattle.axioms.specs.Growth.{Numbers}
use Rattle.axioms.specs.Ontology.{Ontology, Class, IsClassAt}
use Rattle.axioms.specs.WellFormedness.{IsOntology}
use Rattle.axioms.specs.declared.ids.ExprId.{ExprId}
use Rattle.axioms.specs.declared.ids.IndId.{IndId}
use Rattle.facts.specs.declared.contexts.Context as code
use Rattle.facts.specs.declared.contexts.Context.TheVariants as contexts
use Rattle.closure.specs.Closure.{Context, Expression, Individual, IsRoot}
use Rattle.closure.specs.Denotations.{SaysContext, expression, individual}
use Rattle.normalise.specs.Roots.{AddsThose, AreRoots, AreRootsFrom, HasMoreNames, IsIndividualFrom, IsIndividualWithin, IsNamedFrom, IsNamedWithin}
use Rattle.normalise.proofs.Adding.{keeps_long, numbered_there}
use Rattle.normalise.proofs.Asking.{asked_more, asked_only}

-- nothing is added
pub adds_none : (P : code.Context → Type 0) (old : List code.Context) → ((x : code.Context) → P x → ⊥) → AddsThose P old old
adds_none P old none x = (λ c. inl c, λ s. elim s [ inl c ↦ c | inr p ↦ absurd (none x p) ])

-- one more, with Q, where P and Q are R
pub adds_one : (P Q : code.Context → Type 0) (old now : List code.Context) (y : code.Context) → AddsThose P old now → ((x : code.Context) → P x → Q x) → ((x : code.Context) → Q x → P x ⊎ (y ≡ x)) → Q y → AddsThose Q old (now ++ y ∷ [])
adds_one P Q old now y adds more only new x = (
  λ c. elim (Contains-push_cases now y x c) [
    | inl there ↦ elim ((adds x).0 there) [ inl o ↦ inl o | inr p ↦ inr (more x p) ]
    | inr is ↦ inr (subst Q is new)
  ],
  λ s. elim s [
    | inl o ↦ Contains-append_left now (y ∷ []) x ((adds x).1 (inl o))
    | inr q ↦ elim (only x q) [
      | inl p ↦ Contains-append_left now (y ∷ []) x ((adds x).1 (inr p))
      | inr is ↦ subst (Contains (now ++ y ∷ [])) is (Contains-push now y)
    ]
  ],
)

-- none more, with Q, where P and Q are the same
pub adds_same : (P Q : code.Context → Type 0) (old now : List code.Context) → AddsThose P old now → ((x : code.Context) → P x → Q x) → ((x : code.Context) → Q x → P x) → AddsThose Q old now
adds_same P Q old now adds more only x = (
  λ c. elim ((adds x).0 c) [ inl o ↦ inl o | inr p ↦ inr (more x p) ],
  λ s. elim s [ inl o ↦ (adds x).1 (inl o) | inr q ↦ (adds x).1 (inr (only x q)) ],
)

abbrev expr_id : ℕ → ExprId
expr_id n = record { 0 = n }

abbrev ind_id : ℕ → IndId
ind_id n = record { 0 = n }

-- a class is one expression, and its number is that of a name
one_expression : (o : Ontology) (k : ℕ) (e f : ExprId) → IsOntology o → IsClassAt o k e.0 → IsClassAt o k f.0 → e ≡ f
one_expression o k e f w at there = ap expr_id (w.distinct_nodes e.0 f.0 (Class k) at there)

class_there : (o : Ontology) → IsOntology o → (c e : ℕ) → IsClassAt o c e → c < length o.names.classes
class_there o w c e at = w.nodes e (Class c) at

-- the classes and the individuals below the next number
pub adds_class : (o : Ontology) (from k : ℕ) (e : ExprId) (old now : List code.Context) → IsOntology o → from ≤ k → IsClassAt o k e.0 → AddsThose (IsNamedWithin o from k) old now → AddsThose (IsNamedWithin o from (k + 1)) old (now ++ contexts.Expr e ∷ [])
adds_class o from k e old now w late class adds =
    adds_one (IsNamedWithin o from k) (IsNamedWithin o from (k + 1)) old now (contexts.Expr e) adds
    (λ x (c, f, m, l, at, is). (c, f, m, omega arith, at, is))
    (λ x (c, f, m, l, at, is). elim (cases_eq c k) [
      | inl same ↦ inr (ap contexts.Expr (one_expression o k e f w class (subst (λ n. IsClassAt o n f.0) same at)) ∙ sym is)
      | inr apart ↦ inl (c, f, m, omega arith, at, is)
    ])
    (k, e, late, omega arith, class, refl)

pub adds_individual : (from k : ℕ) (i : IndId) (old now : List code.Context) → i.0 ≡ k → from ≤ k → AddsThose (IsIndividualWithin from k) old now → AddsThose (IsIndividualWithin from (k + 1)) old (now ++ contexts.Individual i ∷ [])
adds_individual from k i old now number late adds =
    adds_one (IsIndividualWithin from k) (IsIndividualWithin from (k + 1)) old now (contexts.Individual i) adds
    (λ x (j, m, l, is). (j, m, omega arith, is))
    (λ x (j, m, l, is). elim (cases_eq j.0 k) [
      | inl same ↦ inr (ap contexts.Individual (ap ind_id (number ∙ sym same)) ∙ sym is)
      | inr apart ↦ inl (j, m, omega arith, is)
    ])
    (i, omega (arith, number, late), omega (arith, number), refl)

-- those up to where none is are all
pub all_classes : (o : Ontology) (from k : ℕ) (old now : List code.Context) → IsOntology o → length o.names.classes ≤ k → AddsThose (IsNamedWithin o from k) old now → AddsThose (IsNamedFrom o from) old now
all_classes o from k old now w past adds =
    adds_same (IsNamedWithin o from k) (IsNamedFrom o from) old now adds
    (λ x (c, e, m, l, at, is). (c, e, m, class_there o w c e.0 at, at, is))
    (λ x (c, e, m, l, at, is). (c, e, m, omega (arith, l, past), at, is))

pub all_individuals : (o : Ontology) (from k : ℕ) (old now : List code.Context) → length o.names.individuals ≤ k → (k ≡ from) ⊎ (k ≤ length o.names.individuals) → AddsThose (IsIndividualWithin from k) old now → AddsThose (IsIndividualFrom o from) old now
all_individuals o from k old now past within adds =
    adds_same (IsIndividualWithin from k) (IsIndividualFrom o from) old now adds
    (λ x (i, m, l, is). elim within [
      | inl none ↦ absurd (omega (arith, none, m, l))
      | inr all ↦ (i, m, omega (arith, all, l), is)
    ])
    (λ x (i, m, l, is). (i, m, omega (arith, l, past), is))

-- both behind none
pub both : (P Q : code.Context → Type 0) (first second : List code.Context) → AddsThose P [] first → AddsThose Q first second → (x : code.Context) → Contains second x ↔ (P x ⊎ Q x)
both P Q first second ps qs x = (
  λ c. elim ((qs x).0 c) [
    | inl d ↦ elim ((ps x).0 d) [ inl none ↦ absurd (omega (arith, none.1)) | inr p ↦ inl p ]
    | inr q ↦ inr q
  ],
  λ s. elim s [ inl p ↦ (qs x).1 (inl ((ps x).1 (inr p))) | inr q ↦ (qs x).1 (inr q) ],
)

-- ---- roots

abbrev IsOneOf : Ontology → List ℕ → code.Context → Type 0
IsOneOf o asked x = (y : Context) × SaysContext x y × IsRoot o asked y

named : (o : Ontology) (asked : List ℕ) (from : ℕ) (x : code.Context) → IsNamedFrom o from x → IsOneOf o asked x
named o asked from x (c, e, m, l, at, is) = (Expression e.0, subst (λ z. SaysContext z (Expression e.0)) (sym is) (expression refl), IsRoot.named c e.0 at)

is_individual : (o : Ontology) (asked : List ℕ) (from : ℕ) (x : code.Context) → IsIndividualFrom o from x → IsOneOf o asked x
is_individual o asked from x (i, m, l, is) = (Individual i.0, subst (λ z. SaysContext z (Individual i.0)) (sym is) (individual refl), IsRoot.individual i.0 l)

is_from : (o : Ontology) (asked : List ℕ) (m n : ℕ) (x : code.Context) → IsNamedFrom o m x ⊎ IsIndividualFrom o n x → IsOneOf o asked x
is_from o asked m n x s = elim s [ inl p ↦ named o asked m x p | inr p ↦ is_individual o asked n x p ]

-- these together are the roots
module _ (o : Ontology) (w : IsOntology o) (asked : List ExprId) (first second third : List code.Context) (inside : All (λ e. e.0 < length o.nodes) asked)
    (classes : AddsThose (IsNamedFrom o 0) [] first) (individuals : AddsThose (IsIndividualFrom o 0) first second) (is : third ≡ second ++ map contexts.Expr asked) where
  abbrev numbers : List ℕ
  numbers = map (λ (e : ExprId). e.0) asked

  question : (x : code.Context) → Contains (map contexts.Expr asked) x → IsOneOf o numbers x
  question x there =
      let (n, at) = slice_get-from_Contains (map contexts.Expr asked) x there in
      let (e, at_n, same) = slice_get_map_from contexts.Expr asked n x at in
      let e_there = Contains-from_slice_get asked n e at_n in (
        Expression e.0,
        subst (λ z. SaysContext z (Expression e.0)) same (expression refl),
        IsRoot.question e.0 (All-contains (λ e. e.0 < length o.nodes) asked e inside e_there) (Contains-map (λ (e : ExprId). e.0) asked e e_there),
      )

  each : (x : code.Context) → Contains third x → IsOneOf o numbers x
  each x there =
      elim (Contains-append_cases second (map contexts.Expr asked) x (subst (λ xs. Contains xs x) is there)) [
        | inl c ↦ is_from o numbers 0 0 x ((both (IsNamedFrom o 0) (IsIndividualFrom o 0) first second classes individuals x).0 c)
        | inr c ↦ question x c
      ]

  before : (x : code.Context) → Contains second x → Contains third x
  before x c = subst (λ xs. Contains xs x) (sym is) (Contains-append_left second (map contexts.Expr asked) x c)

  all : (y : Context) → IsRoot o numbers y → (x : code.Context) × Contains third x × SaysContext x y
  all y (IsRoot.named c e at) =
      let x = contexts.Expr (expr_id e) in
      (x, before x ((individuals x).1 (inl ((classes x).1 (inr (c, expr_id e, omega arith, class_there o w c e at, at, refl))))), expression refl)
  all y (IsRoot.individual a l) =
      let x = contexts.Individual (ind_id a) in
      (x, before x ((individuals x).1 (inr (ind_id a, omega arith, l, refl))), individual refl)
  all y (IsRoot.question e l there) =
      let (n, at) = slice_get-from_Contains (map (λ (e : ExprId). e.0) asked) e there in
      let (f, at_n, same) = slice_get_map_from (λ (e : ExprId). e.0) asked n e at in
      let x = contexts.Expr f in
      (x, subst (λ xs. Contains xs x) (sym is) (Contains-append_right second (map contexts.Expr asked) x (Contains-map contexts.Expr asked f (Contains-from_slice_get asked n f at_n))), expression same)

  pub are_roots : AreRoots o (map (λ (e : ExprId). e.0) asked) third
  are_roots = record { each = each; all = all }

-- behind the roots of an ontology that has become p they are those of p
module _ (p : Ontology) (wp : IsOntology p) (classes individuals : ℕ) (more : List code.Context) (those : AreRootsFrom p classes individuals more)
    (o : Ontology) (asked : List ℕ) (roots : List code.Context) (w : IsOntology o) (inside : All (λ e. e < length o.nodes) asked) (grows : HasMoreNames o p classes individuals) (are : AreRoots o asked roots) where
  root_stays : (y : Context) → IsRoot o asked y → IsRoot p asked y
  root_stays y (IsRoot.named c e at) = IsRoot.named c e (grows.nodes e (Class c) at)
  root_stays y (IsRoot.individual a l) = IsRoot.individual a (omega (arith, l, keeps_long o.names.individuals p.names.individuals grows.names.individuals))
  root_stays y (IsRoot.question e l there) = IsRoot.question e (omega (arith, l, keeps_long o.nodes p.nodes grows.nodes)) there

  old_or_new : (x : code.Context) → Contains (roots ++ more) x → IsOneOf p asked x
  old_or_new x there =
      elim (Contains-append_cases roots more x there) [
        | inl c ↦ (let (y, says, root) = are.each x c in (y, says, root_stays y root))
        | inr c ↦ is_from p asked classes individuals x ((those x).0 c)
      ]

  from_old : (y : Context) → IsRoot o asked y → (x : code.Context) × Contains (roots ++ more) x × SaysContext x y
  from_old y root = let (x, there, says) = are.all y root in (x, Contains-append_left roots more x there, says)

  from_new : (x : code.Context) (y : Context) → IsNamedFrom p classes x ⊎ IsIndividualFrom p individuals x → SaysContext x y → (x : code.Context) × Contains (roots ++ more) x × SaysContext x y
  from_new x y new says = (x, Contains-append_right roots more x ((those x).1 new), says)

  -- a class that the old ontology has is the same expression there
  old_class : (c e : ℕ) → IsClassAt p c e → c < length o.names.classes → IsClassAt o c e
  old_class c e at l =
      let (f, was) = w.class_nodes c l in
      subst (IsClassAt o c) (wp.distinct_nodes f e (Class c) (grows.nodes f (Class c) was) at) was

  each_there : (y : Context) → IsRoot p asked y → (x : code.Context) × Contains (roots ++ more) x × SaysContext x y
  each_there y (IsRoot.named c e at) = elim (cases_lt c classes) [
    | inl was ↦ from_old y (IsRoot.named c e (old_class c e at (omega (arith, was, grows.new_classes))))
    | inr new ↦ from_new (contexts.Expr (expr_id e)) y (inl (c, expr_id e, new, class_there p wp c e at, at, refl)) (expression refl)
  ]
  each_there y (IsRoot.individual a l) = elim (cases_lt a individuals) [
    | inl was ↦ from_old y (IsRoot.individual a (omega (arith, was, grows.new_individuals)))
    | inr new ↦ from_new (contexts.Individual (ind_id a)) y (inr (ind_id a, new, l, refl)) (individual refl)
  ]
  each_there y (IsRoot.question e l there) = from_old y (IsRoot.question e (All-contains (λ e. e < length o.nodes) asked e inside there) there)

  pub roots_again : AreRoots p asked (roots ++ more)
  roots_again = record { each = old_or_new; all = each_there }

-- behind the roots of an ontology the context of one more expression makes them those with this asked about too
module _ (p : Ontology) (asked later : List ℕ) (roots : List code.Context) (e : ExprId) (n : ℕ)
    (are : AreRoots p asked roots) (numbers : Numbers asked e.0 later n) (low : e.0 < length p.nodes) where
  abbrev with_it : List code.Context
  with_it = roots ++ contexts.Expr e ∷ []

  still_root : (y : Context) → IsRoot p asked y → IsRoot p later y
  still_root y (IsRoot.named c d at) = IsRoot.named c d at
  still_root y (IsRoot.individual a l) = IsRoot.individual a l
  still_root y (IsRoot.question d l there) = IsRoot.question d l (asked_more asked later e.0 n numbers d there)

  each_with_it : (x : code.Context) → Contains with_it x → IsOneOf p later x
  each_with_it x there =
      elim (Contains-push_cases roots (contexts.Expr e) x there) [
        | inl c ↦ (let (y, says, root) = are.each x c in (y, says, still_root y root))
        | inr is ↦ (Expression e.0, subst (λ z. SaysContext z (Expression e.0)) is (expression refl), IsRoot.question e.0 low (Contains-from_slice_get later n e.0 (numbered_there asked e.0 later n numbers)))
      ]

  root_before : (y : Context) → IsRoot p asked y → (x : code.Context) × Contains with_it x × SaysContext x y
  root_before y root = let (x, there, says) = are.all y root in (x, Contains-append_left roots (contexts.Expr e ∷ []) x there, says)

  all_with_it : (y : Context) → IsRoot p later y → (x : code.Context) × Contains with_it x × SaysContext x y
  all_with_it y (IsRoot.named c d at) = root_before y (IsRoot.named c d at)
  all_with_it y (IsRoot.individual a l) = root_before y (IsRoot.individual a l)
  all_with_it y (IsRoot.question d l there) = elim (asked_only asked later e.0 n numbers d there) [
    | inl was ↦ root_before y (IsRoot.question d l was)
    | inr is ↦ (contexts.Expr e, Contains-push roots (contexts.Expr e), expression is)
  ]

  pub roots_with_it : AreRoots p later (roots ++ contexts.Expr e ∷ [])
  roots_with_it = record { each = each_with_it; all = all_with_it }
