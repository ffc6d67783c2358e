-- Lists of contexts in their order, and tables of their places.
use Rattle.std.proofs.Common.{◌≡◌, ◌↔◌, ℕ, ◌+◌, ◌<◌, ◌⊎◌, inl, inr, List, [], ◌∷◌, ◌++◌, length, slice_get, get_or, Some, refl, sym, ap, ◌∙◌, subst, subst₂, arith}
use Rattle.std.proofs.lemmas.Bool.{cases_eq}
use Rattle.std.proofs.lemmas.List.{map-append, length-append}
use Rattle.std.proofs.lemmas.List.Quantifiers.{all_pairs_push}
use Rattle.std.proofs.lemmas.Option.{none-some, slice_get-get_or}
use Rattle.lemmas.proofs.Mapped.{slice_get_map, slice_get_map_from}
use Rattle.lemmas.proofs.Places.{slice_get_push, slice_get_push_cases, keeps_push}
use Rattle.axioms.specs.Ontology.{Ontology}
use Rattle.axioms.specs.declared.ids.ExprId.{ExprId}
use Rattle.axioms.specs.declared.ids.IndId.{IndId}
use Rattle.facts.specs.declared.contexts.Context as code
use Rattle.facts.specs.declared.contexts.Context.TheVariants.{Expr, Individual as Individual2}
use Rattle.closure.specs.Closure.{Context, Expression, Individual}
use Rattle.exactness.specs.ListedInterpretation.{IsBefore, IsSatisfiable, Leads, AreSatisfiableContexts}
use Rattle.closure.specs.Denotations.{context_of}
use Rattle.countermodel.specs.Elements.{contexts_of}
use Rattle.countermodel.specs.ContextLists.{AreAll, AreBefore, PlacesExpressions, PlacesIndividuals, place_in}

-- ---- contexts of the code and of the definitions

pub same_code : (x y : code.Context) → context_of x ≡ context_of y → x ≡ y
same_code (Expr e) (Expr f) h = ap (λ n. Expr (record { 0 = n })) (cc)
same_code (Expr e) (Individual2 b) h = absurd (cc)
same_code (Individual2 a) (Expr f) h = absurd (cc)
same_code (Individual2 a) (Individual2 b) h = ap (λ n. Individual2 (record { 0 = n })) (cc)

pub code_at : (xs : List code.Context) (m : ℕ) (x : code.Context) → slice_get (contexts_of xs) m ≡ Some (context_of x) → slice_get xs m ≡ Some x
code_at xs m x h =
    let (y, at, same) = slice_get_map_from context_of xs m (context_of x) h in
    at ∙ ap Some (same_code y x same)

-- ---- one number more

-- what is before c is b or before it
abbrev IsNext : Context → Context → Type 0
IsNext b c = (x : Context) → IsBefore x c ↔ (IsBefore x b ⊎ (x ≡ b))

next_expression : (e : ℕ) → IsNext (Expression e) (Expression (e + 1))
next_expression e (Expression f) = (λ l. elim (cases_eq f e) [ inl same ↦ inr (ap Expression same) | inr other ↦ inl (omega arith) ], λ h. elim h [ inl l ↦ omega arith | inr same ↦ (let k : f ≡ e = cc in omega arith) ])
next_expression e (Individual a) = (λ l. inl l, λ h. elim h [ inl l ↦ l | inr same ↦ cc ])

next_individual : (a : ℕ) → IsNext (Individual a) (Individual (a + 1))
next_individual a (Expression f) = (λ l. inl l, λ h. tt)
next_individual a (Individual b) = (λ l. elim (cases_eq b a) [ inl same ↦ inr (ap Individual same) | inr other ↦ inl (omega arith) ], λ h. elim h [ inl l ↦ omega arith | inr same ↦ (let k : b ≡ a = cc in omega arith) ])

module _ (P : Context → Type 0) where
  none_before : AreBefore P (Expression 0) []
  none_before = record {
    ascend = λ m n d l k. absurd (omega arith);
    before = λ m x h. absurd (none-some x h);
    pass = λ m x h. absurd (none-some x h);
    all = λ x. go x;
  }
    where
      go : (x : Context) → P x → IsBefore x (Expression 0) → (m : ℕ) × (slice_get [] m ≡ Some x)
      go (Expression e) t l = absurd (omega arith)
      go (Individual a) t l = absurd l

  module _ (b c : Context) (next : IsNext b c) (xs : List Context) (are : AreBefore P b xs) where
    skipped : (P b → ⊥) → AreBefore P c xs
    skipped fails = record {
      ascend = are.ascend;
      before = λ m x h. (next x).1 (inl (are.before m x h));
      pass = are.pass;
      all = λ x t l. elim ((next x).0 l) [ inl k ↦ are.all x t k | inr same ↦ absurd (fails (subst P same t)) ];
    }

    added : P b → AreBefore P c (xs ++ b ∷ [])
    added passes = record {
      ascend = all_pairs_push IsBefore xs b are.ascend (λ k d l. are.before k (get_or xs k d) (slice_get-get_or xs k d l));
      before = λ m x h. (next x).1 (elim (slice_get_push_cases xs b m x h) [ inl k ↦ inl (are.before m x k) | inr k ↦ inr (sym k.1) ]);
      pass = λ m x h. elim (slice_get_push_cases xs b m x h) [ inl k ↦ are.pass m x k | inr k ↦ subst P k.1 passes ];
      all = λ x t l. elim ((next x).0 l) [
        | inl k ↦ (let p = are.all x t k in (p.0, keeps_push xs b p.0 x p.1))
        | inr same ↦ (length xs, slice_get_push xs b ∙ ap Some (sym same))
      ];
    }

-- ---- loops

-- after so many expressions
pub record HasListed (P : Context → Type 0) (number : ℕ) (xs : List code.Context) (places : List ℕ) : Type 0 where
  pub listed : AreBefore P (Expression number) (contexts_of xs)
  pub placed : PlacesExpressions xs places
  pub long : length places ≡ number

-- after so many individuals, behind the expressions that were listed before
pub record HasListedMore (P : Context → Type 0) (before : List code.Context) (number : ℕ) (xs : List code.Context) (places : List ℕ) : Type 0 where
  pub listed : AreBefore P (Individual number) (contexts_of xs)
  pub placed : PlacesIndividuals xs places
  pub kept : (table : List ℕ) → PlacesExpressions before table → PlacesExpressions xs table
  pub long : length places ≡ number

pushed_contexts : (xs : List code.Context) (x : code.Context) → contexts_of (xs ++ x ∷ []) ≡ contexts_of xs ++ context_of x ∷ []
pushed_contexts xs x = map-append context_of xs (x ∷ [])

module _ (P : Context → Type 0) (number : ℕ) (xs : List code.Context) (places : List ℕ) where
  pub none_listed : HasListed P 0 [] []
  none_listed = record { listed = none_before P; placed = λ m e h. absurd (none-some _ h); long = refl }

  place_expression : (id : ExprId) → id.0 ≡ number → PlacesExpressions xs places → length places ≡ number → PlacesExpressions (xs ++ Expr id ∷ []) (places ++ length xs ∷ [])
  place_expression id is placed long m e h = elim (slice_get_push_cases xs (Expr id) m (Expr e) h) [
    | inl k ↦ keeps_push places (length xs) e.0 m (placed m e k)
    | inr k ↦
        let same : id.0 ≡ e.0 = cc in
        let here : length places ≡ e.0 = long ∙ (sym is ∙ same) in
        subst₂ (λ p q. slice_get (places ++ length xs ∷ []) p ≡ Some q) here (sym k.0) (slice_get_push places (length xs))
  ]

  pub listed_more : (id : ExprId) → id.0 ≡ number → P (Expression id.0) → HasListed P number xs places → HasListed P (number + 1) (xs ++ Expr id ∷ []) (places ++ length xs ∷ [])
  listed_more id is passes was =
      let at : AreBefore P (Expression (number + 1)) (contexts_of xs ++ Expression id.0 ∷ []) =
      added P (Expression id.0) (Expression (number + 1)) (subst (λ n. IsNext (Expression id.0) (Expression (n + 1))) is (next_expression id.0)) (contexts_of xs) (subst (λ n. AreBefore P (Expression n) (contexts_of xs)) (sym is) was.listed) passes in
      record {
        listed = subst (AreBefore P (Expression (number + 1))) (sym (pushed_contexts xs (Expr id))) at;
        placed = place_expression id is was.placed was.long;
        long = omega (arith, length-append places (length xs ∷ []), was.long);
      }

  pub listed_same : (P (Expression number) → ⊥) → HasListed P number xs places → HasListed P (number + 1) xs (places ++ length xs ∷ [])
  listed_same fails was = record {
    listed = skipped P (Expression number) (Expression (number + 1)) (next_expression number) (contexts_of xs) was.listed fails;
    placed = λ m e h. keeps_push places (length xs) e.0 m (was.placed m e h);
    long = omega (arith, length-append places (length xs ∷ []), was.long);
  }

  place_individual : (id : IndId) → id.0 ≡ number → PlacesIndividuals xs places → length places ≡ number → PlacesIndividuals (xs ++ Individual2 id ∷ []) (places ++ length xs ∷ [])
  place_individual id is placed long m e h = elim (slice_get_push_cases xs (Individual2 id) m (Individual2 e) h) [
    | inl k ↦ keeps_push places (length xs) e.0 m (placed m e k)
    | inr k ↦
        let same : id.0 ≡ e.0 = cc in
        let here : length places ≡ e.0 = long ∙ (sym is ∙ same) in
        subst₂ (λ p q. slice_get (places ++ length xs ∷ []) p ≡ Some q) here (sym k.0) (slice_get_push places (length xs))
  ]

  keep_expressions : (id : IndId) (table : List ℕ) → PlacesExpressions xs table → PlacesExpressions (xs ++ Individual2 id ∷ []) table
  keep_expressions id table placed m e h = elim (slice_get_push_cases xs (Individual2 id) m (Expr e) h) [ inl k ↦ placed m e k | inr k ↦ absurd (cc) ]

  module _ (before : List code.Context) where
    pub none_listed_more : AreBefore P (Individual 0) (contexts_of before) → ((m : ℕ) (a : IndId) → slice_get before m ≡ Some (Individual2 a) → ⊥) → HasListedMore P before 0 before []
    none_listed_more are never = record { listed = are; placed = λ m a h. absurd (never m a h); kept = λ table h. h; long = refl }

    pub individual_more : (id : IndId) → id.0 ≡ number → P (Individual id.0) → HasListedMore P before number xs places → HasListedMore P before (number + 1) (xs ++ Individual2 id ∷ []) (places ++ length xs ∷ [])
    individual_more id is passes was =
        let at : AreBefore P (Individual (number + 1)) (contexts_of xs ++ Individual id.0 ∷ []) =
        added P (Individual id.0) (Individual (number + 1)) (subst (λ n. IsNext (Individual id.0) (Individual (n + 1))) is (next_individual id.0)) (contexts_of xs) (subst (λ n. AreBefore P (Individual n) (contexts_of xs)) (sym is) was.listed) passes in
        record {
          listed = subst (AreBefore P (Individual (number + 1))) (sym (pushed_contexts xs (Individual2 id))) at;
          placed = place_individual id is was.placed was.long;
          kept = λ table h. keep_expressions id table (was.kept table h);
          long = omega (arith, length-append places (length xs ∷ []), was.long);
        }

    pub individual_same : (P (Individual number) → ⊥) → HasListedMore P before number xs places → HasListedMore P before (number + 1) xs (places ++ length xs ∷ [])
    individual_same fails was = record {
      listed = skipped P (Individual number) (Individual (number + 1)) (next_individual number) (contexts_of xs) was.listed fails;
      placed = λ m e h. keeps_push places (length xs) e.0 m (was.placed m e h);
      kept = was.kept;
      long = omega (arith, length-append places (length xs ∷ []), was.long);
    }

-- before the first individual is none
pub no_individual : (P : Context → Type 0) (xs : List code.Context) → AreBefore P (Individual 0) (contexts_of xs) → (m : ℕ) (a : IndId) → slice_get xs m ≡ Some (Individual2 a) → ⊥
no_individual P xs are m a h =
    let l : a.0 < 0 = are.before m (Individual a.0) (slice_get_map context_of xs m (Individual2 a) h) in
    omega arith

-- after all expressions, where of expressions the second says the same
pub expressions_done : (P Q : Context → Type 0) (n : ℕ) (xs : List Context) → AreBefore P (Expression n) xs → ((e : ℕ) → P (Expression e) ↔ Q (Expression e)) → ((e : ℕ) → P (Expression e) → e < n) → AreBefore Q (Individual 0) xs
expressions_done P Q n xs are same within = record {
  ascend = are.ascend;
  before = λ m x h. later x (are.before m x h);
  pass = λ m x h. passes x (are.before m x h) (are.pass m x h);
  all = λ x q l. all x q l;
}
  where
    later : (x : Context) → IsBefore x (Expression n) → IsBefore x (Individual 0)
    later (Expression e) l = tt
    later (Individual a) l = absurd l

    passes : (x : Context) → IsBefore x (Expression n) → P x → Q x
    passes (Expression e) l p = (same e).0 p
    passes (Individual a) l p = absurd l

    all : (x : Context) → Q x → IsBefore x (Individual 0) → (m : ℕ) × (slice_get xs m ≡ Some x)
    all (Expression e) q l = let p = (same e).1 q in are.all (Expression e) p (within e p)
    all (Individual a) q l = absurd (omega arith)

-- after all individuals
pub all_done : (P : Context → Type 0) (n : ℕ) (xs : List Context) → AreBefore P (Individual n) xs → ((a : ℕ) → P (Individual a) → a < n) → AreAll P xs
all_done P n xs are within = record { ascend = are.ascend; pass = are.pass; all = λ x p. are.all x p (earlier x p) }
  where
    earlier : (x : Context) → P x → IsBefore x (Individual n)
    earlier (Expression e) p = tt
    earlier (Individual a) p = within a p

pub all_same : (P Q : Context → Type 0) (xs : List Context) → ((x : Context) → P x ↔ Q x) → AreAll P xs → AreAll Q xs
all_same P Q xs is are = record { ascend = are.ascend; pass = λ m x h. (is x).0 (are.pass m x h); all = λ x q. are.all x ((is x).1 q) }

pub are_satisfiable : (P : Context → Type 0) (xs : List Context) (o : Ontology) (asked : List ℕ) → AreAll P xs → ((x : Context) → P x ↔ (IsSatisfiable o asked x × Leads o asked x)) → AreSatisfiableContexts o asked xs
are_satisfiable P xs o asked are is = record {
  ascend = are.ascend;
  satisfiable = λ m x h. ((is x).0 (are.pass m x h)).0;
  leads = λ m x h. ((is x).0 (are.pass m x h)).1;
  listed = λ x s l. are.all x ((is x).1 (s, l));
}

pub contexts_done : (P : Context → Type 0) (n : ℕ) (xs : List Context) (o : Ontology) (asked : List ℕ) → AreBefore P (Individual n) xs → ((x : Context) → P x ↔ (IsSatisfiable o asked x × Leads o asked x)) → ((a : ℕ) → P (Individual a) → a < n) → AreSatisfiableContexts o asked xs
contexts_done P n xs o asked are is within = are_satisfiable P xs o asked (all_done P n xs are within) is

-- ---- what the tables say

module _ (xs : List code.Context) (expressions individuals : List ℕ) (by_expression : PlacesExpressions xs expressions) (by_individual : PlacesIndividuals xs individuals) where
  placed_at : (m : ℕ) (x : code.Context) → slice_get xs m ≡ Some x → place_in expressions individuals x ≡ Some m
  placed_at m (Expr e) h = by_expression m e h
  placed_at m (Individual2 a) h = by_individual m a h

  -- a context that does not stand where the tables put it stands nowhere
  pub nowhere : (now : List Context) (x : code.Context) → now ≡ contexts_of xs → ((m : ℕ) → place_in expressions individuals x ≡ Some m → slice_get xs m ≡ Some x → ⊥) → (m : ℕ) → slice_get now m ≡ Some (context_of x) → ⊥
  nowhere now x is never m h =
      let at : slice_get xs m ≡ Some x = code_at xs m x (subst (λ ys. slice_get ys m ≡ Some (context_of x)) is h) in
      never m (placed_at m x at) at
