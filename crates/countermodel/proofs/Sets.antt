-- What a set of contexts holds after one more was put into it.
use Rattle.std.proofs.Common.{◌≡◌, ◌↔◌, ℕ, ◌+◌, ◌<◌, ◌≤◌, ◌⊎◌, inl, inr, Bool, true, false, not, ◌&&◌, List, length, replicate, slice_get, get_or, Some, Contains, refl, sym, ap, ◌∙◌, subst, arith, below_more}
use Rattle.std.proofs.lemmas.List.{length-set}
use Rattle.std.proofs.lemmas.Option.{same_Some, slice_get-get_or, slice_get_within}
use Rattle.lemmas.proofs.Members.{Contains-from_slice_get, slice_get-from_Contains}
use Rattle.axioms.specs.Ontology.{Ontology}
use Rattle.axioms.specs.declared.ids.ExprId.{ExprId}
use Rattle.facts.specs.declared.contexts.Context as code
use Rattle.facts.specs.declared.contexts.Context.TheVariants.{Expr, Individual as Individual2}
use Rattle.facts.specs.declared.contexts.Fact.{Fact}
use Rattle.facts.specs.declared.contexts.Fact.TheVariants.{In}
use Rattle.normal_forms.specs.declared.forms.Class2.TheVariants as classes
use Rattle.closure.specs.Closure.{Context, Expression, Individual}
use Rattle.number_sets.proofs.Members.{has_none, has_set_same, has_set_grows, has_set_cases}
use Rattle.countermodel.specs.declared.context_set.ContextSet.{ContextSet}
use Rattle.closure.specs.Denotations.{context_of}
use Rattle.countermodel.specs.Sets.{admits, holds, with_context, HasRoom, IsWithin}

put_room : (o : Ontology) (s : ContextSet) (x : code.Context) → HasRoom o s → HasRoom o (with_context s x)
put_room o s (Expr e) r = record { expressions = length-set s.expressions e.0 true ∙ r.expressions; individuals = r.individuals }
put_room o s (Individual2 a) r = record { expressions = r.expressions; individuals = length-set s.individuals a.0 true ∙ r.individuals }

put_here : (o : Ontology) (s : ContextSet) (x : code.Context) → HasRoom o s → IsWithin o (context_of x) → holds (with_context s x) (context_of x) ≡ true
put_here o s (Expr e) r l = has_set_same s.expressions e.0 (omega (arith, l, r.expressions))
put_here o s (Individual2 a) r l = has_set_same s.individuals a.0 (omega (arith, l, r.individuals))

put_grows : (s : ContextSet) (x y : code.Context) → holds s (context_of y) ≡ true → holds (with_context s x) (context_of y) ≡ true
put_grows s (Expr e) (Expr f) h = has_set_grows s.expressions e.0 f.0 h
put_grows s (Expr e) (Individual2 b) h = h
put_grows s (Individual2 a) (Expr f) h = h
put_grows s (Individual2 a) (Individual2 b) h = has_set_grows s.individuals a.0 b.0 h

put_cases : (s : ContextSet) (x y : code.Context) → holds (with_context s x) (context_of y) ≡ true → (y ≡ x) ⊎ (holds s (context_of y) ≡ true)
put_cases s (Expr e) (Expr f) h = elim (has_set_cases s.expressions e.0 f.0 h) [ inl same ↦ inl (ap (λ n. Expr (record { 0 = n })) same) | inr old ↦ inr old ]
put_cases s (Expr e) (Individual2 b) h = inr h
put_cases s (Individual2 a) (Expr f) h = inr h
put_cases s (Individual2 a) (Individual2 b) h = elim (has_set_cases s.individuals a.0 b.0 h) [ inl same ↦ inl (ap (λ n. Individual2 (record { 0 = n })) same) | inr old ↦ inr old ]

abbrev pub no_contexts : ℕ → ℕ → ContextSet
no_contexts m n = record { expressions = replicate m false; individuals = replicate n false }

and_yes : (a b : Bool) → b ≡ false → (a && not b) ≡ a
and_yes true b off = ap not off
and_yes false b off = refl

-- where no context has owl:Nothing, those that are admitted are all
pub admits_only : (s none : ContextSet) → none ≡ no_contexts 0 0 → (x : Context) → admits (record { things = s; nothings = none }) x ≡ holds s x
admits_only s none is x = and_yes (holds s x) (holds none x) (ap (λ (t : ContextSet). holds t x) is ∙ never x)
  where
    never : (x : Context) → holds (no_contexts 0 0) x ≡ false
    never (Expression e) = has_none 0 e
    never (Individual a) = has_none 0 a

context_in : Fact → code.Context → code.Context
context_in (In a x) d = x
context_in _ d = d

same_context : (class : ExprId) (x y : code.Context) → In (classes.Expr class) x ≡ In (classes.Expr class) y → x ≡ y
unfolding context_in
same_context class x y e = ap (λ f. context_in f x) e

-- the set has contexts of which a fact puts the class there, and of the first k facts all
pub record HasMarked (o : Ontology) (facts : List Fact) (class : ExprId) (k : ℕ) (s : ContextSet) : Type 0 where
  pub room : HasRoom o s
  pub only : (x : code.Context) → holds s (context_of x) ≡ true → Contains facts (In (classes.Expr class) x)
  pub each : (n : ℕ) → n < k → (x : code.Context) → slice_get facts n ≡ Some (In (classes.Expr class) x) → holds s (context_of x) ≡ true

module _ (o : Ontology) (facts : List Fact) (class : ExprId) where
  pub one_marked : (k : ℕ) (d : Fact) (s : ContextSet) (x : code.Context) → k < length facts → ((x : code.Context) → Contains facts (In (classes.Expr class) x) → IsWithin o (context_of x))
      → get_or facts k d ≡ In (classes.Expr class) x → HasMarked o facts class k s → HasMarked o facts class (k + 1) (with_context s x)
  one_marked k d s x low within is m =
      let at : slice_get facts k ≡ Some (In (classes.Expr class) x) = slice_get-get_or facts k d low ∙ ap Some is in
      let there : Contains facts (In (classes.Expr class) x) = Contains-from_slice_get facts k (In (classes.Expr class) x) at in
      record {
        room = put_room o s x m.room;
        only = λ y h. elim (put_cases s x y h) [ inl same ↦ subst (λ z. Contains facts (In (classes.Expr class) z)) (sym same) there | inr old ↦ m.only y old ];
        each = below_more (λ n. (y : code.Context) → slice_get facts n ≡ Some (In (classes.Expr class) y) → holds (with_context s x) (context_of y) ≡ true) k
            (λ n l y here. put_grows s x y (m.each n l y here))
            (λ y here. (let same : x ≡ y = same_context class x y (same_Some _ _ (sym at ∙ here)) in subst (λ z. holds (with_context s x) (context_of z) ≡ true) same (put_here o s x m.room (within x there))));
      }

  pub other_marked : (k : ℕ) (d : Fact) (s : ContextSet) → k < length facts → ((x : code.Context) → get_or facts k d ≡ In (classes.Expr class) x → ⊥)
      → HasMarked o facts class k s → HasMarked o facts class (k + 1) s
  other_marked k d s low other m = record {
    room = m.room;
    only = m.only;
    each = below_more (λ n. (y : code.Context) → slice_get facts n ≡ Some (In (classes.Expr class) y) → holds s (context_of y) ≡ true) k
        m.each
        (λ y there. absurd (other y (same_Some (get_or facts k d) (In (classes.Expr class) y) (sym (slice_get-get_or facts k d low) ∙ there))));
  }

  pub all_marked : (k : ℕ) (s : ContextSet) → length facts ≤ k → HasMarked o facts class k s → (x : code.Context) → (holds s (context_of x) ≡ true) ↔ Contains facts (In (classes.Expr class) x)
  all_marked k s all m x = (
    m.only x,
    λ c. (let p = slice_get-from_Contains facts (In (classes.Expr class) x) c in m.each p.0 (omega (arith, all, slice_get_within facts p.0 _ p.1)) x p.1),
  )
