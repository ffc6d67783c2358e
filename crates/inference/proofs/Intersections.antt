-- What intersections give from the classes in a context.
use Rattle.std.proofs.Common.{◌≡◌, ⊎_elim, ℕ, List, [], ◌∷◌, slice_get, Some, Contains, inl, inr, refl, sym, ap, ap₂, subst}
use Rattle.normal_forms.specs.declared.forms.Form.{Form}
use Rattle.normal_forms.specs.declared.forms.Form.TheVariants.{N1, N2, N3, N4, N5, N6, N7, N8, N9, N10, N12}
use Rattle.normal_forms.specs.declared.forms.Class2.{Class2}
use Rattle.facts.specs.declared.contexts.Context.{Context}
use Rattle.facts.specs.declared.contexts.Fact.{Fact}
use Rattle.facts.specs.declared.contexts.Fact.TheVariants.{In, Edge}
use Rattle.facts.specs.Closure.{Problem, AreDisjointAt, FromTwo, Gives, nothing, in_thing, in_itself, by_form, unsatisfiable, loop, apart}
use Rattle.indexes.specs.declared.apart.Apart.{Apart}
use Rattle.indexes.specs.Apart.{AreApart, IsApart}
use Rattle.indexes.specs.FormsUnderKeys.{IsUnder}
use Rattle.indexes.specs.Keys.{by_first, by_second, class_key}
use Rattle.inference.specs.Derivations.{Derived, Grows}
use Rattle.inference.specs.Visits.{IsClassFact}
use Rattle.inference.specs.Completeness.{Drawn, IsDrawnIn, MeetsOperands, MeetEachOther, DrawnUpToRedundancy}
use Rattle.inference.proofs.Drawing.{drawn_at_still}
use Rattle.inference.proofs.Giving.{first_operand, second_operand}
use Rattle.inference.proofs.Growth.{there_still}

-- a form that gives something from two classes is their intersection, in one context
pub intersection : (k : Problem) (form : Form) (a b : Class2) (x y : Context) (h : Fact) → FromTwo k form (In a x) (In b y) h → (c : Class2) × (form ≡ N2 a b c) × (x ≡ y)
intersection k (N1 _ _) a b x y h w = absurd w
intersection k (N2 p q c) a b x y h w = (c, ap₂ (λ s t. N2 s t c) (sym w.0) (sym w.1), w.2)
intersection k (N3 _ _ _) a b x y h w = absurd w
intersection k (N4 _ _ _) a b x y h w = absurd w
intersection k (N5 _ _) a b x y h w = absurd w
intersection k (N6 _ _ _) a b x y h w = absurd w
intersection k (N7 _) a b x y h w = absurd w
intersection k (N8 _ _) a b x y h w = absurd w
intersection k (N9 _ _ _) a b x y h w = absurd w
intersection k (N10 _ _) a b x y h w = absurd w
intersection k (N12 _ _ _) a b x y h w = absurd w

-- what is there stays, and what was there earlier is asked for alone
pub drawn_in_still : {k : Problem} {most : ℕ} {a b : Derived} → Grows k most a b → (old : List Fact) (x : Context) (n : ℕ) → IsDrawnIn k old x a.facts n → IsDrawnIn k old x b.facts n
drawn_in_still s old x n drawn c d inc ind = drawn_at_still s _ _ n (drawn c d inc ind)

pub drawn_in_earlier : {k : Problem} {most : ℕ} {a b : Derived} → Grows k most a b → (new : List Fact) (x : Context) (n : ℕ) → IsDrawnIn k b.facts x new n → IsDrawnIn k a.facts x new n
drawn_in_earlier s new x n drawn c d inc ind = drawn c d (there_still s _ inc) (there_still s _ ind)

pub operands_met_still : {k : Problem} {most : ℕ} {a b : Derived} → Grows k most a b → (old : List Fact) (firsts seconds : List ℕ) (x : Context) → MeetsOperands k old firsts seconds x a.facts → MeetsOperands k old firsts seconds x b.facts
operands_met_still s old firsts seconds x met = record {
  first = λ n there. drawn_in_still s old x n (met.first n there);
  second = λ n there. drawn_in_still s old x n (met.second n there);
}

-- two classes give nothing but by intersections and by lists of disjoint classes
pub by_intersections : (k : Problem) (a b : Class2) (x y : Context) (new : Derived) → ((n : ℕ) (form : Form) (h : Fact) → slice_get k.forms n ≡ Some form → FromTwo k form (In a x) (In b y) h → Contains new.facts h)
    → ((l : ℕ) → AreDisjointAt k l a b → x ≡ y → Contains new.facts (In nothing x)) → DrawnUpToRedundancy k (In a x ∷ In b y ∷ []) new
by_intersections k a b x y new forms lists _ _ h (in_thing c) = absurd c
by_intersections k a b x y new forms lists _ _ h (in_itself c) = absurd c
by_intersections k a b x y new forms lists _ _ h (by_form n form at gives) = inl (forms n form h at gives)
by_intersections k a b x y new forms lists _ _ h (unsatisfiable b') = absurd b'
by_intersections k a b x y new forms lists _ _ h (loop z n form at l c) = absurd c
by_intersections k _ _ _ _ new forms lists _ _ _ (apart l a b x w) = inl (lists l w refl)

-- so a class has met another where it has met its operands, and where owl:Nothing is in the context if the two are apart
pub met_by_operands : (k : Problem) (old : List Fact) (a : Class2) (x : Context) (g : Fact) (new : Derived) (firsts seconds : List ℕ) (beside : Apart) → IsClassFact g → Contains old (In a x) → Contains old g
    → ((n : ℕ) → IsUnder by_first k.forms (class_key a) n → Contains firsts n) → ((n : ℕ) → IsUnder by_second k.forms (class_key a) n → Contains seconds n) → ((b : Class2) → AreApart k a b → IsApart beside b)
    → MeetsOperands k old firsts seconds x new.facts → ((b : Class2) → g ≡ In b x → IsApart beside b → Contains new.facts (In nothing x)) → MeetEachOther k (In a x) g new
met_by_operands k old a x (In b y) new firsts seconds beside is ina inb begin end all met parted = record {
  first = by_intersections k a b x y new
      (λ n form h at w.
      let same = (intersection k form a b x y h w).2 in
      met.first n (begin n (form, at, first_operand k form a b x y h w)) a b ina (subst (λ z. Contains old (In b z)) (sym same) inb) form at h (subst (λ z. FromTwo k form (In a x) (In b z) h) (sym same) w))
      (λ l w same. parted b (ap (λ z. In b z) (sym same)) (all b (l, inl w)));
  second = by_intersections k b a y x new
      (λ n form h at w.
      let same = (intersection k form b a y x h w).2 in
      met.second n (end n (form, at, second_operand k form b a y x h w)) b a (subst (λ z. Contains old (In b z)) same inb) ina form at h (subst (λ z. FromTwo k form (In b z) (In a x) h) same w))
      (λ l w same. subst (λ z. Contains new.facts (In nothing z)) (sym same) (parted b (ap (λ z. In b z) same) (all b (l, inr w))));
}
met_by_operands k old a x (Edge y r z) new firsts seconds beside is ina inb begin end all met parted = absurd is

-- owl:Nothing is where both orders of two classes that are apart are drawn
pub nothing_drawn : (k : Problem) (a b : Class2) (x : Context) (facts : List Fact) → AreApart k a b → Drawn k (In a x ∷ In b x ∷ []) facts → Drawn k (In b x ∷ In a x ∷ []) facts → Contains facts (In nothing x)
nothing_drawn k a b x facts w one other = ⊎_elim
    (λ at. one 14 (Some w.0) (In nothing x) (Gives.apart w.0 a b x at))
    (λ at. other 14 (Some w.0) (In nothing x) (Gives.apart w.0 b a x at))
    w.1
