-- Entries of contexts, and the loops that are drawn when they are served.
use Rattle.std.proofs.Common.{◌≡◌, ℕ, ◌<◌, inl, inr, ⊎_elim, List, length, take, slice_get, Option, Some, refl, ap, ◌∙◌, subst, arith}
use Rattle.normal_forms.specs.declared.forms.Class2.{Class2}
use Rattle.normal_forms.specs.declared.forms.Form.{Form}
use Rattle.normal_forms.specs.declared.forms.Form.TheVariants.{N1, N2, N3, N4, N5, N6, N7, N8, N9, N10, N12}
use Rattle.facts.specs.declared.contexts.Context.{Context}
use Rattle.facts.specs.declared.contexts.Context.TheVariants.{Expr}
use Rattle.facts.specs.declared.contexts.Fact.{Fact}
use Rattle.facts.specs.declared.contexts.Fact.TheVariants.{In}
use Rattle.facts.specs.Births.{Reason}
use Rattle.facts.specs.Closure.{Problem, IsContextBy, IsLoop, Gives, in_thing, in_itself, by_form, unsatisfiable, loop, handed_on, different, apart, condition, thing}
use Rattle.inference.specs.Derivations.{Derived, IsDerived, Grows}
use Rattle.inference.specs.Completeness.{AreLoopsDrawn, HasEntry, IsContextAt, IsEntry, IsOwed}
use Rattle.inference.proofs.Growth.{there_still}
use Rattle.inference.proofs.Lists.{one_value, slice_get_take, slice_get_there}
use Rattle.inference.proofs.Places.{at_still}

-- ---- what is an entry stays one

pub entry_still : {k : Problem} {most : ℕ} {a b : Derived} → Grows k most a b → (x : Context) (n : ℕ) → IsEntry a x n → IsEntry b x n
entry_still s x n e = record { there = s.facts n _ e.there; birth = e.birth; born = s.births n e.birth e.born; of_context = e.of_context }

pub has_entry_still : {k : Problem} {most : ℕ} {a b : Derived} → Grows k most a b → (x : Context) → HasEntry a x → HasEntry b x
has_entry_still s x w = (w.0, entry_still s x w.0 w.1)

pub loops_still : {k : Problem} {most : ℕ} {a b : Derived} → Grows k most a b → (x : Context) → AreLoopsDrawn k x a → AreLoopsDrawn k x b
loops_still s x drawn form there f l = ⊎_elim (λ c. inl (there_still s f c)) (λ e. inr (has_entry_still s x e)) (drawn form there f l)

pub owed_still : {k : Problem} {most : ℕ} {a b : Derived} → Grows k most a b → (f : Fact) → IsOwed k a f → IsOwed k b f
owed_still s f w = record { context = w.context; form = w.form; there = w.there; is_loop = w.is_loop; entry = has_entry_still s w.context w.entry }

-- ---- a context is one by what gave its entry

no_form : (form : Form) → condition form ≡ 1 → ⊥
no_form (N1 _ _) e = absurd (omega (arith, e))
no_form (N2 _ _ _) e = absurd (omega (arith, e))
no_form (N3 _ _ _) e = absurd (omega (arith, e))
no_form (N4 _ _ _) e = absurd (omega (arith, e))
no_form (N5 _ _) e = absurd (omega (arith, e))
no_form (N6 _ _ _) e = absurd (omega (arith, e))
no_form (N7 _) e = absurd (omega (arith, e))
no_form (N8 _ _) e = absurd (omega (arith, e))
no_form (N9 _ _ _) e = absurd (omega (arith, e))
no_form (N10 _ _) e = absurd (omega (arith, e))
no_form (N12 _ _ _) e = absurd (omega (arith, e))

one_context : (c d : Class2) (x y : Context) → In c x ≡ In d y → x ≡ y
one_context c d x y e = cc

by_context : {k : Problem} {c : ℕ} {o : Option ℕ} {older : List Fact} {f : Fact} (x : Context) → Gives k c o older f → c ≡ 1 → f ≡ In thing x → IsContextBy k older x
by_context {k} {older = older} x (in_thing {x = y} is) e same = subst (IsContextBy k older) (one_context thing thing y x same) is
by_context {k} {older = older} x (in_itself {e = i} is) e same = subst (IsContextBy k older) (one_context _ thing (Expr i) x same) is
by_context x (by_form n form at gives) e same = absurd (no_form form e)
by_context x (unsatisfiable b) e same = absurd (omega (arith, e))
by_context x (loop y n form at l is) e same = absurd (omega (arith, e))
by_context x (handed_on n form at h) e same = absurd (omega (arith, e))
by_context x (different l a b at one) e same = absurd (omega (arith, e))
by_context x (apart l a b y w) e same = absurd (omega (arith, e))

module _ {k : Problem} {d : Derived} (s : IsDerived k d) where
  pub context_of_entry : (x : Context) (n : ℕ) (e : IsEntry d x n) → IsContextAt k d.facts e.birth.older x
  context_of_entry x n e =
      let b = s.born n (In thing x) e.birth e.there e.born in
      (b.0, at_still (take n d.facts) d.facts (λ m f at. (slice_get_take n d.facts m f at).1) e.birth.older b.0 b.1, by_context x b.2 e.of_context refl)

  -- by what is read of its birth
  pub context_by_birth : (x : Context) (n : ℕ) (read : Reason) → slice_get d.births n ≡ Some read → IsEntry d x n → IsContextAt k d.facts read.older x
  context_by_birth x n read at e = subst (λ (r : Reason). IsContextAt k d.facts r.older x) (one_value _ e.birth read e.born at) (context_of_entry x n e)

-- ---- whether a fact is an entry

-- a fact that is an entry later was one before, if it was there
pub entry_before : {k : Problem} {most : ℕ} {a b : Derived} → IsDerived k a → Grows k most a b → (x : Context) (n : ℕ) → n < length a.facts → IsEntry b x n → IsEntry a x n
entry_before {a = a} {b = b} was s x n low e =
    let f = slice_get_there a.facts n low in
    let r = slice_get_there a.births n (omega (arith, was.long, low)) in
    record {
      there = f.1 ∙ ap Some (one_value _ f.0 (In thing x) (s.facts n f.0 f.1) e.there);
      birth = e.birth;
      born = r.1 ∙ ap Some (one_value _ r.0 e.birth (s.births n r.0 r.1) e.born);
      of_context = e.of_context;
    }

-- the context of what is read is that of which it is an entry
pub entry_here : {d : Derived} (x y : Context) (n : ℕ) (c : Class2) → slice_get d.facts n ≡ Some (In c y) → IsEntry d x n → (c ≡ thing) × (y ≡ x)
entry_here x y n c at e = let same : In c y ≡ In thing x = one_value _ (In c y) (In thing x) at e.there in (one_class y x c same, one_context c thing y x same)
  where
    one_class : (y x : Context) (c : Class2) → In c y ≡ In thing x → c ≡ thing
    one_class y x c same = cc

-- an edge is no entry
pub edge_is_no_entry : {d : Derived} (x : Context) (n : ℕ) (f : Fact) → slice_get d.facts n ≡ Some f → ((y : Context) → f ≡ In thing y → ⊥) → IsEntry d x n → ⊥
edge_is_no_entry x n f at other e = other x (one_value _ f (In thing x) at e.there)

-- what puts a class into a context is not owed
pub class_is_not_owed : (k : Problem) (d : Derived) (c : Class2) (x : Context) → IsOwed k d (In c x) → ⊥
class_is_not_owed k d c x w = no_loop w.context w.form w.is_loop
  where
    no_loop : (y : Context) (form : Form) → IsLoop y form (In c x) → ⊥
    no_loop y (N7 r) l = absurd (cc)
    no_loop y (N1 _ _) l = l
    no_loop y (N2 _ _ _) l = l
    no_loop y (N3 _ _ _) l = l
    no_loop y (N4 _ _ _) l = l
    no_loop y (N5 _ _) l = l
    no_loop y (N6 _ _ _) l = l
    no_loop y (N8 _ _) l = l
    no_loop y (N9 _ _ _) l = l
    no_loop y (N10 _ _) l = l
    no_loop y (N12 _ _ _) l = l
