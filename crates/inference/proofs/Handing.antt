-- What is handed on between individuals that forms make one.
use Rattle.std.proofs.Common.{◌≡◌, ℕ, ◌⊎◌, inl, inr, ⊎_elim, List, slice_get, Some, Contains, refl, sym, ap, subst}
use Rattle.axioms.specs.declared.ids.IndId.{IndId}
use Rattle.normal_forms.specs.declared.forms.Class2.{Class2}
use Rattle.normal_forms.specs.declared.forms.PropId2.{PropId2}
use Rattle.normal_forms.specs.declared.forms.Form.{Form}
use Rattle.normal_forms.specs.declared.forms.Form.TheVariants.{N10}
use Rattle.facts.specs.declared.contexts.Context.{Context}
use Rattle.facts.specs.declared.contexts.Context.TheVariants.{Expr, Individual}
use Rattle.facts.specs.declared.contexts.Fact.{Fact}
use Rattle.facts.specs.declared.contexts.Fact.TheVariants.{In, Edge}
use Rattle.facts.specs.Closure.{Problem, HandsOn, Links, class, source, target}
use Rattle.indexes.specs.declared.keys.Key.{Key}
use Rattle.indexes.specs.Keys.{individual_key, by_linked_first, by_linked_second}
use Rattle.indexes.specs.FormsUnderKeys.{IsUnder}
use Rattle.inference.specs.Derivations.{Derived, Grows}
use Rattle.inference.specs.Sameness.{IsAtSource, IsAtTarget, IsHandedOn, IsHandedOnAt, IsHandedOnBy}
use Rattle.inference.proofs.Drawing.{drawn_at_still, drawn_here}
use Rattle.inference.proofs.Lists.{slice_get-from_Contains}

-- ---- a fact that is handed on is at another source, or at another target

pub from_source : (form : Form) (g f : Fact) → IsAtSource form g f → HandsOn form g f
from_source form (In c (Individual i)) f (Individual j, link, e) = subst (HandsOn form (In c (Individual i))) (sym e) (class link)
from_source form (In c (Individual i)) f (Expr d, link, e) = absurd link
from_source form (In c (Expr d)) f (y, link, e) = absurd link
from_source form (Edge (Individual i) r y) f (Individual j, link, e) = subst (HandsOn form (Edge (Individual i) r y)) (sym e) (source link)
from_source form (Edge (Individual i) r y) f (Expr d, link, e) = absurd link
from_source form (Edge (Expr d) r y) f (z, link, e) = absurd link

pub from_target : (form : Form) (g f : Fact) → IsAtTarget form g f → HandsOn form g f
from_target form (In c x) f w = absurd w
from_target form (Edge x r (Individual i)) f (Individual j, link, e) = subst (HandsOn form (Edge x r (Individual i))) (sym e) (target link)
from_target form (Edge x r (Individual i)) f (Expr d, link, e) = absurd link
from_target form (Edge x r (Expr d)) f (z, link, e) = absurd link

either_end : {form : Form} {g f : Fact} → HandsOn form g f → IsAtSource form g f ⊎ IsAtTarget form g f
either_end (class {j = j} link) = inl (Individual j, link, refl)
either_end (source {j = j} link) = inl (Individual j, link, refl)
either_end (target {j = j} link) = inr (Individual j, link, refl)

pub handed_by : (k : Problem) (n : ℕ) (read : Form) (g : Fact) (facts : List Fact) → slice_get k.forms n ≡ Some read
    → ((f : Fact) → IsAtSource read g f → Contains facts f) → ((f : Fact) → IsAtTarget read g f → Contains facts f) → IsHandedOnBy k g facts n
handed_by k n read g facts is at_source at_target =
    drawn_here (λ form f. HandsOn form g f) k.forms n read facts is (λ f h. ⊎_elim (at_source f) (at_target f) (either_end h))

pub by_still : {k : Problem} {most : ℕ} {a b : Derived} → Grows k most a b → (g : Fact) (n : ℕ) → IsHandedOnBy k g a.facts n → IsHandedOnBy k g b.facts n
by_still s g n drawn = drawn_at_still s _ _ n drawn

-- ---- a form that makes two individuals one is listed under both

under : (form : Form) (i j : IndId) → Links form i j → (by_linked_first form ≡ Some (individual_key i)) ⊎ (by_linked_second form ≡ Some (individual_key i))
under (N10 a b) i j (inl (e, f)) = inl (ap (λ (h : IndId). Some (individual_key h)) (sym e))
under (N10 a b) i j (inr (e, f)) = inr (ap (λ (h : IndId). Some (individual_key h)) (sym e))
under _ i j link = absurd link

first_key : (form : Form) (i j : IndId) → Links form i j → (key : Key) × (by_linked_first form ≡ Some key)
first_key (N10 a b) i j link = (individual_key a, refl)
first_key _ i j link = absurd link

linked : {form : Form} {g f : Fact} → HandsOn form g f → (i j : IndId) × Links form i j
linked (class {i = i} {j = j} link) = (i, j, link)
linked (source {i = i} {j = j} link) = (i, j, link)
linked (target {i = i} {j = j} link) = (i, j, link)

-- where no form does, nothing is handed on
pub unlinked : (k : Problem) (g : Fact) (facts : List Fact) → ((key : Key) (n : ℕ) → IsUnder by_linked_first k.forms key n → ⊥) → IsHandedOn k g facts
unlinked k g facts none form there f h =
    let at = slice_get-from_Contains k.forms form there in
    let (i, j, link) = linked h in
    let key = first_key form i j link in
    absurd (none key.0 at.0 (form, at.1, key.1))

module _ (k : Problem) (facts : List Fact) where
  named : {g : Fact} (x : Context) → IsHandedOnAt k x g facts → (form : Form) → Contains k.forms form → (i j : IndId) → x ≡ Individual i → Links form i j → (f : Fact) → HandsOn form g f → Contains facts f
  named x w form there i j is link f h =
      let at = slice_get-from_Contains k.forms form there in
      ⊎_elim
      (λ u. w.first i is at.0 (form, at.1, u) form at.1 f h)
      (λ u. w.second i is at.0 (form, at.1, u) form at.1 f h)
      (under form i j link)

  class_at : (c : Class2) (x : Context) → IsHandedOnAt k x (In c x) facts → (form : Form) → Contains k.forms form → (f : Fact) → HandsOn form (In c x) f → Contains facts f
  class_at c x w form there f (class {i = i} {j = j} link) = named (Individual i) w form there i j refl link f (class link)

  pub class_handed : (c : Class2) (x : Context) → IsHandedOnAt k x (In c x) facts → IsHandedOn k (In c x) facts
  class_handed c x w form there f h = class_at c x w form there f h

  edge_at : (x : Context) (r : PropId2) (y : Context) → IsHandedOnAt k x (Edge x r y) facts → IsHandedOnAt k y (Edge x r y) facts → (form : Form) → Contains k.forms form → (f : Fact) → HandsOn form (Edge x r y) f → Contains facts f
  edge_at x r y v w form there f (source {i = i} {j = j} link) = named (Individual i) v form there i j refl link f (source link)
  edge_at x r y v w form there f (target {i = i} {j = j} link) = named (Individual i) w form there i j refl link f (target link)

  pub edge_handed : (x : Context) (r : PropId2) (y : Context) → IsHandedOnAt k x (Edge x r y) facts → IsHandedOnAt k y (Edge x r y) facts → IsHandedOn k (Edge x r y) facts
  edge_handed x r y v w form there f h = edge_at x r y v w form there f h

  -- from the lists of an individual
  pub handed_at : (g : Fact) (x : Context) (i : IndId) → x ≡ Individual i → ((n : ℕ) → IsUnder by_linked_first k.forms (individual_key i) n → IsHandedOnBy k g facts n)
      → ((n : ℕ) → IsUnder by_linked_second k.forms (individual_key i) n → IsHandedOnBy k g facts n) → IsHandedOnAt k x g facts
  handed_at g x i is first second = record {
    first = λ j e n u. first n (subst (λ (h : IndId). IsUnder by_linked_first k.forms (individual_key h) n) (one j e) u);
    second = λ j e n u. second n (subst (λ (h : IndId). IsUnder by_linked_second k.forms (individual_key h) n) (one j e) u);
  }
    where
      one : (j : IndId) → x ≡ Individual j → j ≡ i
      one j e = cc

pub at_still : {k : Problem} {most : ℕ} {a b : Derived} → Grows k most a b → (x : Context) (g : Fact) → IsHandedOnAt k x g a.facts → IsHandedOnAt k x g b.facts
at_still s x g w = record { first = λ i e n u. by_still s g n (w.first i e n u); second = λ i e n u. by_still s g n (w.second i e n u) }
