-- Which forms that are added are new.
use Rattle.std.proofs.Common.{◌≡◌, ◌↔◌, ℕ, ◌+◌, ◌<◌, ◌≤◌, ◌⊎◌, inl, inr, ⊎_elim, List, [], ◌∷◌, ◌++◌, length, take, slice_get, Some, Contains, subst, sym, arith}
use Rattle.std.proofs.lemmas.Bool.{cases_lt}
use Rattle.std.proofs.lemmas.Bool.Decides.{eqb_tells}
use Rattle.std.proofs.lemmas.List.Elements.{Contains-append_left, Contains-push, Contains-push_cases}
use Rattle.std.proofs.lemmas.Option.{slice_get_within}
use Rattle.lemmas.proofs.Places.{take_slice_get}
use Rattle.normal_forms.specs.declared.forms.Form.{Form}
use Rattle.normal_forms.specs.declared.forms.Form.TheVariants.{N5}
use Rattle.normal_forms.specs.declared.forms.PropId2.TheVariants.{Property}
use Rattle.normal_forms.specs.Properties.{same}
use Rattle.facts.specs.declared.contexts.Context.TheVariants.{Individual}
use Rattle.facts.specs.declared.contexts.Fact.{Fact}
use Rattle.facts.specs.declared.contexts.Fact.TheVariants.{Edge}
use Rattle.inference.proofs.Lists.{Contains-from_slice_get, one_value, slice_get-from_Contains}
use Rattle.saturate.specs.Requests.{AsksNothing, HasNewBelow, IsAskedByForm, NewFormAsks, IsNew}

-- of the forms from one number on and before another each that is new and may ask for facts is in the list
abbrev pub AreListed : List Form → List Form → ℕ → ℕ → List Form → Type 0
AreListed before now from to new = (n : ℕ) → from ≤ n → n < to → (form : Form) → slice_get now n ≡ Some form → IsNew before now form → Contains new form ⊎ AsksNothing form

-- one form more
pub listed_more : (before now : List Form) (from i : ℕ) (form : Form) (old new : List Form) → slice_get now i ≡ Some form → AreListed before now from i old → ((f : Form) → Contains old f → Contains new f)
    → (IsNew before now form → Contains new form ⊎ AsksNothing form) → AreListed before now from (i + 1) new
listed_more before now from i form old new at listed kept here n low high f f_at is_new = ⊎_elim
    (λ w.
    let same : form ≡ f = one_value _ form f at (subst (λ (j : ℕ). slice_get now j ≡ Some f) w.1 f_at) in
    subst (λ (g : Form). Contains new g ⊎ AsksNothing g) same (here (subst (IsNew before now) (sym same) is_new)))
    (λ w. ⊎_elim
    (λ there. inl (kept f there))
    inr
    (listed n low (omega (arith, high, w.1)) f f_at is_new))
    (eqb_tells n i)

-- one that is new is put behind them
pub new_pushed : (before now : List Form) (i : ℕ) (form : Form) (new : List Form) → slice_get now i ≡ Some form → ¬ Contains before form → ((f : Form) → Contains new f → IsNew before now f) → (f : Form) → Contains (new ++ form ∷ []) f → IsNew before now f
new_pushed before now i form new at unlike each f there = ⊎_elim (each f) (λ e. subst (IsNew before now) e (Contains-from_slice_get now i form at, unlike)) (Contains-push_cases new form f there)

pub pushed_listed : (before now : List Form) (from i : ℕ) (form : Form) (new : List Form) → slice_get now i ≡ Some form → AreListed before now from i new → AreListed before now from (i + 1) (new ++ form ∷ [])
pushed_listed before now from i form new at listed = listed_more before now from i form new (new ++ form ∷ []) at listed (λ f there. Contains-append_left new (form ∷ []) f there) (λ is_new. inl (Contains-push new form))

-- a form that is new is added
is_added : (before now : List Form) (from n : ℕ) (form : Form) → take from now ≡ before → slice_get now n ≡ Some form → IsNew before now form → from ≤ n
is_added before now from n form front at is_new = ⊎_elim
    (λ low. absurd (is_new.1 (subst (λ (forms : List Form). Contains forms form) front (Contains-from_slice_get (take from now) n form (take_slice_get from now n form low at)))))
    (λ high. high)
    (cases_lt n from)

-- so each that is new and may ask for facts is in the list of all
all_listed : (before now new : List Form) (from to : ℕ) → take from now ≡ before → length now ≤ to → AreListed before now from to new
    → (form : Form) → IsNew before now form → Contains new form ⊎ AsksNothing form
all_listed before now new from to front long listed form is_new =
    let at = slice_get-from_Contains now form is_new.0 in
    listed at.0 (is_added before now from at.0 form front at.1 is_new) (omega (arith, slice_get_within now at.0 form at.1, long)) form at.1 is_new

-- and those that are listed ask for the same facts as those that are new
pub ask_as_new : (before now new : List Form) (from to : ℕ) → take from now ≡ before → length now ≤ to → ((form : Form) → Contains new form → IsNew before now form) → AreListed before now from to new
    → (f : Fact) → IsAskedByForm now new f ↔ NewFormAsks before now f
ask_as_new before now new from to front long each listed f = (
  λ asked. (asked.0, each asked.0 asked.1, asked.2),
  λ asked. ⊎_elim
      (λ there. (asked.0, there, asked.2))
      (λ nothing. absurd (nothing now f asked.2))
      (all_listed before now new from to front long listed asked.0 asked.1),
)

-- one that puts a property below another asks for the edges by it, so it is listed
pub has_below : (before now new : List Form) (from to : ℕ) → take from now ≡ before → length now ≤ to → AreListed before now from to new → HasNewBelow before now new
has_below before now new from to front long listed r s is_new = ⊎_elim
    (λ there. there)
    (λ nothing. absurd (nothing now (Edge (Individual (record { 0 = 0 })) (Property r) (Individual (record { 0 = 0 }))) same))
    (all_listed before now new from to front long listed (N5 r s) is_new)
