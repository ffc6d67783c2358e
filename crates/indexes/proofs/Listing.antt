-- Lists of forms by key.
use Rattle.std.proofs.Common.{◌≡◌, ◌↔◌, ◌+◌, ◌-◌, ◌<◌, ◌≤◌, ℕ, Bool, false, true, not, eqb, List, [], ◌∷◌, length, get_or, slice_get, take, drop, Option, Some, Contains, refl, sym, ap, ap₂, subst, subst₂, ◌∙◌, arith}
use Rattle.std.proofs.lemmas.Bool.{false≢true}
use Rattle.std.proofs.lemmas.List.{get_or_past}
use Rattle.std.proofs.lemmas.Option.{slice_get_within}
use Rattle.std.specs.List.Sorted.{IsNonDecreasing}
use Rattle.lemmas.proofs.Members.{Contains-none, Contains-first}
use Rattle.normal_forms.specs.declared.forms.Form.{Form}
use Rattle.indexes.specs.declared.keys.Key.{Key}
use Rattle.indexes.specs.declared.keys.Key.TheVariants.{Whole, Partial}
use Rattle.indexes.specs.declared.key_lists.KeyLists.{KeyLists}
use Rattle.indexes.specs.declared.key_lists.KeyFilling.{KeyFilling}
use Rattle.indexes.specs.FormsUnderKeys.{HasKeyAt, numbers_under}
use Rattle.indexes.specs.FormIndex.{at_key, AreFormsListed, Ascend, ListsNumbers, ListsNothing}
use Rattle.indexes.specs.KeyFillings.{AreFull, AreListsOf}
use Rattle.indexes.specs.Roles.{ForEach, ForEachTwo}
use Rattle.indexes.specs.declared.roles.ByRole.{ByRole}
use Rattle.indexes.specs.Lists.{list_at}
use Rattle.indexes.proofs.Counting.{numbers_are_under, under_are_numbers}
use Rattle.indexes.proofs.ByRoles.{for_other}
use Rattle.indexes.proofs.Filling.{AreAllFilled, AreFilled, lists_are}

-- the lists of the numbers of those with each key
pub lists_of_numbers : {X : Type 0} (key : X → Option Key) (there : ℕ → Option X) (end : ℕ) → ((n : ℕ) (x : X) → there n ≡ Some x → n < end) → (lists : KeyLists) → ((k : Key) → at_key lists k ≡ numbers_under key there k end) → ListsNumbers key there (at_key lists)
lists_of_numbers key there end within lists are k n = (
  λ c. (numbers_are_under key there k end n (subst (λ (list : List ℕ). Contains list n) (are k) c)).1,
  λ w. subst (λ (list : List ℕ). Contains list n) (sym (are k)) (under_are_numbers key there k end n (within n w.0 w.1) w),
)

-- the lists that are full
pub lists_filled : {X : Type 0} (key : X → Option Key) (there : ℕ → Option X) (end : ℕ) (f : KeyFilling) (lists : KeyLists) → AreFilled key there end end f → AreListsOf f lists
    → (k : Key) → at_key lists k ≡ numbers_under key there k end
lists_filled key there end f lists are of (Whole k) = ap₂ (λ (starts numbers : List ℕ). list_at starts numbers k) of.wholes.starts of.wholes.numbers ∙ lists_are _ f.wholes are.wholes k
lists_filled key there end f lists are of (Partial k) = ap₂ (λ (starts numbers : List ℕ). list_at starts numbers k) of.partials.starts of.partials.numbers ∙ lists_are _ f.partials are.partials k

pub listed_under : {X : Type 0} (key : X → Option Key) (there : ℕ → Option X) (end : ℕ) → ((n : ℕ) (x : X) → there n ≡ Some x → n < end) → (f : KeyFilling) (lists : KeyLists) → AreFilled key there end end f → AreListsOf f lists → ListsNumbers key there (at_key lists)
listed_under key there end within f lists full w = lists_of_numbers key there end within lists (lists_filled key there end f lists full w)

-- .. by each of the keys
pub all_listed : (forms : List Form) (filling : ByRole KeyFilling) (index : ByRole KeyLists) → AreAllFilled forms (length forms) filling → ForEachTwo (λ key by lists. AreListsOf by lists) filling index → AreFormsListed at_key forms index
all_listed forms filling index are of = for_other (λ key f. AreFilled key (slice_get forms) (length forms) (length forms) f) (λ key f lists. AreListsOf f lists) (λ key lists. ListsNumbers key (slice_get forms) (at_key lists)) filling index
    (λ key f lists full w. listed_under key (slice_get forms) (length forms) (slice_get_within forms) f lists full w) are of

-- the lists that are full ascend
pub full_ascend : (f : KeyFilling) (lists : KeyLists) → AreFull f → AreListsOf f lists → Ascend (at_key lists)
full_ascend f lists full of (Whole k) = subst₂ (λ (starts numbers : List ℕ). IsNonDecreasing (list_at starts numbers k)) (sym of.wholes.starts) (sym of.wholes.numbers) (full.wholes.ascending k)
full_ascend f lists full of (Partial k) = subst₂ (λ (starts numbers : List ℕ). IsNonDecreasing (list_at starts numbers k)) (sym of.partials.starts) (sym of.partials.numbers) (full.partials.ascending k)

pub all_ascend : (filling : ByRole KeyFilling) (index : ByRole KeyLists) → ForEach (λ key by. AreFull by) filling → ForEachTwo (λ key by lists. AreListsOf by lists) filling index → ForEach (λ key lists. Ascend (at_key lists)) index
all_ascend filling index full of = for_other (λ key f. AreFull f) (λ key f lists. AreListsOf f lists) (λ key lists. Ascend (at_key lists)) filling index (λ key f lists full w. full_ascend f lists full w) full of

without : (list : List ℕ) → ((n : ℕ) → Contains list n → ⊥) → list ≡ []
without [] none = refl
without (x ∷ xs) none = absurd (none x (Contains-first x xs))

-- lists of the forms list nothing exactly where no form has a key
pub unlisted : (key : Form → Option Key) (there : ℕ → Option Form) (at : Key → List ℕ) → ListsNumbers key there at → ListsNothing at ↔ ((k : Key) (n : ℕ) → HasKeyAt key there k n → ⊥)
unlisted key there at are = (
  λ nothing k n w. Contains-none n (subst (λ (list : List ℕ). Contains list n) (nothing k) ((are k n).1 w)),
  λ none k. without (at k) (λ n c. none k n ((are k n).0 c)),
)

-- from the last start on no key has a list
pub past_the_end : (starts numbers : List ℕ) (key : ℕ) → length starts ≤ key + 1 → list_at starts numbers key ≡ []
past_the_end starts numbers key ge =
    let none : get_or starts (key + 1) 0 ≡ 0 = get_or_past starts (key + 1) 0 ge in
    let few : get_or starts (key + 1) 0 - get_or starts key 0 ≡ 0 = omega (arith, none) in
    ap (λ (n : ℕ). take n (drop (get_or starts key 0) numbers)) few

-- a list that is not empty has some number
pub some_there : (xs : List ℕ) (empty : Bool) → empty ≡ eqb (length xs) 0 → not empty ≡ true → (n : ℕ) × Contains xs n
some_there [] empty e h = let k : false ≡ true = sym (ap not e) ∙ h in absurd (false≢true k)
some_there (x ∷ xs) empty e h = (x, Contains-first x xs)
