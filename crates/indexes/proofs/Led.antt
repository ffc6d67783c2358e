-- Forms that stand in lists with what they lead to.
use Rattle.std.proofs.Common.{◌≡◌, ◌↔◌, ◌⊎◌, inl, inr, ℕ, zero, suc, ◌+◌, ◌-◌, ◌<◌, ◌≤◌, Bool, true, false, List, [], ◌∷◌, ◌++◌, length, take, drop, get_or, slice_get, slice_index, Option, Some, None, Contains, refl, sym, ap, subst, ⊎_elim, ◌∙◌, arith}
use Rattle.std.specs.Prelude.{if◌then◌else◌}
use Rattle.std.proofs.lemmas.List.{drop-map, length-map, length-take, map-append, take-map, take-take, take_all}
use Rattle.std.proofs.lemmas.List.Elements.{Contains-push_cases}
use Rattle.std.proofs.lemmas.Option.{none-some, same_Some, slice_get-get_or}
use Rattle.lemmas.proofs.Mapped.{Contains-map}
use Rattle.lemmas.proofs.Members.{Contains-from_slice_get, Contains-none}
use Rattle.lemmas.proofs.Places.{slice_get_take, take_push}
use Rattle.normal_forms.specs.declared.forms.Form.{Form}
use Rattle.indexes.specs.declared.form_lists.FormLists.{FormLists}
use Rattle.indexes.specs.declared.key_lists.KeyLists.{KeyLists}
use Rattle.indexes.specs.declared.keys.Key.{Key}
use Rattle.indexes.specs.declared.keys.Key.TheVariants.{Whole, Partial}
use Rattle.indexes.specs.declared.led_forms.LedForms.{LedForms}
use Rattle.indexes.specs.declared.listed_forms.ListedForm.{ListedForm}
use Rattle.indexes.specs.declared.listed_forms.ListedForms.{ListedForms}
use Rattle.number_sets.specs.Pieces.{list_at as forms_at}
use Rattle.indexes.specs.ChangedLists.{changed_at, changed_or, HasKeyFirst}
use Rattle.indexes.specs.FormIndex.{at_key, listed_at, AreLedForms, ListsNumbers}
use Rattle.indexes.specs.FormsUnderKeys.{is_key, IsUnder}
use Rattle.indexes.specs.Lists.{list_at}
use Rattle.indexes.specs.ListedForms.{changed_forms_at, forms_at_key, led_at, number_of, AreChangedForms, AreLedBy, AreListedForms, AreOf, SaysItsForm}
use Rattle.indexes.proofs.Counting.{other_key, same_is_key}
use Rattle.indexes.proofs.Sides.{from_piece}

-- one form more
pub one_more : (forms : List Form) (numbers : List ℕ) (i : ℕ) (listed : List ListedForm) (l : ListedForm) → i < length numbers → l.number ≡ get_or numbers i 0 → SaysItsForm forms l
    → AreOf forms (take i numbers) listed → AreOf forms (take (i + 1) numbers) (listed ++ l ∷ [])
one_more forms numbers i listed l low is says before = record {
  numbers_are = map-append number_of listed (l ∷ []) ∙ ap (λ (ns : List ℕ). ns ++ l.number ∷ []) before.numbers_are ∙ ap (λ (n : ℕ). take i numbers ++ n ∷ []) is
      ∙ sym (take_push numbers i (get_or numbers i 0) (slice_get-get_or numbers i 0 low));
  say = λ m c. ⊎_elim (λ there. before.say m there) (λ same. subst (SaysItsForm forms) same says) (Contains-push_cases listed l m c);
}

-- the forms of one list
list_of : (starts : List ℕ) (forms : List Form) (numbers : List ℕ) (listed : List ListedForm) (k : ℕ) → AreOf forms numbers listed → AreOf forms (list_at starts numbers k) (list_at starts listed k)
list_of starts forms numbers listed k are =
    let a = slice_index starts k in
    let b = slice_index starts (k + 1) in
    record {
      numbers_are = sym (take-map number_of (b - a) (drop a listed)) ∙ ap (take (b - a)) (sym (drop-map number_of a listed)) ∙ ap (λ (ns : List ℕ). list_at starts ns k) are.numbers_are;
      say = λ l c. let p = from_piece listed a b l c in are.say l (Contains-from_slice_get listed p.0 l p.3);
    }

at : (forms : List Form) (lists : KeyLists) (listed : ListedForms) (k : Key) → AreListedForms forms lists listed → AreOf forms (at_key lists k) (forms_at_key lists listed k)
at forms lists listed (Whole k) are = list_of lists.wholes.starts.items forms lists.wholes.numbers.items listed.wholes.items k are.wholes
at forms lists listed (Partial k) are = list_of lists.partials.starts.items forms lists.partials.numbers.items listed.partials.items k are.partials

pub as_long : (forms : List Form) (numbers : List ℕ) (listed : List ListedForm) → AreOf forms numbers listed → length listed ≡ length numbers
as_long forms numbers listed are = sym (length-map listed number_of) ∙ ap length are.numbers_are

-- ---- where copies share those of the keys that have not changed

-- a list of a key and its forms, or neither
abbrev Both : List Form → Option (List ℕ) → Option (List ListedForm) → Type 0
Both forms o p = ((numbers : List ℕ) × (listed : List ListedForm) × (o ≡ Some numbers) × (p ≡ Some listed) × AreOf forms numbers listed) ⊎ ((o ≡ None) × (p ≡ None))

first_of : (forms : List Form) (b : Bool) (numbers : List ℕ) (listed : List ListedForm) → AreOf forms numbers listed → (o : Option (List ℕ)) (p : Option (List ListedForm)) → Both forms o p → Both forms (if b then Some numbers else o) (if b then Some listed else p)
first_of forms true numbers listed of o p both = inl (numbers, listed, refl, refl, of)
first_of forms false numbers listed of o p both = both

changed : (forms : List Form) (lists : List (Key × List ℕ)) (beside : List (List ListedForm)) (k : Key) → AreChangedForms forms lists beside → Both forms (changed_at lists k) (changed_forms_at lists beside k)
changed forms [] [] k are = inr (refl, refl)
changed forms [] (d ∷ ds) k are = absurd are
changed forms (c ∷ cs) [] k are = absurd are
changed forms (c ∷ cs) (d ∷ ds) k are = first_of forms (is_key k (Some c.0)) c.1 d are.0 (changed_at cs k) (changed_forms_at cs ds k) (changed forms cs ds k are.1)

-- there are as many lists of forms as of numbers
pub as_many : (forms : List Form) (lists : List (Key × List ℕ)) (beside : List (List ListedForm)) → AreChangedForms forms lists beside → length beside ≡ length lists
as_many forms [] [] are = refl
as_many forms [] (d ∷ ds) are = absurd are
as_many forms (c ∷ cs) [] are = absurd are
as_many forms (c ∷ cs) (d ∷ ds) are = ap suc (as_many forms cs ds are.1)

-- the forms at the place of the first list of a key are those of the key
placed : (lists : List (Key × List ℕ)) (beside : List (List ListedForm)) (k : Key) (place : ℕ) (items : List ℕ) → length beside ≡ length lists → slice_get lists place ≡ Some (k, items)
    → ((i : ℕ) (c : Key × List ℕ) → i < place → slice_get lists i ≡ Some c → ¬ (c.0 ≡ k)) → changed_forms_at lists beside k ≡ Some (forms_at beside place)
placed [] beside k place items long there first = absurd (none-some (k, items) there)
placed (c ∷ cs) [] k place items long there first = absurd (omega (arith, long))
placed (c ∷ cs) (d ∷ ds) k zero items long there first =
    let e = same_Some c (k, items) there in
    rw (e) (rw (same_is_key k k refl) refl)
placed (c ∷ cs) (d ∷ ds) k (suc place) items long there first =
    rw (other_key k c.0 (λ e. first 0 c (omega arith) refl (sym e))) (placed cs ds k place items (omega (arith, long)) there (λ i x l. first (suc i) x (omega (arith, l))))

pub at_place : (lists : FormLists) (beside : LedForms) (k : Key) (place : ℕ) → length beside.changed ≡ length lists.changed.items → HasKeyFirst lists.changed.items k place → forms_at beside.changed place ≡ led_at lists beside k
at_place lists beside k place long has = rw (placed lists.changed.items beside.changed k place has.items long has.there has.first) refl

-- no forms are those of a key whose list has not changed
passed : (b : Bool) (numbers : List ℕ) (listed : List ListedForm) (o : Option (List ℕ)) (p : Option (List ListedForm)) → (if b then Some numbers else o) ≡ None → (o ≡ None → p ≡ None) → (if b then Some listed else p) ≡ None
passed true numbers listed o p none later = absurd (none-some numbers (sym none))
passed false numbers listed o p none later = later none

beside_none : (lists : List (Key × List ℕ)) (beside : List (List ListedForm)) (k : Key) → changed_at lists k ≡ None → changed_forms_at lists beside k ≡ None
beside_none [] beside k none = refl
beside_none (c ∷ cs) [] k none = refl
beside_none (c ∷ cs) (d ∷ ds) k none = passed (is_key k (Some c.0)) c.1 d (changed_at cs k) (changed_forms_at cs ds k) none (beside_none cs ds k)

pub at_shared : (lists : FormLists) (beside : LedForms) (k : Key) → changed_at lists.changed.items k ≡ None → forms_at_key lists.shared.value beside.shared.value k ≡ led_at lists beside k
at_shared lists beside k none = rw (beside_none lists.changed.items beside.changed k none) refl

-- the forms of a list that is shared are there still, and lead to the same
shared_say : (key : Form → Option Key) (forms : List Form) (end : ℕ) (lists : KeyLists) (listed : ListedForms) (k : Key) → ListsNumbers key (slice_get (take end forms)) (at_key lists) → AreListedForms (take end forms) lists listed → AreOf forms (at_key lists k) (forms_at_key lists listed k)
shared_say key forms end lists listed k numbers are =
    let of = at (take end forms) lists listed k are in
    record {
      numbers_are = of.numbers_are;
      say = λ l c form there.
          let w = (numbers k l.number).0 (subst (λ (ns : List ℕ). Contains ns l.number) of.numbers_are (Contains-map number_of (forms_at_key lists listed k) l c)) in
          let same : form ≡ w.0 = same_Some form w.0 (sym there ∙ (slice_get_take end forms l.number w.0 w.1).1) in
          of.say l c form (w.1 ∙ ap Some (sym same));
    }

-- the forms of the list of a key are those that the key leads to
pub led : (key : Form → Option Key) (forms : List Form) (lists : FormLists) (beside : LedForms) (k : Key) (result : List ListedForm) → result ≡ led_at lists beside k
    → ListsNumbers key (slice_get forms) (listed_at lists) → AreLedForms key forms lists beside → AreLedBy key forms k result
led key forms lists beside k result is numbers are =
    subst (AreLedBy key forms k) (sym is)
    (elim (changed forms lists.changed.items beside.changed k are.changed) [
      | inl w ↦ of_list (listed_at lists k) (led_at lists beside k) (rw (w.2, w.3) w.4) (numbers k)
      | inr w ↦ of_list (listed_at lists k) (led_at lists beside k) (rw (w.0, w.1) (shared_say key forms beside.end lists.shared.value beside.shared.value k are.listed are.shared)) (numbers k)
    ])
  where
    of_list : (ns : List ℕ) (listed : List ListedForm) → AreOf forms ns listed → ((n : ℕ) → Contains ns n ↔ IsUnder key forms k n) → AreLedBy key forms k listed
    of_list ns listed of under = record {
      numbers = λ n. subst (λ (xs : List ℕ). Contains xs n ↔ IsUnder key forms k n) (sym of.numbers_are) (under n);
      say = of.say;
    }

-- ---- forms of lists that have changed, one after the other

one_longer : (forms : List Form) (lists : List (Key × List ℕ)) (led : List (List ListedForm)) (c : Key × List ℕ) (d : List ListedForm) → AreOf forms c.1 d → AreChangedForms forms lists led → AreChangedForms forms (lists ++ c ∷ []) (led ++ d ∷ [])
one_longer forms [] [] c d of are = (of, tt)
one_longer forms [] (y ∷ ys) c d of are = absurd are
one_longer forms (x ∷ xs) [] c d of are = absurd are
one_longer forms (x ∷ xs) (y ∷ ys) c d of are = (are.0, one_longer forms xs ys c d of are.1)

pub next_changed : (forms : List Form) (lists : List (Key × List ℕ)) (i : ℕ) (led : List (List ListedForm)) (c : Key × List ℕ) (d : List ListedForm) → slice_get lists i ≡ Some c → AreOf forms c.1 d
    → AreChangedForms forms (take i lists) led → AreChangedForms forms (take (i + 1) lists) (led ++ d ∷ [])
next_changed forms lists i led c d at of are = subst (λ (ls : List (Key × List ℕ)). AreChangedForms forms ls (led ++ d ∷ [])) (sym (take_push lists i c at)) (one_longer forms (take i lists) led c d of are)

-- the forms of lists of which none has changed
pub led_first : (key : Form → Option Key) (forms : List Form) (lists : FormLists) (beside : LedForms) → ListsNumbers key (slice_get forms) (listed_at lists) → lists.changed.items ≡ []
    → AreListedForms forms lists.shared.value beside.shared.value → beside.end ≡ length forms → beside.changed ≡ [] → AreLedForms key forms lists beside
led_first key forms lists beside listed whole shared end none =
    let all : take beside.end forms ≡ forms = take_all beside.end forms (omega (arith, end)) in
    record {
      few = omega (arith, end);
      listed = rw (all) (λ k n. subst (λ (cs : List (Key × List ℕ)). Contains (changed_or (changed_at cs k) (at_key lists.shared.value k)) n ↔ IsUnder key forms k n) whole (listed k n));
      shared = rw (all) shared;
      changed = rw (whole, none) tt;
    }

-- further forms leave those beside the lists that are shared as they are
pub led_again : (key : Form → Option Key) (mine forms : List Form) (from : ℕ) (old new : FormLists) (before after : LedForms) → mine ≡ take from forms → AreLedForms key mine old before → new.shared.value ≡ old.shared.value
    → after.shared.value ≡ before.shared.value → after.end ≡ before.end → AreChangedForms forms new.changed.items after.changed → AreLedForms key forms new after
led_again key mine forms from old new before after first are lists shared end changed =
    let within : before.end ≤ from = omega (arith, are.few, ap length first, length-take from forms) in
    let long : before.end ≤ length forms = omega (arith, are.few, ap length first, length-take from forms) in
    let same : take after.end forms ≡ take before.end mine = ap (λ (n : ℕ). take n forms) end ∙ sym (take-take before.end from forms within) ∙ ap (take before.end) (sym first) in
    record {
      few = omega (arith, long, end);
      listed = rw (same, lists) are.listed;
      shared = rw (same, lists, shared) are.shared;
      changed = changed;
    }

-- of a key whose list has no number no form is listed
pub led_none : (key : Form → Option Key) (forms : List Form) (lists : FormLists) (k : Key) → listed_at lists k ≡ [] → ListsNumbers key (slice_get forms) (listed_at lists) → AreLedBy key forms k []
led_none key forms lists k none numbers = record {
  numbers = λ n. (
    λ c. absurd (Contains-none n c),
    λ under. absurd (Contains-none n (subst (λ (list : List ℕ). Contains list n) none ((numbers k n).1 under))),
  );
  say = λ l c. absurd (Contains-none l c);
}
