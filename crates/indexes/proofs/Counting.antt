-- Forms counted by their keys, and the numbers of those with one.
use Rattle.std.proofs.Common.{◌≡◌, ℕ, zero, suc, ◌+◌, ◌-◌, ◌==◌, ◌<◌, ◌≤◌, ◌⊎◌, inl, inr, ⊎_elim, Bool, true, false, cond, true≢false, List, [], ◌∷◌, ◌++◌, length, get_or, slice_get, slice_index, Option, Some, None, Contains, refl, sym, ap, subst, ◌∙◌, append-nil, add-one, le_of_eq, le_antisymm, length-append, arith}
use Rattle.std.proofs.lemmas.Bool.{cases_lt}
use Rattle.std.proofs.lemmas.Bool.Decides.{eqb_tells}
use Rattle.std.proofs.lemmas.List.{get_or_append_left, get_or_past, get_or_push, length_push}
use Rattle.std.proofs.lemmas.List.Elements.{Contains-push, Contains-push_cases, Contains-append_left, Contains-get_or}
use Rattle.std.proofs.lemmas.List.Sorted.{IsNonDecreasingBy-push, IsNonDecreasingBy-short}
use Rattle.std.specs.List.Sorted.{IsNonDecreasing}
use Rattle.std.specs.Option.{option_and_then}
use Rattle.normal_forms.specs.declared.forms.Form.{Form}
use Rattle.lemmas.proofs.Members.{Contains-none}
use Rattle.indexes.specs.declared.keys.Key.{Key}
use Rattle.indexes.specs.declared.keys.Key.TheVariants.{Whole, Partial}
use Rattle.indexes.specs.declared.roles.ByRole.{ByRole}
use Rattle.indexes.specs.declared.key_counts.KeyCounts.{KeyCounts}
use Rattle.indexes.specs.Roles.{ForEach}
use Rattle.indexes.proofs.ByRoles.{for_each, for_other}
use Rattle.indexes.specs.FormsUnderKeys.{HasKeyAt, is_key, numbers_under}
use Rattle.indexes.specs.Lists.{before, AreStarts}
use Rattle.indexes.specs.Counts.{count_at, Counts, CountsKey, AreCountsOf, AreFew, CountsForm, AreFormCounts}

-- ---- keys

which_key : (k j : Key) → ((k ≡ j) × (is_key k (Some j) ≡ true)) ⊎ ((k ≡ j → ⊥) × (is_key k (Some j) ≡ false))
which_key (Whole i) (Whole j) = ⊎_elim (λ w. inl (ap Whole w.1, w.0)) (λ w. inr (λ e. w.1 (cc), w.0)) (eqb_tells i j)
which_key (Whole i) (Partial j) = inr (λ e. absurd (cc), refl)
which_key (Partial i) (Whole j) = inr (λ e. absurd (cc), refl)
which_key (Partial i) (Partial j) = ⊎_elim (λ w. inl (ap Partial w.1, w.0)) (λ w. inr (λ e. w.1 (cc), w.0)) (eqb_tells i j)

that_key : (k : Key) (o : Option Key) → is_key k o ≡ true → o ≡ Some k
that_key k None e = absurd (true≢false (sym e))
that_key k (Some j) e = ⊎_elim (λ w. ap Some (sym w.0)) (λ w. absurd (true≢false (sym e ∙ w.1))) (which_key k j)

is_that_key : (k : Key) (o : Option Key) → o ≡ Some k → is_key k o ≡ true
is_that_key k o e = subst (λ (p : Option Key). is_key k p ≡ true) (sym e) (⊎_elim (λ w. w.1) (λ w. absurd (w.0 refl)) (which_key k k))

pub same_is_key : (k j : Key) → k ≡ j → is_key k (Some j) ≡ true
same_is_key k j e = is_that_key k (Some j) (ap Some (sym e))

pub other_key : (k j : Key) → (k ≡ j → ⊥) → is_key k (Some j) ≡ false
other_key k j ne = ⊎_elim (λ w. absurd (ne w.0)) (λ w. w.1) (which_key k j)

-- ---- the numbers of what has a key

module _ {X : Type 0} (key : X → Option Key) (there : ℕ → Option X) where
  pub numbers_more : (k : Key) (i : ℕ) (x : X) → there i ≡ Some x → numbers_under key there k (i + 1) ≡ numbers_under key there k i ++ cond (is_key k (key x)) (i ∷ []) []
  numbers_more k i x at = ap (numbers_under key there k) (add-one i) ∙ ap (λ (o : Option X). numbers_under key there k i ++ cond (is_key k (option_and_then key o)) (i ∷ []) []) at

  numbers_grow : (k : Key) (i n : ℕ) → i ≤ n → length (numbers_under key there k i) ≤ length (numbers_under key there k n)
  numbers_grow k i zero le = let e : i ≡ 0 = omega (arith, le) in rw e (omega arith)
  numbers_grow k i (suc n) le = ⊎_elim
      (λ low. omega (arith, numbers_grow k i n (omega (arith, low)), length-append (numbers_under key there k n) (cond (is_key k (option_and_then key (there n))) (n ∷ []) [])))
      (λ high. le_of_eq (ap (λ (m : ℕ). length (numbers_under key there k m)) (le_antisymm le high)))
      (cases_lt i (suc n))

  pub numbers_with : (k : Key) (i : ℕ) (x : X) → there i ≡ Some x → key x ≡ Some k → numbers_under key there k (i + 1) ≡ numbers_under key there k i ++ i ∷ []
  numbers_with k i x at has = numbers_more k i x at ∙ ap (λ (b : Bool). numbers_under key there k i ++ cond b (i ∷ []) []) (is_that_key k (key x) has)

  pub numbers_without : (k : Key) (i : ℕ) (x : X) → there i ≡ Some x → is_key k (key x) ≡ false → numbers_under key there k (i + 1) ≡ numbers_under key there k i
  numbers_without k i x at not = numbers_more k i x at ∙ ap (λ (b : Bool). numbers_under key there k i ++ cond b (i ∷ []) []) not ∙ append-nil (numbers_under key there k i)

  -- the next has the key, so one number more is to come
  pub numbers_to_come : (k : Key) (i end : ℕ) (x : X) → there i ≡ Some x → key x ≡ Some k → i < end → length (numbers_under key there k i) < length (numbers_under key there k end)
  numbers_to_come k i end x at has low =
      omega (arith, ap length (numbers_with k i x at has), length-append (numbers_under key there k i) (i ∷ []), numbers_grow k (i + 1) end (omega (arith, low)))

  has_form : (k : Key) (o : Option X) → is_key k (option_and_then key o) ≡ true → (x : X) × (o ≡ Some x) × (key x ≡ Some k)
  has_form k None e = absurd (true≢false (sym e))
  has_form k (Some x) e = (x, refl, that_key k (key x) e)

  from_last : (k : Key) (n m : ℕ) (b : Bool) → is_key k (option_and_then key (there n)) ≡ b → Contains (numbers_under key there k n ++ cond b (n ∷ []) []) m → Contains (numbers_under key there k n) m ⊎ ((n ≡ m) × HasKeyAt key there k n)
  from_last k n m true e c = ⊎_elim (λ old. inl old) (λ same. inr (same, has_form k (there n) e)) (Contains-push_cases (numbers_under key there k n) n m c)
  from_last k n m false e c = inl (subst (λ (list : List ℕ). Contains list m) (append-nil (numbers_under key there k n)) c)

  pub numbers_are_under : (k : Key) (n m : ℕ) → Contains (numbers_under key there k n) m → (m < n) × HasKeyAt key there k m
  numbers_are_under k zero m c = absurd (Contains-none m c)
  numbers_are_under k (suc n) m c = ⊎_elim
      (λ old. let w = numbers_are_under k n m old in (omega (arith, w.0), w.1))
      (λ new. (omega (arith, new.0), subst (λ (i : ℕ). HasKeyAt key there k i) new.0 new.1))
      (from_last k n m (is_key k (option_and_then key (there n))) refl c)

  into_last : (k : Key) (n : ℕ) → HasKeyAt key there k n → Contains (numbers_under key there k (suc n)) n
  into_last k n w =
      let has : is_key k (option_and_then key (there n)) ≡ true = is_that_key k (option_and_then key (there n)) (ap (option_and_then key) w.1 ∙ w.2) in
      subst (λ (b : Bool). Contains (numbers_under key there k n ++ cond b (n ∷ []) []) n) (sym has) (Contains-push (numbers_under key there k n) n)

  pub under_are_numbers : (k : Key) (n m : ℕ) → m < n → HasKeyAt key there k m → Contains (numbers_under key there k n) m
  under_are_numbers k zero m low w = absurd (omega (arith, low))
  under_are_numbers k (suc n) m low w = ⊎_elim
      (λ l. Contains-append_left (numbers_under key there k n) (cond (is_key k (option_and_then key (there n))) (n ∷ []) []) m (under_are_numbers k n m l w))
      (λ g. let e : m ≡ n = omega (arith, low, g) in subst (λ (i : ℕ). Contains (numbers_under key there k (suc n)) i) (sym e) (into_last k n (subst (λ (i : ℕ). HasKeyAt key there k i) e w)))
      (cases_lt m n)

  rise_more : (xs : List ℕ) (n : ℕ) (b : Bool) → ((m : ℕ) → Contains xs m → m < n) → IsNonDecreasing xs → IsNonDecreasing (xs ++ cond b (n ∷ []) [])
  rise_more xs n true low rise = IsNonDecreasingBy-push (λ (x : ℕ). x) xs n rise (λ d some. omega (arith, low (get_or xs (length xs - 1) d) (Contains-get_or xs (length xs - 1) d (omega (arith, some)))))
  rise_more xs n false low rise = subst IsNonDecreasing (sym (append-nil xs)) rise

  pub numbers_rise : (k : Key) (n : ℕ) → IsNonDecreasing (numbers_under key there k n)
  numbers_rise k zero = IsNonDecreasingBy-short (λ (x : ℕ). x) [] (omega arith)
  numbers_rise k (suc n) = rise_more (numbers_under key there k n) n (is_key k (option_and_then key (there n))) (λ m c. (numbers_are_under k n m c).0) (numbers_rise k n)

-- ---- how many keys below have together

pub before_rises : (f : ℕ → ℕ) (i n : ℕ) → i ≤ n → before f i ≤ before f n
before_rises f i zero le = let e : i ≡ 0 = omega (arith, le) in rw e (omega arith)
before_rises f i (suc n) le = ⊎_elim
    (λ low. omega (arith, before_rises f i n (omega (arith, low))))
    (λ high. le_of_eq (ap (before f) (le_antisymm le high)))
    (cases_lt i (suc n))

pub before_next : (f : ℕ → ℕ) (n : ℕ) → before f (n + 1) ≡ before f n + f n
before_next f n = ap (before f) (add-one n)

pub before_none : (f : ℕ → ℕ) → ((k : ℕ) → f k ≡ 0) → (n : ℕ) → before f n ≡ 0
before_none f none zero = refl
before_none f none (suc n) = omega (arith, none n, before_none f none n)

module _ (old new : List ℕ) (key : ℕ) (counts : Counts old new key) where
  before_key : (n : ℕ) → n ≤ key → before (slice_index new) n ≡ before (slice_index old) n
  before_key zero le = refl
  before_key (suc n) le = ⊎_elim
      (λ w. omega (arith, w.1, before_key n (omega (arith, le))))
      (λ w. absurd (omega (arith, w.0, le)))
      (counts n)

  pub one_more_before : (n : ℕ) → before (slice_index new) n ≤ before (slice_index old) n + 1
  one_more_before zero = omega arith
  one_more_before (suc n) = ⊎_elim
      (λ w. omega (arith, w.1, one_more_before n))
      (λ w. omega (arith, w.1, before_key n (omega (arith, w.0))))
      (counts n)

-- ---- one form more

-- how many more a number counts that is that one, or another
by_key : (k j i old new : ℕ) → (((k ≡ j → ⊥) × (new ≡ old)) ⊎ ((k ≡ j) × (new ≡ old + 1))) → new ≡ old + length (cond (k == j) (i ∷ []) [])
by_key k j i old new w = ⊎_elim
    (λ same. ⊎_elim
    (λ u. absurd (u.0 same.1))
    (λ u. rw same.0 u.1)
    w)
    (λ other. ⊎_elim
    (λ u. rw other.0 (u.1 ∙ omega arith))
    (λ u. absurd (other.1 u.0))
    w)
    (eqb_tells k j)

-- how many more the key counts
more_of : (old new : KeyCounts) (o : Option Key) (i : ℕ) → CountsKey old new o → (k : Key) → count_at new k ≡ count_at old k + length (cond (is_key k o) (i ∷ []) [])
more_of old new None i w (Whole k) = ap (λ (list : List ℕ). slice_index list k) w.0 ∙ omega arith
more_of old new None i w (Partial k) = ap (λ (list : List ℕ). slice_index list k) w.1 ∙ omega arith
more_of old new (Some (Whole j)) i w (Whole k) = by_key k j i _ _ (w.0 k)
more_of old new (Some (Whole j)) i w (Partial k) = ap (λ (list : List ℕ). slice_index list k) w.1 ∙ omega arith
more_of old new (Some (Partial j)) i w (Whole k) = ap (λ (list : List ℕ). slice_index list k) w.0 ∙ omega arith
more_of old new (Some (Partial j)) i w (Partial k) = by_key k j i _ _ (w.1 k)

module _ {X : Type 0} (key : X → Option Key) (there : ℕ → Option X) (i : ℕ) (x : X) (at : there i ≡ Some x) (old new : KeyCounts) (were : AreCountsOf key there i old) where
  wholes_few : (o : Option Key) → CountsKey old new o → (n : ℕ) → before (slice_index new.wholes.items) n ≤ i + 1
  wholes_few None w n = omega (arith, were.wholes n, ap (λ (list : List ℕ). before (slice_index list) n) w.0)
  wholes_few (Some (Whole j)) w n = omega (arith, were.wholes n, one_more_before old.wholes.items new.wholes.items j w.0 n)
  wholes_few (Some (Partial j)) w n = omega (arith, were.wholes n, ap (λ (list : List ℕ). before (slice_index list) n) w.0)

  partials_few : (o : Option Key) → CountsKey old new o → (n : ℕ) → before (slice_index new.partials.items) n ≤ i + 1
  partials_few None w n = omega (arith, were.partials n, ap (λ (list : List ℕ). before (slice_index list) n) w.1)
  partials_few (Some (Whole j)) w n = omega (arith, were.partials n, ap (λ (list : List ℕ). before (slice_index list) n) w.1)
  partials_few (Some (Partial j)) w n = omega (arith, were.partials n, one_more_before old.partials.items new.partials.items j w.1 n)

  pub counted_more : CountsKey old new (key x) → AreCountsOf key there (i + 1) new
  counted_more w = record {
    exact = λ k. omega (
      arith,
      more_of old new (key x) i w k,
      were.exact k,
      ap length (numbers_more key there k i x at),
      length-append (numbers_under key there k i) (cond (is_key k (key x)) (i ∷ []) []),
    );
    wholes = wholes_few (key x) w;
    partials = partials_few (key x) w;
  }

uncounted : (counts : KeyCounts) → counts.wholes.items ≡ [] → counts.partials.items ≡ [] → (k : Key) → count_at counts k ≡ 0
uncounted counts w p (Whole k) = ap (λ (list : List ℕ). slice_index list k) w
uncounted counts w p (Partial k) = ap (λ (list : List ℕ). slice_index list k) p

pub none_counted : {X : Type 0} (key : X → Option Key) (there : ℕ → Option X) (counts : KeyCounts) → counts.wholes.items ≡ [] → counts.partials.items ≡ [] → AreCountsOf key there 0 counts
none_counted key there counts w p = record {
  exact = uncounted counts w p;
  wholes = λ k. le_of_eq (ap (λ (list : List ℕ). before (slice_index list) k) w ∙ before_none (slice_index []) (λ j. refl) k);
  partials = λ k. le_of_eq (ap (λ (list : List ℕ). before (slice_index list) k) p ∙ before_none (slice_index []) (λ j. refl) k);
}

pub form_counted : (forms : List Form) (i : ℕ) (form : Form) → slice_get forms i ≡ Some form → (old new : ByRole KeyCounts) → AreFormCounts forms i old → CountsForm old new form → AreFormCounts forms (i + 1) new
form_counted forms i form at old new were more =
    for_other (λ key counts. AreCountsOf key (slice_get forms) i counts) (λ key before after. CountsKey before after (key form)) (λ key counts. AreCountsOf key (slice_get forms) (i + 1) counts) old new
    (λ key before after was w. counted_more key (slice_get forms) i form at before after was w) were more

-- no kind of key has more than there are
pub few_of : {X : Type 0} (key : X → Option Key) (there : ℕ → Option X) (end : ℕ) (counts : KeyCounts) → end ≤ 4294967295 → AreCountsOf key there end counts → AreFew counts
few_of key there end counts few was = record {
  wholes = omega (arith, was.wholes (length counts.wholes.items), few);
  partials = omega (arith, was.partials (length counts.partials.items), few);
}

pub few_counted : (forms : List Form) (counts : ByRole KeyCounts) → length forms ≤ 4294967295 → AreFormCounts forms (length forms) counts → ForEach (λ key by. AreFew by) counts
few_counted forms counts few are = for_each (λ key by. AreCountsOf key (slice_get forms) (length forms) by) (λ key by. AreFew by) counts
    (λ key by was. few_of key (slice_get forms) (length forms) by few was)
    are

-- ---- where lists start

-- the starts of the lists of the keys before that one, and the end of the last
pub record AreStartsTo (counts starts : List ℕ) (end key : ℕ) : Type 0 where
  pub long : length starts ≡ key
  pub ends : end ≡ before (slice_index counts) key
  pub at : (k : ℕ) → k < key → get_or starts k 0 ≡ before (slice_index counts) k

pub no_starts : (counts starts : List ℕ) → starts ≡ [] → AreStartsTo counts starts 0 0
no_starts counts starts e = record { long = ap length e; ends = refl; at = λ k lt. absurd (omega (arith, lt)) }

module _ (counts starts : List ℕ) (end key : ℕ) (were : AreStartsTo counts starts end key) where
  pub starts_more : AreStartsTo counts (starts ++ end ∷ []) (end + get_or counts key 0) (key + 1)
  starts_more = record {
    long = omega (arith, length_push starts end, were.long);
    ends = ap (λ (n : ℕ). n + get_or counts key 0) were.ends ∙ ap (before (slice_index counts)) (sym (add-one key));
    at = λ k lt. ⊎_elim
        (λ low. get_or_append_left starts (end ∷ []) 0 k (omega (arith, low, were.long)) ∙ were.at k low)
        (λ high. let e : k ≡ key = omega (arith, lt, high) in get_or_push starts end 0 k (were.long ∙ sym e) ∙ were.ends ∙ ap (before (slice_index counts)) (sym e))
        (cases_lt k key);
  }

  pub end_is_few : (most : ℕ) → before (slice_index counts) (length counts) ≤ most → key < length counts → end + get_or counts key 0 ≤ most
  end_is_few most few lt = omega (arith, starts_more.ends, before_rises (slice_index counts) (key + 1) (length counts) (omega (arith, lt)), few)

  pub starts_all : key ≡ length counts → AreStarts (starts ++ end ∷ []) counts
  starts_all all = record {
    at = λ k lt. starts_more.at k (omega (arith, lt, starts_more.long));
    long = λ k. (λ lt. omega (arith, lt, starts_more.long, all), λ lt. omega (arith, lt, starts_more.long, all));
  }

module _ (counts starts : List ℕ) (are : AreStarts starts counts) where
  last_start : 0 < length starts → get_or starts (length starts - 1) 0 ≡ before (slice_index counts) (length counts)
  last_start some =
      let most : length starts ≤ length counts + 1 = ⊎_elim (λ lt. absurd (omega (arith, (are.long (length counts)).1 lt))) (λ le. le) (cases_lt (length counts + 1) (length starts)) in
      let least : length counts + 1 ≤ length starts = ⊎_elim (λ lt. omega (arith, lt, (are.long (length counts - 1)).0 (omega (arith, lt)))) (λ le. omega (arith, le, some)) (cases_lt 0 (length counts)) in
      let place : length starts - 1 ≡ length counts = omega (arith, most, least) in
      are.at (length starts - 1) (omega (arith, some)) ∙ ap (before (slice_index counts)) place

  no_start : length starts ≡ 0 → 0 ≡ before (slice_index counts) (length counts)
  no_start none =
      let few : length counts ≡ 0 = ⊎_elim (λ lt. absurd (omega (arith, none, (are.long 0).0 lt))) (λ le. omega (arith, le)) (cases_lt 0 (length counts)) in
      ap (before (slice_index counts)) (sym few)

  -- the last list ends behind all numbers
  pub last_end : get_or starts (length starts - 1) 0 ≡ before (slice_index counts) (length counts)
  last_end = ⊎_elim
      last_start
      (λ le. let none : length starts ≡ 0 = omega (arith, le) in get_or_past starts (length starts - 1) 0 (omega (arith, none)) ∙ no_start none)
      (cases_lt 0 (length starts))
