-- Lists in one piece, as they are filled.
use Rattle.std.proofs.Common.{◌≡◌, ℕ, zero, suc, ◌+◌, ◌-◌, ◌<◌, ◌≤◌, ⊎_elim, false, List, [], ◌∷◌, ◌++◌, length, get_or, take, drop, slice_get, slice_index, Option, Some, None, refl, sym, ap, subst, ◌∙◌, add-one, length-set, length-take, length-drop, get_or-set_same, get_or-set_other, get_or-take, get_or-drop, arith}
use Rattle.std.proofs.lemmas.Bool.{cases_lt, cases_eq}
use Rattle.std.proofs.lemmas.List.{get_or_past, get_or_push, get_or_append_left, get_or_default, length_push, same_lists}
use Rattle.std.proofs.lemmas.Option.{slice_get_within}
use Rattle.std.specs.List.Sorted.{IsNonDecreasing}
use Rattle.indexes.specs.declared.lists.Filling.{Filling}
use Rattle.indexes.specs.Lists.{before, list_at, AreAllListed, HasPlace, IsRoomFor, IsWithin, Places}
use Rattle.normal_forms.specs.declared.forms.Form.{Form}
use Rattle.indexes.specs.declared.keys.Key.{Key}
use Rattle.indexes.specs.declared.keys.Key.TheVariants.{Whole, Partial}
use Rattle.indexes.specs.declared.key_counts.KeyCounts.{KeyCounts}
use Rattle.indexes.specs.declared.key_lists.KeyFilling.{KeyFilling}
use Rattle.indexes.specs.FormsUnderKeys.{is_key, numbers_under}
use Rattle.indexes.specs.Counts.{AreCountsOf, AreFormCounts}
use Rattle.indexes.specs.KeyFillings.{AreFull, HasPlaces, HasPlaceUnder, IsRoomUnder, PlacesForm, PlacesUnder}
use Rattle.indexes.specs.Roles.{ForEach, ForEachTwo}
use Rattle.indexes.specs.declared.roles.ByRole.{ByRole}
use Rattle.indexes.proofs.ByRoles.{for_each, for_other}
use Rattle.indexes.proofs.Counting.{before_next, before_none, before_rises, numbers_rise, numbers_to_come, numbers_with, numbers_without, other_key}

no_length : (xs : List ℕ) → length xs ≡ 0 → xs ≡ []
no_length [] e = refl
no_length (x ∷ xs) e = absurd (omega (arith, e))

-- a part of the list of each key stands where it starts, and each list has its place behind those of the keys below
pub record IsFilling (whole part : ℕ → List ℕ) (f : Filling) : Type 0 where
  pub long : length f.next.items ≡ length f.starts.items
  pub few : length f.numbers.items ≤ 4294967295
  pub steps : (k : ℕ) → k + 1 < length f.starts.items → get_or f.starts.items (k + 1) 0 ≡ get_or f.starts.items k 0 + length (whole k)
  pub end : (k : ℕ) → k + 1 < length f.starts.items → get_or f.starts.items (k + 1) 0 ≤ length f.numbers.items
  pub none : (k : ℕ) → length f.starts.items ≤ k + 1 → whole k ≡ []
  pub all : ((k : ℕ) → whole k ≡ []) → length f.numbers.items ≡ 0
  pub fits : (k : ℕ) → length (part k) ≤ length (whole k)
  pub next : (k : ℕ) → k + 1 < length f.starts.items → get_or f.next.items k 0 ≡ get_or f.starts.items k 0 + length (part k)
  pub parts : (k m : ℕ) → k + 1 < length f.starts.items → m < length (part k) → get_or f.numbers.items (get_or f.starts.items k 0 + m) 0 ≡ get_or (part k) m 0

-- ---- no number is there yet

module _ (counts : List ℕ) (f : Filling) (whole : ℕ → List ℕ) (room : IsRoomFor counts f) (few : before (slice_index counts) (length counts) ≤ 4294967295) (counted : (k : ℕ) → get_or counts k 0 ≡ length (whole k)) where
  pub nothing_filled : IsFilling whole (λ k. []) f
  nothing_filled = record {
    long = ap length room.next;
    few = omega (arith, room.long, few);
    steps = λ k lt. omega (arith, before_next (slice_index counts) k, room.starts.at (k + 1) lt, room.starts.at k (omega (arith, lt)), counted k);
    end = λ k lt. omega (arith, room.starts.at (k + 1) lt, room.long, before_rises (slice_index counts) (k + 1) (length counts) (omega (arith, (room.starts.long k).1 lt)));
    none = λ k ge. no_length (whole k) (sym (counted k) ∙ get_or_past counts k 0 (⊎_elim (λ lt. absurd (omega (arith, (room.starts.long k).0 lt, ge))) (λ le. le) (cases_lt k (length counts))));
    all = λ nothing. room.long ∙ before_none (slice_index counts) (λ k. counted k ∙ ap length (nothing k)) (length counts);
    fits = λ k. omega arith;
    next = λ k lt. ap (λ (list : List ℕ). get_or list k 0) room.next ∙ omega arith;
    parts = λ k m lt low. absurd (omega (arith, low));
  }

-- ---- one number more

module _ (whole part : ℕ → List ℕ) (f : Filling) (was : IsFilling whole part f) where
  next_start : (k : ℕ) → suc k < length f.starts.items → get_or f.starts.items (suc k) 0 ≡ get_or f.starts.items k 0 + length (whole k)
  next_start k lt = ap (λ (n : ℕ). get_or f.starts.items n 0) (sym (add-one k)) ∙ was.steps k (omega (arith, lt))

  -- a list ends before those of greater keys start
  starts_rise : (k j : ℕ) → k < j → j < length f.starts.items → get_or f.starts.items k 0 + length (whole k) ≤ get_or f.starts.items j 0
  starts_rise k zero lt low = absurd (omega (arith, lt))
  starts_rise k (suc j) lt low = ⊎_elim
      (λ l. omega (arith, starts_rise k j l (omega (arith, low)), next_start j (omega (arith, low))))
      (λ g. let e : k ≡ j = omega (arith, lt, g) in rw e (omega (arith, next_start j (omega (arith, low)))))
      (cases_lt k j)

  pub has_place : (key : ℕ) → length (part key) < length (whole key) → HasPlace f key
  has_place key more =
      let there : key + 1 < length f.starts.items = ⊎_elim (λ lt. lt) (λ ge. absurd (omega (arith, more, ap length (was.none key ge)))) (cases_lt (key + 1) (length f.starts.items)) in
      record {
        there = omega (arith, was.long, there);
        room = omega (arith, was.next key there, was.steps key there, was.end key there, more);
        few = was.few;
      }

  module _ (g : Filling) (key number : ℕ) (places : Places f g key number) (fuller : ℕ → List ℕ) (more : length (part key) < length (whole key)) (one_more : fuller key ≡ part key ++ number ∷ []) (others : (k : ℕ) → (k ≡ key → ⊥) → fuller k ≡ part k) where
    there : key + 1 < length f.starts.items
    there = ⊎_elim (λ lt. lt) (λ ge. absurd (omega (arith, more, ap length (was.none key ge)))) (cases_lt (key + 1) (length f.starts.items))

    longer : length (fuller key) ≡ length (part key) + 1
    longer = ap length one_more ∙ length_push (part key) number

    same_length : length g.starts.items ≡ length f.starts.items
    same_length = ap length places.starts

    start_is : (k : ℕ) → get_or g.starts.items k 0 ≡ get_or f.starts.items k 0
    start_is k = ap (λ (list : List ℕ). get_or list k 0) places.starts

    abbrev place : ℕ
    place = get_or f.next.items key 0

    numbers_long : length g.numbers.items ≡ length f.numbers.items
    numbers_long = ap length places.numbers ∙ length-set f.numbers.items place number

    next_is : (k : ℕ) → k + 1 < length f.starts.items → get_or g.next.items k 0 ≡ get_or f.starts.items k 0 + length (fuller k)
    next_is k lt = ap (λ (list : List ℕ). get_or list k 0) places.next ∙ ⊎_elim
        (λ e. rw e (get_or-set_same f.next.items key (place + 1) 0 (omega (arith, was.long, there)) ∙ omega (arith, was.next key there, longer)))
        (λ ne. get_or-set_other f.next.items key k (place + 1) 0 ne ∙ was.next k lt ∙ ap (λ (list : List ℕ). get_or f.starts.items k 0 + length list) (sym (others k ne)))
        (cases_eq k key)

    -- the number of another place stays
    stays : (q : ℕ) → (q ≡ place → ⊥) → get_or g.numbers.items q 0 ≡ get_or f.numbers.items q 0
    stays q ne = ap (λ (list : List ℕ). get_or list q 0) places.numbers ∙ get_or-set_other f.numbers.items place q number 0 ne

    -- the place of a number of another key is another
    apart : (k m : ℕ) → (k ≡ key → ⊥) → k + 1 < length f.starts.items → m < length (part k) → get_or f.starts.items k 0 + m ≡ place → ⊥
    apart k m ne lt low e = ⊎_elim
        (λ below. omega (arith, e, low, was.fits k, was.next key there, starts_rise k key below (omega (arith, there))))
        (λ above. omega (arith, e, more, was.next key there, starts_rise key k (⊎_elim (λ l. l) (λ ge. absurd (ne (omega (arith, above, ge)))) (cases_lt key k)) (omega (arith, lt))))
        (cases_lt k key)

    key_parts : (m : ℕ) → m < length (fuller key) → get_or g.numbers.items (get_or f.starts.items key 0 + m) 0 ≡ get_or (fuller key) m 0
    key_parts m low = ⊎_elim
        (λ old. stays (get_or f.starts.items key 0 + m) (λ e. omega (arith, e, old, was.next key there)) ∙ was.parts key m there old ∙ sym (ap (λ (list : List ℕ). get_or list m 0) one_more ∙ get_or_append_left (part key) (number ∷ []) 0 m old))
        (λ new.
        let last : m ≡ length (part key) = omega (arith, low, longer, new) in
        let at : get_or f.starts.items key 0 + m ≡ place = omega (arith, was.next key there, last) in
        ap (λ (q : ℕ). get_or g.numbers.items q 0) at
        ∙ ap (λ (list : List ℕ). get_or list place 0) places.numbers
        ∙ get_or-set_same f.numbers.items place number 0 (has_place key more).room
        ∙ sym (ap (λ (list : List ℕ). get_or list m 0) one_more ∙ get_or_push (part key) number 0 m (sym last)))
        (cases_lt m (length (part key)))

    all_parts : (k m : ℕ) → k + 1 < length f.starts.items → m < length (fuller k) → get_or g.numbers.items (get_or f.starts.items k 0 + m) 0 ≡ get_or (fuller k) m 0
    all_parts k m lt low = ⊎_elim
        (λ e. rw e (key_parts m (rw e at low)))
        (λ ne.
        let old : m < length (part k) = rw (others k ne) at low in
        stays (get_or f.starts.items k 0 + m) (apart k m ne lt old) ∙ was.parts k m lt old ∙ ap (λ (list : List ℕ). get_or list m 0) (sym (others k ne)))
        (cases_eq k key)

    pub filled_more : IsFilling whole fuller g
    filled_more = record {
      long = ap length places.next ∙ length-set f.next.items key (place + 1) ∙ was.long ∙ sym same_length;
      few = omega (arith, numbers_long, was.few);
      steps = λ k lt. start_is (k + 1) ∙ was.steps k (omega (arith, same_length, lt)) ∙ ap (λ (n : ℕ). n + length (whole k)) (sym (start_is k));
      end = λ k lt. omega (arith, start_is (k + 1), was.end k (omega (arith, same_length, lt)), numbers_long);
      none = λ k ge. was.none k (omega (arith, same_length, ge));
      all = λ nothing. numbers_long ∙ was.all nothing;
      fits = λ k. ⊎_elim
          (λ e. rw e (omega (arith, longer, more)))
          (λ ne. omega (arith, ap length (others k ne), was.fits k))
          (cases_eq k key);
      next = λ k lt. next_is k (omega (arith, same_length, lt)) ∙ ap (λ (n : ℕ). n + length (fuller k)) (sym (start_is k));
      parts = λ k m lt low. ap (λ (n : ℕ). get_or g.numbers.items (n + m) 0) (start_is k) ∙ all_parts k m (omega (arith, same_length, lt)) low;
    }

-- ---- all numbers are there

module _ (whole : ℕ → List ℕ) (f : Filling) (full : IsFilling whole whole f) where
  pub lists_are : (k : ℕ) → list_at f.starts.items f.numbers.items k ≡ whole k
  lists_are k = ⊎_elim
      (λ lt.
      let from = get_or f.starts.items k 0 in
      let many : get_or f.starts.items (k + 1) 0 - from ≡ length (whole k) = omega (arith, full.steps k lt) in
      let long : length (take (length (whole k)) (drop from f.numbers.items)) ≡ length (whole k) = omega (arith, length-take (length (whole k)) (drop from f.numbers.items), length-drop from f.numbers.items, full.steps k lt, full.end k lt) in
      ap (λ (n : ℕ). take n (drop from f.numbers.items)) many ∙ same_lists _ _ long (λ m d low.
      let there : m < length (whole k) = omega (arith, low, long) in
      get_or-take (length (whole k)) (drop from f.numbers.items) m d there
      ∙ get_or-drop from f.numbers.items m d
      ∙ get_or_default f.numbers.items (from + m) d 0 (omega (arith, there, full.steps k lt, full.end k lt))
      ∙ full.parts k m lt there
      ∙ get_or_default (whole k) m 0 d there))
      (λ ge.
      let none : get_or f.starts.items (k + 1) 0 ≡ 0 = get_or_past f.starts.items (k + 1) 0 ge in
      let few : get_or f.starts.items (k + 1) 0 - get_or f.starts.items k 0 ≡ 0 = omega (arith, none) in
      ap (λ (n : ℕ). take n (drop (get_or f.starts.items k 0) f.numbers.items)) few ∙ sym (full.none k ge))
      (cases_lt (k + 1) (length f.starts.items))

  pub full_within : IsWithin f.starts.items f.numbers.items
  full_within k lt = (omega (arith, full.steps k lt), full.end k lt)

  pub full_listed : AreAllListed f.starts.items f.numbers.items
  full_listed nothing = no_length f.numbers.items (full.all (λ k. sym (lists_are k) ∙ nothing k))

  pub full_ascends : ((k : ℕ) → IsNonDecreasing (whole k)) → (k : ℕ) → IsNonDecreasing (list_at f.starts.items f.numbers.items k)
  full_ascends rise k = subst IsNonDecreasing (sym (lists_are k)) (rise k)

-- ---- lists of both kinds

-- of what is there below the end, the numbers below n of those with each key stand in their lists
pub record AreFilled {X : Type 0} (key : X → Option Key) (there : ℕ → Option X) (end n : ℕ) (f : KeyFilling) : Type 0 where
  pub wholes : IsFilling (λ k. numbers_under key there (Whole k) end) (λ k. numbers_under key there (Whole k) n) f.wholes
  pub partials : IsFilling (λ k. numbers_under key there (Partial k) end) (λ k. numbers_under key there (Partial k) n) f.partials

same_parts : (whole part same : ℕ → List ℕ) (f : Filling) → ((k : ℕ) → same k ≡ part k) → IsFilling whole part f → IsFilling whole same f
same_parts whole part same f are w = record {
  long = w.long;
  few = w.few;
  steps = w.steps;
  end = w.end;
  none = w.none;
  all = w.all;
  fits = λ k. omega (arith, ap length (are k), w.fits k);
  next = λ k lt. omega (arith, ap length (are k), w.next k lt);
  parts = λ k m lt low. w.parts k m lt (omega (arith, ap length (are k), low)) ∙ ap (λ (list : List ℕ). get_or list m 0) (sym (are k));
}

module _ {X : Type 0} (key : X → Option Key) (there : ℕ → Option X) (end i : ℕ) (x : X) (at : there i ≡ Some x) (low : i < end) (old new : KeyFilling) (were : AreFilled key there end i old) where
  pub has_place_under : (o : Option Key) → key x ≡ o → HasPlaceUnder old o
  has_place_under None e = tt
  has_place_under (Some (Whole k)) e = has_place _ _ old.wholes were.wholes k (numbers_to_come key there (Whole k) i end x at e low)
  has_place_under (Some (Partial k)) e = has_place _ _ old.partials were.partials k (numbers_to_come key there (Partial k) i end x at e low)

  -- the lists of the other keys stay
  stays_without : (o : Option Key) → key x ≡ o → (k : Key) → is_key k o ≡ false → numbers_under key there k (i + 1) ≡ numbers_under key there k i
  stays_without o e k not = numbers_without key there k i x at (ap (is_key k) e ∙ not)

  wholes_stay : (o : Option Key) → key x ≡ o → ((k : ℕ) → is_key (Whole k) o ≡ false) → new.wholes ≡ old.wholes → IsFilling (λ k. numbers_under key there (Whole k) end) (λ k. numbers_under key there (Whole k) (i + 1)) new.wholes
  wholes_stay o e not same = subst (λ (f : Filling). IsFilling (λ k. numbers_under key there (Whole k) end) (λ k. numbers_under key there (Whole k) (i + 1)) f) (sym same)
      (same_parts _ (λ k. numbers_under key there (Whole k) i) _ old.wholes (λ k. stays_without o e (Whole k) (not k)) were.wholes)

  partials_stay : (o : Option Key) → key x ≡ o → ((k : ℕ) → is_key (Partial k) o ≡ false) → new.partials ≡ old.partials → IsFilling (λ k. numbers_under key there (Partial k) end) (λ k. numbers_under key there (Partial k) (i + 1)) new.partials
  partials_stay o e not same = subst (λ (f : Filling). IsFilling (λ k. numbers_under key there (Partial k) end) (λ k. numbers_under key there (Partial k) (i + 1)) f) (sym same)
      (same_parts _ (λ k. numbers_under key there (Partial k) i) _ old.partials (λ k. stays_without o e (Partial k) (not k)) were.partials)

  pub filled_under : (o : Option Key) → key x ≡ o → PlacesUnder old new o i → AreFilled key there end (i + 1) new
  filled_under None e w = record {
    wholes = wholes_stay None e (λ k. refl) (ap (λ (f : KeyFilling). f.wholes) w);
    partials = partials_stay None e (λ k. refl) (ap (λ (f : KeyFilling). f.partials) w);
  }
  filled_under (Some (Whole k)) e w = record {
    wholes = filled_more _ (λ j. numbers_under key there (Whole j) i) old.wholes were.wholes new.wholes k i w.0 (λ j. numbers_under key there (Whole j) (i + 1)) (numbers_to_come key there (Whole k) i end x at e low) (numbers_with key there (Whole k) i x at e)
        (λ j ne. stays_without (Some (Whole k)) e (Whole j) (other_key (Whole j) (Whole k) (λ s. ne (cc))));
    partials = partials_stay (Some (Whole k)) e (λ j. refl) w.1;
  }
  filled_under (Some (Partial k)) e w = record {
    wholes = wholes_stay (Some (Partial k)) e (λ j. refl) w.0;
    partials = filled_more _ (λ j. numbers_under key there (Partial j) i) old.partials were.partials new.partials k i w.1 (λ j. numbers_under key there (Partial j) (i + 1)) (numbers_to_come key there (Partial k) i end x at e low) (numbers_with key there (Partial k) i x at e)
        (λ j ne. stays_without (Some (Partial k)) e (Partial j) (other_key (Partial j) (Partial k) (λ s. ne (cc))));
  }

-- none of the numbers is there yet
pub none_filled_under : {X : Type 0} (key : X → Option Key) (there : ℕ → Option X) (end : ℕ) (counts : KeyCounts) (f : KeyFilling) → end ≤ 4294967295 → AreCountsOf key there end counts → IsRoomUnder counts f → AreFilled key there end 0 f
none_filled_under key there end counts f few was w = record {
  wholes = nothing_filled counts.wholes.items f.wholes (λ k. numbers_under key there (Whole k) end) w.wholes (omega (arith, was.wholes (length counts.wholes.items), few)) (λ k. was.exact (Whole k));
  partials = nothing_filled counts.partials.items f.partials (λ k. numbers_under key there (Partial k) end) w.partials (omega (arith, was.partials (length counts.partials.items), few)) (λ k. was.exact (Partial k));
}

-- all are placed, so the lists are full
pub full_under : {X : Type 0} (key : X → Option Key) (there : ℕ → Option X) (end : ℕ) (f : KeyFilling) → AreFilled key there end end f → AreFull f
full_under key there end f was = record {
  wholes = record { within = full_within _ f.wholes was.wholes; listed = full_listed _ f.wholes was.wholes; ascending = full_ascends _ f.wholes was.wholes (λ k. numbers_rise key there (Whole k) end) };
  partials = record { within = full_within _ f.partials was.partials; listed = full_listed _ f.partials was.partials; ascending = full_ascends _ f.partials was.partials (λ k. numbers_rise key there (Partial k) end) };
}

-- ---- by each of the keys

-- the numbers below n of the forms with each key stand in their lists
abbrev pub AreAllFilled : List Form → ℕ → ByRole KeyFilling → Type 0
AreAllFilled forms n filling = ForEach (λ key by. AreFilled key (slice_get forms) (length forms) n by) filling

pub none_filled : (forms : List Form) (counts : ByRole KeyCounts) (filling : ByRole KeyFilling) → length forms ≤ 4294967295 → AreFormCounts forms (length forms) counts
    → ForEachTwo (λ key by room. IsRoomUnder by room) counts filling → AreAllFilled forms 0 filling
none_filled forms counts filling few are room =
    for_other (λ key by. AreCountsOf key (slice_get forms) (length forms) by) (λ key by f. IsRoomUnder by f) (λ key f. AreFilled key (slice_get forms) (length forms) 0 f) counts filling
    (λ key by f was w. none_filled_under key (slice_get forms) (length forms) by f few was w)
    are room

module _ (forms : List Form) (i : ℕ) (form : Form) (at : slice_get forms i ≡ Some form) where
  low : i < length forms
  low = slice_get_within forms i form at

  pub has_places : (filling : ByRole KeyFilling) → AreAllFilled forms i filling → HasPlaces filling form
  has_places filling were = for_each (λ key f. AreFilled key (slice_get forms) (length forms) i f) (λ key f. HasPlaceUnder f (key form)) filling
      (λ key f was. has_place_under key (slice_get forms) (length forms) i form at low f f was (key form) refl) were

  pub form_filled : (old new : ByRole KeyFilling) → AreAllFilled forms i old → PlacesForm old new form i → AreAllFilled forms (i + 1) new
  form_filled old new were places = for_other (λ key f. AreFilled key (slice_get forms) (length forms) i f) (λ key f g. PlacesUnder f g (key form) i) (λ key g. AreFilled key (slice_get forms) (length forms) (i + 1) g) old new
      (λ key f g was w. filled_under key (slice_get forms) (length forms) i form at low f g was (key form) refl w) were places

-- all forms are placed
pub all_filled : (forms : List Form) (n end : ℕ) (filling : ByRole KeyFilling) → n ≤ end → end ≤ n → end ≡ length forms → AreAllFilled forms n filling → AreAllFilled forms (length forms) filling
all_filled forms n end filling low high all were =
    let same : n ≡ length forms = omega (arith, low, high, all) in
    subst (λ (m : ℕ). AreAllFilled forms m filling) same were

-- so the lists are full
pub all_full : (forms : List Form) (filling : ByRole KeyFilling) → AreAllFilled forms (length forms) filling → ForEach (λ key by. AreFull by) filling
all_full forms filling are = for_each (λ key f. AreFilled key (slice_get forms) (length forms) (length forms) f) (λ key f. AreFull f) filling
    (λ key f was. full_under key (slice_get forms) (length forms) f was)
    are
