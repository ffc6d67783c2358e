-- Flags of the facts that added forms ask for.
use Rattle.std.proofs.Common.{◌≡◌, ◌≢◌, ◌↔◌, ℕ, ◌+◌, ◌<◌, ◌≤◌, ◌⊎◌, inl, inr, ⊎_elim, Bool, true, false, not, List, [], ◌∷◌, ◌++◌, length, replicate, take, get_or, get_or-set_other, get_or-set_same, cond, eqb, slice_get, slice_set, Option, Some, None, Contains, refl, sym, ap, ◌∙◌, subst, arith}
use Rattle.std.proofs.lemmas.Bool.{cases_lt, false≢true}
use Rattle.std.proofs.lemmas.Bool.Decides.{eqb_tells}
use Rattle.std.proofs.lemmas.List.{append-nil, get_or-replicate, get_or_past, length-replicate, take_all}
use Rattle.std.proofs.lemmas.List.Elements.{Contains-append_left, Contains-push, Contains-push_cases, filter_more}
use Rattle.std.proofs.lemmas.Option.{none-some, same_Some}
use Rattle.axioms.specs.declared.ids.ExprId.{ExprId}
use Rattle.facts.specs.declared.contexts.Fact.{Fact}
use Rattle.facts.specs.declared.contexts.Fact.TheVariants.{In, Edge}
use Rattle.normal_forms.specs.declared.forms.Class2.{Class2}
use Rattle.normal_forms.specs.declared.forms.Form.{Form}
use Rattle.facts.specs.Closure.{Problem}
use Rattle.normal_forms.proofs.Filters.{kept as is_kept_of, from_kept, passes}
use Rattle.inference.specs.declared.predicates.Predicate.TheVariants as predicates
use Rattle.inference.specs.declared.predicates.Predicate.{Predicate}
use Rattle.inference.specs.Predicates.{IsLast, SaysAt, end_of, predicate_of}
use Rattle.inference.proofs.Listing.{on_from}
use Rattle.saturate.specs.Requests.{IsAsked, IsAskedAnew, IsAskedByForm, IsNew, IsOfNamed, IsOfNamedClass, IsSuchAt, NamesClass, NewFormAsks}
use Rattle.saturate.specs.Flags.{AreFlaggedToo, AreThoseFlagged, HasOneFlagMore, IsFlagged, IsSuchForOne, is_flagged, is_kept, kept}
use Rattle.saturate.specs.Growth.{KeepsServed}
use Rattle.lemmas.proofs.Members.{Contains-none}
use Rattle.lemmas.proofs.Places.{take_push}

-- ---- those that are flagged, and those that are such

-- what is such in one way is so in another
pub flagged_as : (P Q : ℕ → Type 0) {old new : List Bool} → ((n : ℕ) → P n ↔ Q n) → AreFlaggedToo P old new → AreFlaggedToo Q old new
flagged_as P Q same too = record {
  each = λ n. (
    (λ e. ⊎_elim (λ was. inl was) (λ is. inr ((same n).0 is)) ((too.each n).0 e)),
    (λ h. (too.each n).1 (⊎_elim (λ was. inl was) (λ is. inr ((same n).1 is)) h)),
  );
}

-- where none is such, none is flagged
pub none_too : (P : ℕ → Type 0) (flags : List Bool) → ((n : ℕ) → ¬ P n) → AreFlaggedToo P flags flags
none_too P flags none = record { each = λ n. ((λ e. inl e), (λ h. ⊎_elim (λ was. was) (λ is. absurd (none n is)) h)) }

-- that number
pub flagged_one : (i : ℕ) {old new : List Bool} → HasOneFlagMore i old new → AreFlaggedToo (λ n. n ≡ i) old new
flagged_one i {old} {new} more = record { each = λ n. ⊎_elim (λ w. same n w.1) (λ w. other n w.1) (eqb_tells n i) }
  where
    same : (n : ℕ) → n ≡ i → (is_flagged new n ≡ true) ↔ ((is_flagged old n ≡ true) ⊎ (n ≡ i))
    same n e = ((λ _. inr e), (λ _. ap (is_flagged new) e ∙ more.here))

    other : (n : ℕ) → n ≢ i → (is_flagged new n ≡ true) ↔ ((is_flagged old n ≡ true) ⊎ (n ≡ i))
    other n apart = (
      λ e. inl (sym (more.others n apart) ∙ e),
      λ h. more.others n apart ∙ ⊎_elim (λ was. was) (λ e. absurd (apart e)) h,
    )

-- some, and then others
pub flagged_both : (P Q : ℕ → Type 0) {old mid new : List Bool} → AreFlaggedToo P old mid → AreFlaggedToo Q mid new → AreFlaggedToo (λ n. P n ⊎ Q n) old new
flagged_both P Q first second = record {
  each = λ n. (
    (λ e. ⊎_elim
        (λ mid_has. ⊎_elim (λ was. inl was) (λ p. inr (inl p)) ((first.each n).0 mid_has))
        (λ q. inr (inr q))
        ((second.each n).0 e)),
    (λ h. (second.each n).1 (⊎_elim
        (λ was. inl ((first.each n).1 (inl was)))
        (λ w. ⊎_elim (λ p. inl ((first.each n).1 (inr p))) (λ q. inr q) w)
        h)),
  );
}

-- ---- a walk from the last of the facts that say so to the first

-- from the one before on: that number, and then those behind it
pub walked_on : (q : Predicate) (facts : List Fact) (next : Option ℕ) (number end : ℕ) → next ≡ Some number → SaysAt q facts number → IsLast q facts number end
    → (n : ℕ) → (((end_of next ≤ n) × SaysAt q facts n) ⊎ (n ≡ number)) ↔ ((end ≤ n) × SaysAt q facts n)
walked_on q facts next number end is says last n =
    let same : end_of next ≡ number + 1 = omega (arith, ap end_of is) in
    let on = on_from q facts number end says last n in (
      λ h. on.0 (⊎_elim (λ w. inl (omega (arith, same, w.0), w.1)) (λ e. inr e) h),
      λ w. ⊎_elim (λ v. inl (omega (arith, same, v.0), v.1)) (λ e. inr e) (on.1 w),
    )

-- at the first all of them
pub all_walked : (q : Predicate) (facts : List Fact) (next : Option ℕ) → next ≡ None → (n : ℕ) → ((end_of next ≤ n) × SaysAt q facts n) ↔ SaysAt q facts n
all_walked q facts next is n = (
  λ w. w.1,
  λ says. (omega (arith, ap end_of is), says),
)

-- ---- those that are such for one of a list

module _ {X : Type 0} (Q : X → ℕ → Type 0) (xs : List X) where
  pub for_none : (flags : List Bool) → AreFlaggedToo (IsSuchForOne Q (take 0 xs)) flags flags
  for_none flags = none_too (IsSuchForOne Q (take 0 xs)) flags (λ n w. Contains-none w.0 w.1)

  pub for_one_more : (i : ℕ) (x : X) {old mid new : List Bool} → slice_get xs i ≡ Some x → AreFlaggedToo (IsSuchForOne Q (take i xs)) old mid → AreFlaggedToo (Q x) mid new → AreFlaggedToo (IsSuchForOne Q (take (i + 1) xs)) old new
  for_one_more i x {old} {mid} {new} at first second = subst (λ (ys : List X). AreFlaggedToo (IsSuchForOne Q ys) old new) (sym (take_push xs i x at))
      (flagged_as (λ n. IsSuchForOne Q (take i xs) n ⊎ Q x n) (IsSuchForOne Q (take i xs ++ x ∷ [])) (λ n. (join n, split n)) (flagged_both (IsSuchForOne Q (take i xs)) (Q x) first second))
    where
      split : (n : ℕ) → IsSuchForOne Q (take i xs ++ x ∷ []) n → IsSuchForOne Q (take i xs) n ⊎ Q x n
      split n w = ⊎_elim (λ there. inl (w.0, there, w.2)) (λ e. inr (subst (λ (y : X). Q y n) (sym e) w.2)) (Contains-push_cases (take i xs) x w.0 w.1)

      join : (n : ℕ) → IsSuchForOne Q (take i xs) n ⊎ Q x n → IsSuchForOne Q (take i xs ++ x ∷ []) n
      join n h = ⊎_elim (λ w. (w.0, Contains-append_left (take i xs) (x ∷ []) w.0 w.1, w.2)) (λ is. (x, Contains-push (take i xs) x, is)) h

  pub for_all : (i : ℕ) {old new : List Bool} → length xs ≤ i → AreFlaggedToo (IsSuchForOne Q (take i xs)) old new → AreFlaggedToo (IsSuchForOne Q xs) old new
  for_all i {old} {new} long too = subst (λ (ys : List X). AreFlaggedToo (IsSuchForOne Q ys) old new) (take_all i xs long) too

-- the numbers of a list
pub one_of : (numbers : List ℕ) (n : ℕ) → IsSuchForOne (λ (i k : ℕ). k ≡ i) numbers n ↔ Contains numbers n
one_of numbers n = (
  λ w. subst (Contains numbers) (sym w.2) w.1,
  λ there. (n, there, refl),
)

-- flags that tell which facts are such
pub flagged_by : (P : Fact → Type 0) (facts : List Fact) (flags : List Bool) (n : ℕ) → (is_flagged flags n ≡ true) ↔ IsSuchAt P facts n → IsFlagged P facts flags n
flagged_by P facts flags n tells = record {
  yes = tells.0;
  no = λ off such. false≢true (sym off ∙ tells.1 such);
}

-- a fact is of the class that a form names exactly where it is of one that it names
of_named : (form : Form) (a : Class2) → NamesClass form a → ((b : Class2) → NamesClass form b → b ≡ a) → (f : Fact) → (predicate_of f ≡ predicates.Class a) ↔ IsOfNamed form f
of_named form a names one (In b x) = ((λ is. let same : b ≡ a = cc in subst (NamesClass form) (sym same) names), (λ is. ap predicates.Class (one b is)))
of_named form a names one (Edge x p y) = ((λ is. absurd (cc)), (λ is. absurd is))

-- what is such in one way is so in another, at each number
pub such_as : (P Q : Fact → Type 0) (facts : List Fact) → ((f : Fact) → P f ↔ Q f) → (n : ℕ) → IsSuchAt P facts n ↔ IsSuchAt Q facts n
such_as P Q facts same n = ((λ w. (w.0, w.1, (same w.0).0 w.2)), (λ w. (w.0, w.1, (same w.0).1 w.2)))

-- those of the class are flagged: they are those of the class that the form names
pub named_too : (form : Form) (a : Class2) (named : Option Class2) (facts : List Fact) {old new : List Bool} → ((b : Class2) → NamesClass form b ↔ (named ≡ Some b)) → named ≡ Some a
    → AreFlaggedToo (SaysAt (predicates.Class a) facts) old new → AreFlaggedToo (IsSuchAt (IsOfNamed form) facts) old new
named_too form a named facts names is = flagged_as (SaysAt (predicates.Class a) facts) (IsSuchAt (IsOfNamed form) facts)
    (such_as (λ f. predicate_of f ≡ predicates.Class a) (IsOfNamed form) facts (of_named form a ((names a).1 is) (λ b named_b. same_Some b a (sym ((names b).0 named_b) ∙ is))))

-- where a form names none, no fact is of one
not_named : (form : Form) (f : Fact) → ((b : Class2) → ¬ NamesClass form b) → ¬ IsOfNamed form f
not_named form (In b x) none is = none b is
not_named form (Edge x p y) none is = is

pub none_named : (form : Form) (named : Option Class2) (facts : List Fact) (flags : List Bool) → ((b : Class2) → NamesClass form b ↔ (named ≡ Some b)) → named ≡ None → AreFlaggedToo (IsSuchAt (IsOfNamed form) facts) flags flags
none_named form named facts flags names is = none_too (IsSuchAt (IsOfNamed form) facts) flags (λ n such. not_named form such.0 (λ b named_b. none-some b (sym is ∙ (names b).0 named_b)) such.2)

-- flags of no other facts tell which are such
pub flagged_alone : (P : Fact → Type 0) (Q : ℕ → Type 0) (facts : List Fact) (old new : List Bool) (n : ℕ) → is_flagged old n ≡ false → (Q n ↔ IsSuchAt P facts n) → AreFlaggedToo Q old new → IsFlagged P facts new n
flagged_alone P Q facts old new n off same too = flagged_by P facts new n (
  λ e. ⊎_elim (λ was. absurd (false≢true (sym off ∙ was))) (λ is. same.0 is) ((too.each n).0 e),
  λ such. (too.each n).1 (inr (same.1 such)),
)

-- facts of classes that one of the forms names
pub one_named : (forms : List Form) (facts : List Fact) (n : ℕ) → IsSuchForOne (λ form. IsSuchAt (IsOfNamed form) facts) forms n ↔ IsSuchAt (IsOfNamedClass forms) facts n
one_named forms facts n = (
  λ w. (w.2.0, w.2.1, (w.0, w.1, w.2.2)),
  λ such. (such.2.0, such.2.1, (such.0, such.1, such.2.2)),
)

-- a number that is flagged has a flag
pub flagged_within : (flags : List Bool) (n : ℕ) → is_flagged flags n ≡ true → n < length flags
flagged_within flags n e = ⊎_elim
    (λ (low : n < length flags). low)
    (λ (high : length flags ≤ n). absurd (false≢true (sym (get_or_past flags n false high) ∙ e)))
    (cases_lt n (length flags))

-- none of them has a flag
pub is_none : (bound n : ℕ) → is_flagged (replicate bound false) n ≡ false
is_none bound n = ⊎_elim
    (λ (low : n < bound). get_or-replicate bound n false false low)
    (λ (high : bound ≤ n). get_or_past (replicate bound false) n false (omega (arith, length-replicate bound false, high)))
    (cases_lt n bound)

-- none is
pub none_flagged : (bound : ℕ) (numbers : List ℕ) → numbers ≡ [] → AreThoseFlagged (replicate bound false) numbers
none_flagged bound numbers empty = subst (AreThoseFlagged (replicate bound false)) (sym empty) (λ n. ((λ e. absurd (false≢true (sym (is_none bound n) ∙ e))), (λ c. absurd (Contains-none n c))))

pub by_flag : (b : Bool) → (b ≡ true) ⊎ (b ≡ false)
by_flag true = inl refl
by_flag false = inr refl

-- where no number is, none has a flag
pub no_flag : (flags : List Bool) (numbers : List ℕ) (empty : Bool) → AreThoseFlagged flags numbers → empty ≡ eqb (length numbers) 0 → empty ≡ true → (n : ℕ) → is_flagged flags n ≡ false
no_flag flags numbers empty those is told n = ⊎_elim
    (λ flag. let there = (those n).0 flag in absurd (omega (arith, there.1, long)))
    (λ off. off)
    (by_flag (is_flagged flags n))
  where
    long : length numbers ≡ 0
    long = ⊎_elim (λ w. w.1) (λ w. absurd (false≢true (sym w.0 ∙ sym is ∙ told))) (eqb_tells (length numbers) 0)

-- where none has a flag all are kept
pub all_kept : (flags : List Bool) → ((n : ℕ) → is_flagged flags n ≡ false) → (xs : List ℕ) → kept flags xs ≡ xs
all_kept flags none [] = refl
all_kept flags none (x ∷ xs) = rw (none x) (ap (λ l. x ∷ l) (all_kept flags none xs))

-- the numbers that are flagged, with one more
pub those_and_one : (flags : List Bool) (numbers : List ℕ) (i : ℕ) → i < length flags → AreThoseFlagged flags numbers → AreThoseFlagged (slice_set flags i true) (numbers ++ i ∷ [])
those_and_one flags numbers i low those n = ⊎_elim
    (λ w. same w.1)
    (λ w. other w.1)
    (eqb_tells n i)
  where
    same : n ≡ i → (is_flagged (slice_set flags i true) n ≡ true) ↔ Contains (numbers ++ i ∷ []) n
    same e = subst (λ (k : ℕ). (is_flagged (slice_set flags i true) k ≡ true) ↔ Contains (numbers ++ i ∷ []) k) (sym e) ((λ _. Contains-push numbers i), (λ _. rw get_or-set_same refl))

    other : n ≢ i → (is_flagged (slice_set flags i true) n ≡ true) ↔ Contains (numbers ++ i ∷ []) n
    other apart = (
      λ e. Contains-append_left numbers (i ∷ []) n ((those n).0 (rw get_or-set_other at e)),
      λ c. rw get_or-set_other ((those n).1 (⊎_elim (λ there. there) (λ is. absurd (apart (sym is))) (Contains-push_cases numbers i n c))),
    )

-- the forms and lists that are added ask for the same facts as those that are new
pub asked_as_new : (before now added : Problem) → ((f : Fact) → IsAskedByForm now.forms added.forms f ↔ NewFormAsks before.forms now.forms f) → ((cs : List ExprId) → Contains added.apart.classes cs ↔ IsNew before.apart.classes now.apart.classes cs)
    → (f : Fact) → IsAsked now.forms added f ↔ IsAskedAnew before now f
asked_as_new before now added forms lists f = (
  λ asked. ⊎_elim (λ w. inl ((forms f).0 w)) (λ w. inr (w.0, (lists w.0).0 w.1, w.2)) asked,
  λ asked. ⊎_elim (λ w. inl ((forms f).1 w)) (λ w. inr (w.0, (lists w.0).1 w.1, w.2)) asked,
)

-- flags of facts of one kind are flags of those of another, where the fact is of one exactly where it is of the other
pub flagged_too : (P Q : Fact → Type 0) (facts : List Fact) (flags : List Bool) (n : ℕ) → ((f : Fact) → slice_get facts n ≡ Some f → P f ↔ Q f) → IsFlagged P facts flags n → IsFlagged Q facts flags n
flagged_too P Q facts flags n same flagged = record {
  yes = λ e. let h = flagged.yes e in (h.0, h.1, (same h.0 h.1).0 h.2);
  no = λ e h. flagged.no e (h.0, h.1, (same h.0 h.1).1 h.2);
}

pub not_flagged : (b : Bool) → not b ≡ true → b ≡ false
not_flagged true e = sym e
not_flagged false e = refl

-- those that are not flagged are exactly those that no new form asks for
pub keeps_served : (before now : Problem) (facts : List Fact) (flags : List Bool) (served : List ℕ) → ((n : ℕ) → Contains served n → IsFlagged (IsAskedAnew before now) facts flags n) → KeepsServed before now facts served (kept flags served)
keeps_served before now facts flags served flagged n = (
  λ there. let was = from_kept (is_kept flags) served n there in (was, (flagged n was).no (not_flagged (is_flagged flags n) (passes (is_kept flags) served n there))),
  λ w. is_kept_of (is_kept flags) served n w.0 (⊎_elim (λ yes_flag. absurd (w.1 ((flagged n w.0).yes yes_flag))) (λ no_flag. ap not no_flag) (by_flag (is_flagged flags n))),
)

-- so it is where they are put by a name
pub keeps_served_then : (before now : Problem) (facts : List Fact) (flags : List Bool) (served still : List ℕ) → still ≡ kept flags served
    → ((n : ℕ) → Contains served n → IsFlagged (IsAskedAnew before now) facts flags n) → KeepsServed before now facts served still
keeps_served_then before now facts flags served still is flagged =
    subst (λ (ns : List ℕ). KeepsServed before now facts served ns) (sym is) (keeps_served before now facts flags served flagged)

-- ---- a number more

pub kept_one : (flags : List Bool) (w : List ℕ) (n : ℕ) → is_flagged flags n ≡ false → w ++ kept flags (n ∷ []) ≡ w ++ n ∷ []
kept_one flags w n e = ap (λ b. w ++ cond (not b) (n ∷ []) []) e

pub kept_none : (flags : List Bool) (w : List ℕ) (n : ℕ) → is_flagged flags n ≡ true → w ++ kept flags (n ∷ []) ≡ w
kept_none flags w n e = ap (λ b. w ++ cond (not b) (n ∷ []) []) e ∙ append-nil w

pub kept_more : (flags : List Bool) (xs : List ℕ) (i d : ℕ) → i < length xs → kept flags (take (i + 1) xs) ≡ kept flags (take i xs) ++ kept flags (get_or xs i d ∷ [])
kept_more flags xs i d low = filter_more (is_kept flags) xs i d low
