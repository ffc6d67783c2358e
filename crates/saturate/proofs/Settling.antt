-- Numbers that are settled: which are left where some go, and what is settled then.
use Rattle.std.proofs.Common.{◌≡◌, ◌↔◌, ◌≢◌, ◌⊎◌, ℕ, ◌+◌, ◌<◌, ◌≤◌, ◌&&◌, inl, inr, ⊎_elim, Bool, true, false, not, cond, List, [], ◌∷◌, ◌++◌, length, replicate, get_or-set_other, get_or-set_same, slice_set, Contains, filter, refl, sym, ap, ◌∙◌, subst, arith, rules}
use Rattle.std.proofs.lemmas.Bool.{false≢true}
use Rattle.std.proofs.lemmas.Bool.Decides.{eqb_tells}
use Rattle.std.proofs.lemmas.List.{length-replicate}
use Rattle.std.proofs.lemmas.List.Elements.{Contains-append_left, Contains-push, Contains-push_cases}
use Rattle.std.proofs.lemmas.List.Filters.{length-filter_both}
use Rattle.axioms.proofs.Growing.{AreDistinct-push}
use Rattle.lemmas.proofs.Members.{Contains-first, Contains-later}
use Rattle.normal_forms.proofs.Filters.{kept as passing, from_kept, passes}
use Rattle.saturate.specs.Flags.{asked, is_flagged, is_kept, kept, AreThoseFlagged}
use Rattle.saturate.specs.Settling.{AreAllOnce, AreEachOnce, IsSettled, TakesOut}
use Rattle.saturate.proofs.Flagging.{all_kept, by_flag, is_none, not_flagged}
use Rattle.saturate.proofs.Turns.{asked_distinct, as_many, kept_distinct}

-- as long as none is gone
pub all_left : (numbers : List ℕ) (long : ℕ) → kept (replicate long false) numbers ≡ numbers
all_left numbers long = all_kept (replicate long false) (is_none long) numbers

-- all of them are left
pub all_settled : (numbers : List ℕ) (long : ℕ) → AreAllOnce numbers → long ≡ length numbers → IsSettled numbers (replicate long false) long
all_settled numbers long whole is = record {
  whole = whole;
  long = length-replicate long false ∙ is;
  count = is ∙ sym (ap length (all_left numbers long));
}

-- ---- numbers go

module _ {numbers out : List ℕ} {old mid : List Bool} (number : ℕ) (s : TakesOut numbers old mid out) where
  -- one that has a flag, and was not gone
  pub one_out : number < length mid → is_flagged mid number ≡ false → TakesOut (numbers ++ number ∷ []) old (slice_set mid number true) (out ++ number ∷ [])
  one_out low off = record {
    long = omega (arith, length-slice_set, s.long);
    distinct = AreDistinct-push out number s.distinct (λ c. absurd (false≢true (sym off ∙ (s.gone number).1 (inr c))));
    each = λ n. (
      λ c. ⊎_elim
          (λ before. let w = (s.each n).0 before in (w.0, w.1, Contains-append_left numbers (number ∷ []) n w.2))
          (λ is. subst (λ (k : ℕ). (k < length old) × (is_flagged old k ≡ false) × Contains (numbers ++ number ∷ []) k) is (omega (arith, low, s.long), was_off, Contains-push numbers number))
          (Contains-push_cases out number n c),
      λ w. ⊎_elim
          (λ before. Contains-append_left out (number ∷ []) n ((s.each n).1 (w.0, w.1, before)))
          (λ is. subst (λ (k : ℕ). Contains (out ++ number ∷ []) k) is (Contains-push out number))
          (Contains-push_cases numbers number n w.2),
    );
    gone = λ n. ⊎_elim (λ w. here n w.1) (λ w. elsewhere n w.1) (eqb_tells n number);
  }
    where
      length-slice_set : length (slice_set mid number true) ≡ length mid
      length-slice_set = search rules

      was_off : is_flagged old number ≡ false
      was_off = ⊎_elim (λ on. absurd (false≢true (sym off ∙ (s.gone number).1 (inl on)))) (λ e. e) (by_flag (is_flagged old number))

      here : (n : ℕ) → n ≡ number → (is_flagged (slice_set mid number true) n ≡ true) ↔ ((is_flagged old n ≡ true) ⊎ Contains (out ++ number ∷ []) n)
      here n is = subst (λ (k : ℕ). (is_flagged (slice_set mid number true) k ≡ true) ↔ ((is_flagged old k ≡ true) ⊎ Contains (out ++ number ∷ []) k)) (sym is)
          ((λ _. inr (Contains-push out number)), (λ _. rw get_or-set_same refl))

      elsewhere : (n : ℕ) → n ≢ number → (is_flagged (slice_set mid number true) n ≡ true) ↔ ((is_flagged old n ≡ true) ⊎ Contains (out ++ number ∷ []) n)
      elsewhere n apart = (
        λ e. ⊎_elim (λ on. inl on) (λ c. inr (Contains-append_left out (number ∷ []) n c)) ((s.gone n).0 (rw get_or-set_other at e)),
        λ w. rw get_or-set_other ((s.gone n).1 (⊎_elim (λ on. inl on) (λ c. ⊎_elim (λ before. inr before) (λ is. absurd (apart (sym is))) (Contains-push_cases out number n c)) w)),
      )

  -- one that has none, or is gone
  pub none_more : (number < length mid → is_flagged mid number ≡ true) → TakesOut (numbers ++ number ∷ []) old mid out
  none_more on = record {
    long = s.long;
    distinct = s.distinct;
    each = λ n. (
      λ c. (let w = (s.each n).0 c in (w.0, w.1, Contains-append_left numbers (number ∷ []) n w.2)),
      λ w. ⊎_elim
          (λ before. (s.each n).1 (w.0, w.1, before))
          (λ is. ⊎_elim
          (λ flag. absurd (false≢true (sym w.1 ∙ flag)))
          (λ there. there)
          ((s.gone n).0 (subst (λ (k : ℕ). is_flagged mid k ≡ true) is (on (subst (λ (k : ℕ). k < length mid) (sym is) (subst (λ (k : ℕ). n < k) (sym s.long) w.0))))))
          (Contains-push_cases numbers number n w.2),
    );
    gone = s.gone;
  }

-- ---- what is left

-- of those that pass one test and then another, where these two are a third of what is in the list
filtered_twice : (p q r : ℕ → Bool) (xs : List ℕ) → ((n : ℕ) → Contains xs n → r n ≡ (q n && p n)) → filter p (filter q xs) ≡ filter r xs
filtered_twice p q r [] is = refl
filtered_twice p q r (x ∷ xs) is = go (q x) (p x) (r x) refl (is x (Contains-first x xs)) (filtered_twice p q r xs (λ n c. is n (Contains-later x n xs c)))
  where
    go : (b c e : Bool) → p x ≡ c → e ≡ (b && c) → filter p (filter q xs) ≡ filter r xs → filter p (cond b (x ∷ filter q xs) (filter q xs)) ≡ cond e (x ∷ filter r xs) (filter r xs)
    go true true e f g rest = rw (f, g) (ap (λ l. x ∷ l) rest)
    go true false e f g rest = rw (f, g) rest
    go false c e f g rest = rw g rest

-- numbers of a list are gone where they are flagged
module _ (flags : List Bool) {numbers those out : List ℕ} {old new : List Bool} {left : ℕ} (s : IsSettled numbers old left) (flagged : AreThoseFlagged flags those) (t : TakesOut those old new out) where
  low : (n : ℕ) → Contains numbers n → n < length old
  low n c = subst (λ (k : ℕ). n < k) (sym s.long) ((s.whole.all n).0 c)

  both : (n : ℕ) → Contains numbers n → is_kept new n ≡ (is_kept old n && is_kept flags n)
  both n c = ⊎_elim
      (λ on. ap not ((t.gone n).1 (inl on)) ∙ sym (ap (λ b. not b && is_kept flags n) on))
      (λ off. ⊎_elim
      (λ flag. ap not ((t.gone n).1 (inr ((t.each n).1 (low n c, off, (flagged n).0 flag)))) ∙ sym (ap (λ b. not b && is_kept flags n) off ∙ ap not flag))
      (λ none. ap not (still off none) ∙ sym (ap (λ b. not b && is_kept flags n) off ∙ ap not none))
      (by_flag (is_flagged flags n)))
      (by_flag (is_flagged old n))
    where
      still : is_flagged old n ≡ false → is_flagged flags n ≡ false → is_flagged new n ≡ false
      still off none = ⊎_elim
          (λ on. ⊎_elim
          (λ flag. absurd (false≢true (sym off ∙ flag)))
          (λ there. absurd (false≢true (sym none ∙ (flagged n).1 ((t.each n).0 there).2)))
          ((t.gone n).0 on))
          (λ e. e)
          (by_flag (is_flagged new n))

  -- those that are left are those of before that are not flagged
  pub left_then : kept new numbers ≡ kept flags (kept old numbers)
  left_then = sym (filtered_twice (is_kept flags) (is_kept old) (is_kept new) numbers both)

  -- and those that go are those that are
  pub out_then : AreEachOnce out (asked flags (kept old numbers))
  out_then = record {
    distinct = t.distinct;
    each = λ n. (
      λ c.
          let w = (t.each n).0 c in
          passing (is_flagged flags) (kept old numbers) n (passing (is_kept old) numbers n ((s.whole.all n).1 (subst (λ (k : ℕ). n < k) s.long w.0)) (ap not w.1)) ((flagged n).1 w.2),
      λ c.
          let was = from_kept (is_flagged flags) (kept old numbers) n c in
          let there = from_kept (is_kept old) numbers n was in
          (t.each n).1 (low n there, not_flagged (is_flagged old n) (passes (is_kept old) numbers n was), (flagged n).0 (passes (is_flagged flags) (kept old numbers) n c)),
    );
  }

  as_many_out : length out ≡ length (asked flags (kept old numbers))
  as_many_out = as_many out (asked flags (kept old numbers)) t.distinct (asked_distinct flags (kept old numbers) (kept_distinct old numbers s.whole.distinct)) out_then.each

  pub few_out : length out ≤ left
  few_out = omega (arith, as_many_out, length-filter_both (is_flagged flags) (is_kept flags) (λ _. refl) (kept old numbers), s.count)

  pub settled_then : (now : ℕ) → now + length out ≡ left → IsSettled numbers new now
  settled_then now is = record {
    whole = s.whole;
    long = t.long ∙ s.long;
    count = omega (arith, is, as_many_out, length-filter_both (is_flagged flags) (is_kept flags) (λ _. refl) (kept old numbers), s.count, ap length left_then);
  }
