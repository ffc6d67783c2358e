-- What the index lists where numbers are taken out.
use Rattle.std.proofs.Common.{◌≡◌, ℕ, inl, inr, ⊎_elim, Bool, true, false, not, ◌↔◌, ◌&&◌, cond, List, [], ◌∷◌, ◌++◌, slice_get, Some, None, Contains, filter, refl, sym, ap, ◌∙◌, subst, ne_eqb, eq-eqb}
use Rattle.std.proofs.lemmas.Bool.{false≢true}
use Rattle.std.proofs.lemmas.Bool.Decides.{eqb_tells}
use Rattle.std.proofs.lemmas.List.{append-nil}
use Rattle.std.proofs.lemmas.List.Elements.{Contains-append_left, Contains-push, Contains-push_cases, filter_agree, filter-append}
use Rattle.normal_forms.proofs.Filters.{kept as passing, from_kept, passes}
use Rattle.facts.specs.declared.contexts.Context.{Context}
use Rattle.facts.specs.declared.contexts.Fact.{Fact}
use Rattle.facts.specs.Closure.{Problem}
use Rattle.indexes.specs.declared.by_context.ByContext.{ByContext}
use Rattle.indexes.specs.declared.index.Index.{Index}
use Rattle.indexes.specs.Tables.{is_other, without}
use Rattle.indexes.specs.Contexts.{at_context}
use Rattle.indexes.specs.Parts.{ArePartOf, none, taken, left_out}
use Rattle.indexes.proofs.Parts.{part_same}
use Rattle.indexes.specs.FactIndex.{IsIn, IsFrom, IsInto, ListsIn, Removes, RemovesIn}
use Rattle.inference.specs.Derivations.{Derived}
use Rattle.inference.proofs.Lists.{one_value}
use Rattle.lemmas.proofs.Members.{Contains-first, Contains-later, Contains-none}
use Rattle.saturate.specs.Flags.{AreThoseFlagged, is_flagged, is_kept, kept, ListsServedStill, ListsThoseKept}
use Rattle.saturate.specs.IndexedFacts.{ListsFacts, ListsNeeded}
use Rattle.saturate.proofs.Flagging.{by_flag}
use Rattle.saturate.proofs.Listing.{fewer}

-- ---- filters

-- what passes of a list is of it, and in its order
part_filter : (p : ℕ → Bool) (xs : List ℕ) → ArePartOf (filter p xs) xs
part_filter p [] = none
part_filter p (x ∷ xs) = go (p x) (part_filter p xs)
  where
    go : (b : Bool) → ArePartOf (filter p xs) xs → ArePartOf (cond b (x ∷ filter p xs) (filter p xs)) (x ∷ xs)
    go true h = taken h
    go false h = left_out h

part_filtered : (p : ℕ → Bool) {xs ys : List ℕ} → ArePartOf xs ys → ArePartOf (filter p xs) (filter p ys)
part_filtered p none = none
part_filtered p (taken {n = n} {part = part} {whole = whole} h) = go (p n) (part_filtered p h)
  where
    go : (b : Bool) → ArePartOf (filter p part) (filter p whole) → ArePartOf (cond b (n ∷ filter p part) (filter p part)) (cond b (n ∷ filter p whole) (filter p whole))
    go true i = taken i
    go false i = i
part_filtered p (left_out {n = n} {part = part} {whole = whole} h) = go (p n) (part_filtered p h)
  where
    go : (b : Bool) → ArePartOf (filter p part) (filter p whole) → ArePartOf (filter p part) (cond b (n ∷ filter p whole) (filter p whole))
    go true i = left_out i
    go false i = i

both : (p q r : ℕ → Bool) → ((n : ℕ) → r n ≡ (q n && p n)) → (xs : List ℕ) → filter p (filter q xs) ≡ filter r xs
both p q r is [] = refl
both p q r is (x ∷ xs) = go (q x) (p x) (r x) refl (is x) (both p q r is xs)
  where
    go : (b c e : Bool) → p x ≡ c → e ≡ (b && c) → filter p (filter q xs) ≡ filter r xs → filter p (cond b (x ∷ filter q xs) (filter q xs)) ≡ cond e (x ∷ filter r xs) (filter r xs)
    go true true e f g rest = rw (f, g) (ap (λ l. x ∷ l) rest)
    go true false e f g rest = rw (f, g) rest
    go false c e f g rest = rw g rest

absent : (n : ℕ) (xs : List ℕ) → (Contains xs n → ⊥) → without n xs ≡ xs
absent n [] not = refl
absent n (x ∷ xs) not = ⊎_elim
    (λ e. absurd (not (subst (λ (i : ℕ). Contains (x ∷ xs) i) e.1 (Contains-first x xs))))
    (λ e. rw e.0 (ap (λ l. x ∷ l) (absent n xs (λ c. not (Contains-later x n xs c)))))
    (eqb_tells x n)

-- ---- one number

module _ (has : Context → Fact → Type 0) (facts : List Fact) (n : ℕ) (f : Fact) (at : slice_get facts n ≡ Some f) (old new : ByContext) (removes : RemovesIn has old new n f)
    (only : (x : Context) (i : ℕ) → Contains (at_context old x) i → (g : Fact) × (slice_get facts i ≡ Some g) × has x g) where
  gone : (x : Context) → at_context new x ≡ without n (at_context old x)
  gone x = ⊎_elim
      (λ w. w.1 ∙ sym (absent n (at_context old x) (λ c. let o = only x n c in w.0 (subst (has x) (one_value _ o.0 f o.1 at) o.2))))
      (λ w. w.1)
      (removes x)

  stays : (x : Context) (i : ℕ) → is_other n i ≡ true → Contains (at_context old x) i → Contains (at_context new x) i
  stays x i other c = rw (gone x) (passing (is_other n) (at_context old x) i c other)

  was : (x : Context) (i : ℕ) → Contains (at_context new x) i → Contains (at_context old x) i × (is_other n i ≡ true)
  was x i c =
      let there : Contains (without n (at_context old x)) i = rw (gone x) at c in
      (from_kept (is_other n) (at_context old x) i there, passes (is_other n) (at_context old x) i there)

removed_in : (has : Context → Fact → Type 0) (facts : List Fact) (n : ℕ) (f : Fact) → slice_get facts n ≡ Some f → (old new : ByContext) → RemovesIn has old new n f → (w m : List ℕ) → ListsIn has facts w m old → ListsIn has facts (without n w) (without n m) new
removed_in has facts n f at old new removes w m s = record {
  all = λ x i g c there h. stays has facts n f at old new removes only x i (passes (is_other n) w i c) (s.all x i g (from_kept (is_other n) w i c) there h);
  only = λ x i c.
      let before = was has facts n f at old new removes only x i c in
      let o = s.only x i before.0 in
      (passing (is_other n) m i o.0 before.1, o.1, o.2, o.3);
  order = λ x. rw (gone has facts n f at old new removes only x) (part_filtered (is_other n) (s.order x));
}
  where
    only : (x : Context) (i : ℕ) → Contains (at_context old x) i → (g : Fact) × (slice_get facts i ≡ Some g) × has x g
    only x i c = let o = s.only x i c in (o.1, o.2, o.3)

removed_needed : (has : Context → Fact → Type 0) (facts : List Fact) (n : ℕ) (f : Fact) → slice_get facts n ≡ Some f → (old new : ByContext) → RemovesIn has old new n f → (Not : Fact → Type 0) (w : List ℕ) → ListsNeeded has Not facts w old → ListsNeeded has Not facts (without n w) new
removed_needed has facts n f at old new removes Not w s = record {
  all = λ x i g c there h. ⊎_elim
      (λ here. inl (stays has facts n f at old new removes s.only x i (passes (is_other n) w i c) here))
      (λ not. inr not)
      (s.all x i g (from_kept (is_other n) w i c) there h);
  only = λ x i c. s.only x i (was has facts n f at old new removes s.only x i c).0;
}

removed : {k : Problem} {d : Derived} {w m : List ℕ} {old new : Index} {n : ℕ} {f : Fact} → slice_get d.facts n ≡ Some f → Removes old new n f → ListsFacts k d w m old → ListsFacts k d (without n w) (without n m) new
removed {d = d} {w = w} {m = m} {n = n} {f = f} at t s = record {
  by_context = record {
    classes = removed_in IsIn d.facts n f at _ _ t.classes w m s.by_context.classes;
    from = removed_in IsFrom d.facts n f at _ _ t.from w m s.by_context.from;
    into = removed_in IsInto d.facts n f at _ _ t.into w m s.by_context.into;
  };
  second_premises = removed_needed IsFrom d.facts n f at _ _ t.second_premises _ w s.second_premises;
  fillers = removed_needed IsIn d.facts n f at _ _ t.fillers _ w s.fillers;
}

-- ---- the numbers that are flagged

-- an index that lists the facts of some numbers, and then those of them that are none of these
pub record AreTakenOut (d : Derived) (gone : List ℕ) (old new : Index) : Type 0 where
  pub stays : ℕ → Bool
  pub of : (n : ℕ) → (stays n ≡ false) ↔ Contains gone n
  pub lists : (k : Problem) (w m : List ℕ) → ListsFacts k d w m old → ListsFacts k d (filter stays w) (filter stays m) new

all_pass : (xs : List ℕ) → filter (λ _. true) xs ≡ xs
all_pass [] = refl
all_pass (x ∷ xs) = ap (λ l. x ∷ l) (all_pass xs)

pub none_taken_out : (d : Derived) (index : Index) → AreTakenOut d [] index index
none_taken_out d index = record {
  stays = λ _. true;
  of = λ n. ((λ e. absurd (false≢true (sym e))), (λ c. absurd (Contains-none n c)));
  lists = λ k w m s. rw (all_pass w, all_pass m) s;
}

and_false : (b : Bool) → (b && false) ≡ false
and_false true = refl
and_false false = refl

and_true : (b : Bool) → (b && true) ≡ b
and_true true = refl
and_true false = refl

-- that number is not another
itself : (i : ℕ) → is_other i i ≡ false
itself i = ap not (eq-eqb i i refl)

-- those that stay without that number
abbrev without_too : (ℕ → Bool) → ℕ → ℕ → Bool
without_too stays i n = stays n && is_other i n

pub one_taken_out : {d : Derived} (gone : List ℕ) {old mid new : Index} {f : Fact} (i : ℕ) → AreTakenOut d gone old mid → slice_get d.facts i ≡ Some f → Removes mid new i f → AreTakenOut d (gone ++ i ∷ []) old new
one_taken_out {d} gone {new = new} i t at removes = record {
  stays = without_too t.stays i;
  of = λ n. (out n, left n);
  lists = λ k w m s.
      let still = without_too t.stays i in
      let same = both (is_other i) t.stays still (λ n. refl) in
      subst (λ (v : List ℕ). ListsFacts k d v (filter still m) new) (same w)
      (subst (λ (l : List ℕ). ListsFacts k d (without i (filter t.stays w)) l new) (same m) (removed at removes (t.lists k w m s)));
}
  where
    out : (n : ℕ) → without_too t.stays i n ≡ false → Contains (gone ++ i ∷ []) n
    out n e = ⊎_elim
        (λ w. subst (λ (k : ℕ). Contains (gone ++ i ∷ []) k) (sym w.1) (Contains-push gone i))
        (λ w. Contains-append_left gone (i ∷ []) n ((t.of n).0 (sym (and_true (t.stays n)) ∙ ap (λ b. t.stays n && not b) (sym w.0) ∙ e)))
        (eqb_tells n i)

    left : (n : ℕ) → Contains (gone ++ i ∷ []) n → without_too t.stays i n ≡ false
    left n c = ⊎_elim
        (λ there. ap (λ b. b && is_other i n) ((t.of n).1 there))
        (λ is. subst (λ (k : ℕ). without_too t.stays i k ≡ false) is (ap (λ b. t.stays i && b) (itself i) ∙ and_false (t.stays i)))
        (Contains-push_cases gone i n c)

-- those that are left in the end are those that are not flagged
pub all_taken_out : {d : Derived} (flags : List Bool) (numbers : List ℕ) {old new : Index} → AreThoseFlagged flags numbers → AreTakenOut d numbers old new → ListsThoseKept d flags old new
all_taken_out {d} flags numbers {new = new} those t k w m s =
    let same = filter_agree t.stays (is_kept flags) here in
    subst (λ (v : List ℕ). ListsFacts k d v (kept flags m) new) (same w)
    (subst (λ (l : List ℕ). ListsFacts k d (filter t.stays w) l new) (same m) (t.lists k w m s))
  where
    here : (n : ℕ) → t.stays n ≡ is_kept flags n
    here n = ⊎_elim
        (λ flag. (t.of n).1 ((those n).0 flag) ∙ sym (ap not flag))
        (λ flag. ⊎_elim
        (λ stays. stays ∙ sym (ap not flag))
        (λ goes. absurd (false≢true (sym flag ∙ (those n).1 ((t.of n).0 goes))))
        (by_flag (t.stays n)))
        (by_flag (is_flagged flags n))

-- ---- the number in hand

-- those that are kept are kept twice
twice : (flags : List Bool) (w : List ℕ) → kept flags (kept flags w) ≡ kept flags w
twice flags w = both (is_kept flags) (is_kept flags) (is_kept flags) (λ n. again (is_kept flags n)) w
  where
    again : (b : Bool) → b ≡ (b && b)
    again true = refl
    again false = refl

pub none_in_hand : {d : Derived} (flags : List Bool) {old new : Index} → ListsThoseKept d flags old new → ListsServedStill d flags None old new
none_in_hand {d} flags {new = new} keeps k served fresh s =
    fewer (kept flags served) (kept flags served) (keeps k (kept flags served) (served ++ []) s)
    (λ n c. rw (twice flags served) c)
    (rw (append-nil served) (part_same (kept flags served)))

-- nothing is left of the one number
one_without : (p : ℕ → Bool) (n : ℕ) → without n (filter p (n ∷ [])) ≡ []
one_without p n = go (p n)
  where
    go : (b : Bool) → without n (cond b (n ∷ []) []) ≡ []
    go true = rw (eq-eqb n n refl) refl
    go false = refl

pub some_in_hand : {d : Derived} (flags : List Bool) {old mid new : Index} {f : Fact} (h : ℕ) → ListsThoseKept d flags old mid → slice_get d.facts h ≡ Some f → Removes mid new h f → ListsServedStill d flags (Some h) old new
some_in_hand {d} flags {new = new} h keeps at t k served fresh s =
    let p = is_kept flags in
    let most : without h (kept flags (served ++ h ∷ [])) ≡ without h (kept flags served) = ap (without h) (filter-append p served (h ∷ [])) ∙ filter-append (is_other h) (kept flags served) (filter p (h ∷ [])) ∙ ap (λ l. without h (kept flags served) ++ l) (one_without p h) ∙ append-nil (without h (kept flags served)) in
    fewer (kept flags served) (kept flags served) (removed at t (keeps k (kept flags served) (served ++ h ∷ []) s))
    (λ n c. passing (is_other h) (kept flags (kept flags served)) n (rw (twice flags served) c) (not_hand n (from_kept p served n c)))
    (rw most (part_filter (is_other h) (kept flags served)))
  where
    not_hand : (n : ℕ) → Contains served n → is_other h n ≡ true
    not_hand n c = ap not (ne_eqb n h (λ e. fresh h refl (subst (λ (i : ℕ). Contains served i) e c)))
