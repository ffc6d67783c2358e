-- Lines that no line needs yet: those that a step leaves are premises of later lines or are handed on by the next.
use Rattle.std.proofs.Common.{◌≡◌, ℕ, zero, suc, ◌+◌, ◌-◌, ◌<◌, ◌≤◌, ◌⊎◌, inl, inr, List, [], ◌∷◌, ◌++◌, length, take, slice_get, get_or, Contains, Some, refl, sym, ap, ◌∙◌, subst, arith}
use Rattle.std.proofs.lemmas.List.{append_assoc, length-append}
use Rattle.std.proofs.lemmas.Option.{slice_get-get_or}
use Rattle.std.proofs.lemmas.List.Elements.{Contains-append_left, Contains-append_right, Contains-append_cases}
use Rattle.certificate.specs.Certificate.{Line}
use Rattle.engine.specs.Saturations.{Saturated}
use Rattle.explain.proofs.Growing.{slice_get_grown}
use Rattle.explain.specs.OlderFacts.{rests_on}
use Rattle.explain.specs.Uses.{IsPremise, IsAmong, IsAmongThose, Uses, ShowsOlder, EachIsUsed}
use Rattle.explain.specs.LinesOfFacts.{Lengthens}
use Rattle.facts.specs.Births.{Reason, numbers_of}
use Rattle.facts.specs.declared.births.FactId.{FactId}
use Rattle.facts.specs.declared.births.Older.{Older}
use Rattle.facts.specs.declared.births.Older.TheVariants as older
use Rattle.lemmas.proofs.Choices.{one_value}
use Rattle.lemmas.proofs.Members.{Contains-none, Contains-first, Contains-one, Contains-cons_cases}
use Rattle.lemmas.proofs.Places.{slice_get_push, take_push}
use Rattle.number_sets.specs.Pieces.{list_at}

pub before_or_not : (n m : ℕ) → (n < m) ⊎ (m ≤ n)
before_or_not zero zero = inr (omega arith)
before_or_not zero (suc m) = inl (omega arith)
before_or_not (suc n) zero = inr (omega arith)
before_or_not (suc n) (suc m) = elim (before_or_not n m) [ inl l ↦ inl (omega arith) | inr l ↦ inr (omega arith) ]

-- a premise stays one
pub premise_grown : {old new : List Line} → Lengthens old new → (n : ℕ) → IsPremise old n → IsPremise new n
premise_grown {old} {new} g n (m, later, l, e, h) =
    (m, later, l, subst (λ lines. slice_get lines m ≡ Some later) (sym g.new_is) (slice_get_grown old g.more m later e), h)

-- ---- steps

-- one step behind the other
pub used_twice : (first second third : List Line) (Given : ℕ → Type 0) (between after : List ℕ) → Lengthens second third → Uses first second Given between → Uses second third (IsAmong between) after → Uses first third Given after
used_twice first second third Given between after g earlier later n l h =
    elim (before_or_not n (length second)) [
      | inl k ↦ elim (earlier n k h) [ inl p ↦ inl (premise_grown g n p) | inr c ↦ later n l (inr c) ]
      | inr k ↦ later n l (inl k)
    ]

-- two steps one behind the other, each of lines that it is given, leave the numbers of both
pub used_beside : (first second third : List Line) (One Other : ℕ → Type 0) (numbers more : List ℕ) → Lengthens second third → Uses first second One numbers → Uses second third Other more
    → Uses first third (λ n. One n ⊎ Other n) (numbers ++ more)
used_beside first second third One Other numbers more g earlier later n l h =
    elim (before_or_not n (length second)) [
      | inl k ↦ elim h [ inl new ↦ from_first k (inl new) | inr given ↦ elim given [ inl one ↦ from_first k (inr one) | inr other ↦ from_second (inr other) ] ]
      | inr k ↦ from_second (inl k)
    ]
  where
    from_second : (length second ≤ n) ⊎ Other n → IsPremise third n ⊎ IsAmong (numbers ++ more) n
    from_second k = elim (later n l k) [ inl p ↦ inl p | inr c ↦ inr (Contains-append_right numbers more (suc n) c) ]

    from_first : n < length second → (length first ≤ n) ⊎ One n → IsPremise third n ⊎ IsAmong (numbers ++ more) n
    from_first k new = elim (earlier n k new) [ inl p ↦ inl (premise_grown g n p) | inr c ↦ inr (Contains-append_left numbers more (suc n) c) ]

-- a step from fewer lines
pub used_from : (old new : List Line) (Given Fewer : ℕ → Type 0) (numbers : List ℕ) → ((n : ℕ) → Fewer n → Given n) → Uses old new Given numbers → Uses old new Fewer numbers
used_from old new Given Fewer numbers f used n l (inl k) = used n l (inl k)
used_from old new Given Fewer numbers f used n l (inr h) = used n l (inr (f n h))

-- one line that takes them all
pub used_by_line : (lines new : List Line) (line : Line) (numbers : List ℕ) (n : ℕ) → new ≡ lines ++ line ∷ [] → n ≡ length new → numbers ≡ n ∷ [] → Uses lines new (IsAmong line.premises) numbers
used_by_line lines new line numbers n added number is k l h =
    let long : length new ≡ length lines + 1 = ap length added ∙ length-append lines (line ∷ []) in
    elim (before_or_not k (length lines)) [
      | inl p ↦ elim h [
        | inl q ↦ absurd (omega arith)
        | inr c ↦ inl (length lines, line, p, subst (λ all. slice_get all (length lines) ≡ Some line) (sym added) (slice_get_push lines line), c)
      ]
      | inr p ↦ let same : n ≡ suc k = omega arith in inr (subst (λ ns. Contains ns (suc k)) (sym is) (subst (λ m. Contains (m ∷ []) (suc k)) (sym same) (Contains-first (suc k) [])))
    ]

-- a step that leaves some as they are
used_kept : (lines new : List Line) (kept all given after : List ℕ) → all ≡ kept ++ given → Uses lines new (IsAmong given) after → Uses lines new (IsAmong all) (kept ++ after)
used_kept lines new kept all given after e used n l (inl k) = elim (used n l (inl k)) [ inl p ↦ inl p | inr c ↦ inr (Contains-append_right kept after (suc n) c) ]
used_kept lines new kept all given after e used n l (inr h) = elim (Contains-append_cases kept given (suc n) (subst (λ ns. Contains ns (suc n)) e h)) [
  | inl c ↦ inr (Contains-append_left kept after (suc n) c)
  | inr c ↦ elim (used n l (inr c)) [ inl p ↦ inl p | inr d ↦ inr (Contains-append_right kept after (suc n) d) ]
]

-- the last edge of a walk and what leads on from its target
pub used_back : (lines new : List Line) (walk : List ℕ) (k d number next : ℕ) → 0 < k → k ≤ length walk → Uses lines new (IsAmong (get_or walk (k - 1) d ∷ number ∷ [])) (next ∷ []) → Uses lines new (IsAmong (take k walk ++ number ∷ [])) (take (k - 1) walk ++ next ∷ [])
used_back lines new walk k d number next low high used =
    let edge = get_or walk (k - 1) d in
    let walked : take k walk ≡ take (k - 1) walk ++ edge ∷ [] =
    let e : k ≡ k - 1 + 1 = omega arith in
    ap (λ j. take j walk) e ∙ take_push walk (k - 1) edge (slice_get-get_or walk (k - 1) d (omega arith)) in
    let joined : take k walk ++ number ∷ [] ≡ take (k - 1) walk ++ edge ∷ number ∷ [] = ap (λ ns. ns ++ number ∷ []) walked ∙ append_assoc (take (k - 1) walk) (edge ∷ []) (number ∷ []) in
    used_kept lines new (take (k - 1) walk) (take k walk ++ number ∷ []) (edge ∷ number ∷ []) (next ∷ []) joined used

-- ---- older facts

of_none : (shown : List (List ℕ)) (n : ℕ) → IsAmongThose shown [] n → ⊥
of_none shown n (m, h, c) = Contains-none m h

pub of_one : (shown : List (List ℕ)) (m n : ℕ) → IsAmongThose shown (m ∷ []) n → IsAmong (list_at shown m) n
of_one shown m n (k, h, c) = subst (λ i. IsAmong (list_at shown i) n) (sym (Contains-one m k h)) c

of_two : (shown : List (List ℕ)) (m k n : ℕ) → IsAmongThose shown (m ∷ k ∷ []) n → IsAmong (list_at shown m) n ⊎ IsAmong (list_at shown k) n
of_two shown m k n (i, h, c) = elim (Contains-cons_cases m i (k ∷ []) h) [
  | inl e ↦ inl (subst (λ j. IsAmong (list_at shown j) n) (sym e) c)
  | inr d ↦ inr (of_one shown k n (i, d, c))
]

-- what shows the facts of these numbers, where they are the ones on which the line rests
pub shows_those : (s : Saturated) (shown : List (List ℕ)) (fact : ℕ) (r : Reason) → slice_get s.state.births fact ≡ Some r → (n : ℕ) → ShowsOlder s shown fact n → IsAmongThose shown (rests_on s.normal.entries r) n
shows_those s shown fact r birth n (m, (t, at, h), c) = (m, subst (λ u. Contains (rests_on s.normal.entries u) m) (one_value (slice_get s.state.births fact) t r at birth) h, c)

-- one step takes what shows the facts on which the line rests, and the next takes what that leaves
pub used_by_fact : (s : Saturated) (shown : List (List ℕ)) (fact : ℕ) (r : Reason) (facts : List ℕ) → slice_get s.state.births fact ≡ Some r → rests_on s.normal.entries r ≡ facts → (first second third : List Line) (premises numbers : List ℕ)
    → Lengthens second third → Uses first second (IsAmongThose shown facts) premises → Uses second third (IsAmong premises) numbers → EachIsUsed s shown fact first third numbers
used_by_fact s shown fact r facts birth rests first second third premises numbers g earlier later =
    used_twice first second third (ShowsOlder s shown fact) premises numbers g
    (used_from first second (IsAmongThose shown facts) (ShowsOlder s shown fact) premises (λ n h. subst (λ ms. IsAmongThose shown ms n) rests (shows_those s shown fact r birth n h)) earlier) later

-- where the line of the fact rests on no facts, one step is enough
pub used_of_none : (s : Saturated) (shown : List (List ℕ)) (fact : ℕ) (r : Reason) → slice_get s.state.births fact ≡ Some r → rests_on s.normal.entries r ≡ [] → (lines new : List Line) (premises numbers : List ℕ)
    → Uses lines new (IsAmong premises) numbers → EachIsUsed s shown fact lines new numbers
used_of_none s shown fact r birth rests lines new premises numbers =
    used_from lines new (IsAmong premises) (ShowsOlder s shown fact) numbers (λ n h. absurd (of_none shown n (subst (λ ms. IsAmongThose shown ms n) rests (shows_those s shown fact r birth n h))))

pub one_given : (shown : List (List ℕ)) (m n : ℕ) (walk ends : List ℕ) → walk ≡ list_at shown m → ends ≡ list_at shown n → (k : ℕ) → IsAmongThose shown (m ∷ n ∷ []) k → IsAmong (walk ++ ends) k
one_given shown m n walk ends is are k h = elim (of_two shown m n k h) [
  | inl c ↦ Contains-append_left walk ends (suc k) (subst (λ ns. IsAmong ns k) (sym is) c)
  | inr c ↦ Contains-append_right walk ends (suc k) (subst (λ ns. IsAmong ns k) (sym are) c)
]

module _ (shown : List (List ℕ)) (o : Older) where
  pub none_taken : (lines : List Line) (numbers : List ℕ) → o ≡ older.None → Uses lines lines (IsAmongThose shown (numbers_of o)) numbers
  none_taken lines numbers e n l (inl k) = absurd (omega arith)
  none_taken lines numbers e n l (inr h) = absurd (of_none shown n (subst (λ u. IsAmongThose shown (numbers_of u) n) e h))

  pub one_taken : (m : FactId) (lines new : List Line) (numbers : List ℕ) → o ≡ older.One m → Uses lines new (IsAmong (list_at shown m.0)) numbers → Uses lines new (IsAmongThose shown (numbers_of o)) numbers
  one_taken m lines new numbers e =
      used_from lines new (IsAmong (list_at shown m.0)) (IsAmongThose shown (numbers_of o)) numbers (λ n h. of_one shown m.0 n (subst (λ u. IsAmongThose shown (numbers_of u) n) e h))

  pub two_taken : (m k : FactId) (first second third : List Line) (numbers more all : List ℕ) → o ≡ older.Two m k → all ≡ numbers ++ more → Lengthens second third
      → Uses first second (IsAmong (list_at shown m.0)) numbers → Uses second third (IsAmong (list_at shown k.0)) more → Uses first third (IsAmongThose shown (numbers_of o)) all
  two_taken m k first second third numbers more all e is g earlier later =
      let One : ℕ → Type 0 = IsAmong (list_at shown m.0) in
      let Other : ℕ → Type 0 = IsAmong (list_at shown k.0) in
      subst (λ ns. Uses first third (IsAmongThose shown (numbers_of o)) ns) (sym is)
      (used_from first third (λ n. One n ⊎ Other n) (IsAmongThose shown (numbers_of o)) (numbers ++ more) (λ n h. of_two shown m.0 k.0 n (subst (λ u. IsAmongThose shown (numbers_of u) n) e h))
      (used_beside first second third One Other numbers more g earlier later))

pub taken_whole : {X : Type 0} (xs : List X) → take (length xs) xs ≡ xs
taken_whole [] = refl
taken_whole (x ∷ xs) = ap (λ ys. x ∷ ys) (taken_whole xs)
