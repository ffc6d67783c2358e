-- Numbers that are flagged are parted from those that are not.
use Rattle.std.proofs.Common.{◌≡◌, ℕ, ◌+◌, ◌-◌, ◌<◌, ◌≤◌, Bool, true, false, List, [], ◌∷◌, ◌++◌, length, take, drop, get_or, cond, refl, sym, ap, ◌∙◌, arith, length-append}
use Rattle.std.proofs.lemmas.List.{append_assoc, append-nil, drop-drop, drop_more, length-take-le, take-append-drop, take-take}
use Rattle.std.proofs.lemmas.List.Elements.{filter-append, filter_more}
use Rattle.std.proofs.lemmas.List.Filters.{FiltersInPlace, length-filter_both}
use Rattle.saturate.specs.Flags.{asked, is_flagged, is_kept, kept}

-- of fewer of the first numbers no more are flagged
fewer_asked : (flags : List Bool) (numbers : List ℕ) (some all : ℕ) → some ≤ all → length (asked flags (take some numbers)) ≤ length (asked flags (take all numbers))
fewer_asked flags numbers some all low =
    let first : take some (take all numbers) ≡ take some numbers = take-take some all numbers low in
    let rest : List ℕ = drop some (take all numbers) in
    let whole : asked flags (take some numbers) ++ asked flags rest ≡ asked flags (take all numbers) =
    ap (λ ns. asked flags ns ++ asked flags rest) (sym first) ∙ sym (filter-append (is_flagged flags) (take some (take all numbers)) rest) ∙ ap (asked flags) (take-append-drop some (take all numbers)) in
    omega (arith, ap length whole, length-append (asked flags (take some numbers)) (asked flags rest))

module _ (flags : List Bool) (old : List ℕ) {now : List ℕ} {kept place number : ℕ} (front : FiltersInPlace (is_kept flags) old now kept place) (low : place < length now) (here : number ≡ get_or now place number) where
  was : get_or old place number ≡ number
  was = sym (here ∙ ap (λ ns. get_or ns 0 number) (sym (drop_more now place number low) ∙ front.rest ∙ drop_more old place number (omega (arith, low, front.long))))

  next : (flag : Bool) → is_flagged flags number ≡ flag → asked flags (take (place + 1) old) ≡ asked flags (take place old) ++ cond flag (number ∷ []) []
  next flag is =
      filter_more (is_flagged flags) old place number (omega (arith, low, front.long))
      ∙ ap (λ n. asked flags (take place old) ++ cond (is_flagged flags n) (n ∷ []) []) was
      ∙ ap (λ b. asked flags (take place old) ++ cond b (number ∷ []) []) is

  -- the next one is flagged
  pub asked_more : (again : List ℕ) → again ≡ asked flags (take place old) → is_flagged flags number ≡ true → again ++ number ∷ [] ≡ asked flags (take (place + 1) old)
  asked_more again before is = ap (λ ns. ns ++ number ∷ []) before ∙ sym (next true is)

  -- so there is room for it where there is for all
  pub one_asked : (again : List ℕ) (all : ℕ) → again ≡ asked flags (take place old) → is_flagged flags number ≡ true → place < all → length again < length (asked flags (take all old))
  one_asked again all before is within = omega (arith, fewer_asked flags old (place + 1) all (omega (arith, within)), ap length (asked_more again before is), length-append again (number ∷ []))

  -- or it is not
  pub asked_still : (again : List ℕ) → again ≡ asked flags (take place old) → is_flagged flags number ≡ false → again ≡ asked flags (take (place + 1) old)
  asked_still again before is = before ∙ sym (append-nil _) ∙ sym (next false is)

-- ---- those that are flagged stand behind the others

module _ (flags : List Bool) (old now : List ℕ) (first served : ℕ) (kept_first : take first now ≡ kept flags (take served old)) (few : first ≤ served) (long : length now ≡ length old) (low : served ≤ length old) where
  -- so many are not flagged
  pub many_kept : first ≡ length (kept flags (take served old))
  many_kept = sym (length-take-le first now (omega (arith, few, long, low))) ∙ ap length kept_first

  -- and so many are
  pub many_asked : length (asked flags (take served old)) ≡ served - first
  many_asked = omega (arith, length-filter_both (is_flagged flags) (is_kept flags) (λ _. refl) (take served old), length-take-le served old low, many_kept)

  pub put_behind : (again : List ℕ) → again ≡ asked flags (take served old) → drop served now ≡ drop served old
      → take first now ++ (again ++ drop (served - first) (drop first now)) ≡ kept flags (take served old) ++ asked flags (take served old) ++ drop served old
  put_behind again is rest =
      let past : first + (served - first) ≡ served = omega (arith, few) in
      sym (append_assoc (take first now) again (drop (served - first) (drop first now)))
      ∙ ap (λ ns. ns ++ again ++ drop (served - first) (drop first now)) kept_first
      ∙ ap (λ ns. kept flags (take served old) ++ ns ++ drop (served - first) (drop first now)) is
      ∙ ap (λ ns. kept flags (take served old) ++ asked flags (take served old) ++ ns) (drop-drop (served - first) first now ∙ ap (λ n. drop n now) past ∙ rest)
