-- What a held list holds, and what it holds when its numbers are mapped in their order by a function that rises at its points.
use Rattle.std.proofs.Common.{◌≡◌, ℕ, zero, suc, ◌+◌, ◌-◌, ◌<◌, ◌≤◌, ◌↔◌, inl, inr, List, [], ◌∷◌, ◌++◌, length, get_or, map, max, All, Contains, refl, sym, ap, ◌∙◌, subst, subst₂, arith}
use Rattle.std.specs.List.{range_with_len}
use Rattle.std.proofs.lemmas.Bool.{cases_lt, lt-ltb, le-ltb}
use Rattle.std.proofs.lemmas.List.{length-map}
use Rattle.std.proofs.lemmas.List.Elements.{Contains-get_or, All-contains, Contains-append_left, Contains-append_right, Contains-append_cases}
use Rattle.std.proofs.lemmas.List.FromFn.{length-range_with_len, get_or-range_with_len}
use Rattle.certificate.specs.Runs.{numbers_in}
use Rattle.certificate.specs.Writability.{Ascends, AreElements}
use Rattle.lemmas.proofs.Mapped.{Contains-map, slice_get_map_from}
use Rattle.lemmas.proofs.Members.{Contains-none, Contains-first, Contains-later, Contains-cons_cases, Contains-from_slice_get, slice_get-from_Contains}
use Rattle.certificate.specs.Held.{spread, held_in}
use Rattle.narrowing.specs.Cut.{single_points, run_points, points_in}
use Rattle.narrowing.proofs.Climbing.{Climbs, climbs}
use Rattle.narrowing.proofs.Intervals.{IsMonotone, RisesAt, alone}

-- ---- runs

-- the numbers of the run with these ends
abbrev run_of : ℕ → ℕ → List ℕ
run_of last first = numbers_in (record { first = first; last = last })

in_run : (last first x : ℕ) → Contains (run_of last first) x → (first ≤ x) × (x ≤ max last first)
in_run last first x (k, l, e) =
    let n = suc (last - first) in
    let many = length-range_with_len first n in
    let at = get_or-range_with_len first n k x (omega arith) in
    (omega arith, omega arith)

of_run : (last first x : ℕ) → first ≤ x → x ≤ max last first → Contains (run_of last first) x
of_run last first x l m =
    let n = suc (last - first) in
    let k = x - first in
    let many = length-range_with_len first n in
    let place : k < n = omega arith in
    let is : first + k ≡ x = omega arith in
    (k, omega arith, get_or-range_with_len first n k x place ∙ is)

range_climbs_from : (k a n : ℕ) (xs : List ℕ) → Climbs k (range_with_len a (suc n) ++ xs) → (k ≤ a) × Climbs (suc (a + n)) xs
range_climbs_from k a zero xs h = let e : suc a ≡ suc (a + 0) = omega arith in (h.0, subst (λ b. Climbs b xs) e h.1)
range_climbs_from k a (suc n) xs h =
    let g = range_climbs_from (suc a) (a + 1) n xs h.1 in
    let e : suc ((a + 1) + n) ≡ suc (a + suc n) = omega arith in
    (h.0, subst (λ b. Climbs b xs) e g.1)

range_climbs_to : (k a n : ℕ) (xs : List ℕ) → k ≤ a → Climbs (suc (a + n)) xs → Climbs k (range_with_len a (suc n) ++ xs)
range_climbs_to k a zero xs l h = let e : suc (a + 0) ≡ suc a = omega arith in (l, subst (λ b. Climbs b xs) e h)
range_climbs_to k a (suc n) xs l h =
    let e : suc (a + suc n) ≡ suc ((a + 1) + n) = omega arith in
    (l, range_climbs_to (suc a) (a + 1) n xs (omega arith) (subst (λ b. Climbs b xs) e h))

run_climbs_from : (k last first : ℕ) (xs : List ℕ) → Climbs k (run_of last first ++ xs) → (k ≤ first) × Climbs (suc (max last first)) xs
run_climbs_from k last first xs h =
    let g = range_climbs_from k first (last - first) xs h in
    let e : suc (first + (last - first)) ≡ suc (max last first) = omega arith in
    (g.0, subst (λ b. Climbs b xs) e g.1)

run_climbs_to : (k last first : ℕ) (xs : List ℕ) → k ≤ first → Climbs (suc (max last first)) xs → Climbs k (run_of last first ++ xs)
run_climbs_to k last first xs l h =
    let e : suc (max last first) ≡ suc (first + (last - first)) = omega arith in
    range_climbs_to k first (last - first) xs l (subst (λ b. Climbs b xs) e h)

ascends : (k : ℕ) (xs : List ℕ) → Climbs k xs → Ascends xs
ascends k [] h = tt
ascends k (x ∷ []) h = tt
ascends k (x ∷ y ∷ ys) h = (omega (arith, h.1.0), ascends (suc x) (y ∷ ys) h.1)

-- ---- points

pub single_begins : (xs : List ℕ) (x : ℕ) → Contains xs x → Contains (single_points xs) x × Contains (single_points xs) (suc x)
single_begins [] x c = absurd (Contains-none x c)
single_begins (y ∷ ys) x c =
    elim (Contains-cons_cases y x ys c) [
      | inl e ↦ subst (λ z. Contains (single_points (y ∷ ys)) z × Contains (single_points (y ∷ ys)) (suc z)) e
          (Contains-first y (suc y ∷ single_points ys), Contains-later y (suc y) (suc y ∷ single_points ys) (Contains-first (suc y) (single_points ys)))
      | inr d ↦ (let (begins, ends) = single_begins ys x d in (
        Contains-later y x (suc y ∷ single_points ys) (Contains-later (suc y) x (single_points ys) begins),
        Contains-later y (suc x) (suc y ∷ single_points ys) (Contains-later (suc y) (suc x) (single_points ys) ends),
      ))
    ]

-- ---- how lists are held

held_single : (x y : ℕ) (xs : List ℕ) → x < y → held_in (x ∷ y ∷ xs) ≡ x ∷ y ∷ xs
held_single x y xs l = rw (lt-ltb x y l) refl

held_wide : (x y : ℕ) (xs : List ℕ) → y ≤ x → held_in (x ∷ y ∷ xs) ≡ spread (x ∷ y ∷ xs)
held_wide x y xs l = rw (le-ltb x y l) refl

points_single : (x y : ℕ) (xs : List ℕ) → x < y → points_in (x ∷ y ∷ xs) ≡ single_points (x ∷ y ∷ xs)
points_single x y xs l = rw (lt-ltb x y l) refl

points_wide : (x y : ℕ) (xs : List ℕ) → y ≤ x → points_in (x ∷ y ∷ xs) ≡ run_points (x ∷ y ∷ xs)
points_wide x y xs l = rw (le-ltb x y l) refl

-- ---- mapped lists

-- bs are elements, and f takes to them what is in the other list, and no more
pub record Keeps (f : ℕ → ℕ) (d bound : ℕ) (as' bs : List ℕ) : Type 0 where
  pub elements : AreElements bound bs
  pub same : (x : ℕ) → x < d → Contains as' x ↔ Contains bs (f x)

from_map : (f : ℕ → ℕ) (xs : List ℕ) (x : ℕ) → ((y : ℕ) → Contains xs y → f y ≡ f x → y ≡ x) → Contains (map f xs) (f x) → Contains xs x
from_map f xs x only c =
    let (n, g) = slice_get-from_Contains (map f xs) (f x) c in
    let (y, gy, e) = slice_get_map_from f xs n (f x) g in
    let has : Contains xs y = Contains-from_slice_get xs n y gy in
    subst (λ z. Contains xs z) (only y has e) has

each : (P : ℕ → Type 0) (xs : List ℕ) → ((x : ℕ) → Contains xs x → P x) → All P xs
each P xs h k d lk = h (get_or xs k d) (Contains-get_or xs k d lk)

module _ (f : ℕ → ℕ) (d bound : ℕ) (up : IsMonotone f) (below : (x : ℕ) → x < d → f x < bound) where
  -- ---- single elements

  single_ascends : (xs : List ℕ) → ((x : ℕ) → Contains xs x → (x < d) × RisesAt f d x) → Ascends xs → Ascends (map f xs)
  single_ascends [] h a = tt
  single_ascends (x ∷ []) h a = tt
  single_ascends (x ∷ y ∷ ys) h a =
      let (ly, rises) = h y (Contains-later x y (y ∷ ys) (Contains-first y ys)) in
      (rises x y a.0 (omega arith) ly, single_ascends (y ∷ ys) (λ z c. h z (Contains-later x z (y ∷ ys) c)) a.1)

  single_within : (xs : List ℕ) → ((x : ℕ) → Contains xs x → x < d) → (z : ℕ) → Contains (map f xs) z → z < bound
  single_within xs h z c =
      let (n, g) = slice_get-from_Contains (map f xs) z c in
      let (y, gy, e) = slice_get_map_from f xs n z g in
      subst (λ z. z < bound) e (below y (h y (Contains-from_slice_get xs n y gy)))

  single_kept : (xs : List ℕ) → AreElements d xs → ((s : ℕ) → Contains (single_points xs) s → RisesAt f d s) → Keeps f d bound xs (map f xs)
  single_kept xs a h = record {
    elements = record {
      some = omega (arith, a.some, length-map xs f);
      within = each (λ x. x < bound) (map f xs) (single_within xs within);
      ascend = single_ascends xs (λ x c. (within x c, h x (single_begins xs x c).0)) a.ascend;
    };
    same = λ x lx. (Contains-map f xs x, from_map f xs x (λ y c e. (let (begins, ends) = single_begins xs y c in alone f d y x (h y begins) (h (suc y) ends) (within y c) lx e)));
  }
    where
      within : (x : ℕ) → Contains xs x → x < d
      within x c = All-contains (λ x. x < d) xs x a.within c

  -- ---- runs

  max_kept : (x y : ℕ) → f (max x y) ≡ max (f x) (f y)
  max_kept x y =
      elim (cases_lt x y) [
        | inl l ↦ (let e : max x y ≡ y = omega arith in let g = ap f e in let m = up x y (omega arith) in omega arith)
        | inr l ↦ (let e : max x y ≡ x = omega arith in let g = ap f e in let m = up y x l in omega arith)
      ]

  run_to : (last first x : ℕ) → Contains (run_of last first) x → Contains (run_of (f last) (f first)) (f x)
  run_to last first x c =
      let (l, m) = in_run last first x c in
      let g = up first x l in
      let k = up x (max last first) m in
      let e = max_kept last first in
      of_run (f last) (f first) (f x) g (omega arith)

  run_from : (last first x : ℕ) → RisesAt f d first → RisesAt f d (suc (max last first)) → max last first < d → x < d → Contains (run_of (f last) (f first)) (f x) → Contains (run_of last first) x
  run_from last first x begins ends ld lx c =
      let (l, m) = in_run (f last) (f first) (f x) c in
      let e = max_kept last first in
      of_run last first x (from_first l) (to_last (omega arith))
    where
      from_first : f first ≤ f x → first ≤ x
      from_first l = elim (cases_lt x first) [ inl b ↦ (let g = begins x first b (omega arith) (omega arith) in absurd (omega arith)) | inr b ↦ b ]

      to_last : f x ≤ f (max last first) → x ≤ max last first
      to_last l = elim (cases_lt (max last first) x) [ inl b ↦ (let g = ends (max last first) x (omega arith) b lx in absurd (omega arith)) | inr b ↦ b ]

  -- runs lie within the domain, and f rises where they begin and have ended
  record AreRuns (xs : List ℕ) : Type 0 where
    within : (x : ℕ) → Contains (spread xs) x → x < d
    rises : (s : ℕ) → Contains (run_points xs) s → RisesAt f d s

  first_rises : (last first : ℕ) (ends : List ℕ) → AreRuns (last ∷ first ∷ ends) → RisesAt f d first
  first_rises last first ends h = h.rises first (Contains-first first (suc (max last first) ∷ run_points ends))

  end_rises : (last first : ℕ) (ends : List ℕ) → AreRuns (last ∷ first ∷ ends) → RisesAt f d (suc (max last first))
  end_rises last first ends h =
      h.rises (suc (max last first)) (Contains-later first (suc (max last first)) (suc (max last first) ∷ run_points ends) (Contains-first (suc (max last first)) (run_points ends)))

  end_within : (last first : ℕ) (ends : List ℕ) → AreRuns (last ∷ first ∷ ends) → max last first < d
  end_within last first ends h =
      let x = max last first in
      h.within x (Contains-append_left (run_of last first) (spread ends) x (of_run last first x (omega arith) (omega arith)))

  later_runs : (last first : ℕ) (ends : List ℕ) → AreRuns (last ∷ first ∷ ends) → AreRuns ends
  later_runs last first ends h = record {
    within = λ x c. h.within x (Contains-append_right (run_of last first) (spread ends) x c);
    rises = λ s c. h.rises s (Contains-later first s (suc (max last first) ∷ run_points ends) (Contains-later (suc (max last first)) s (run_points ends) c));
  }

  spread_to : (xs : List ℕ) (x : ℕ) → Contains (spread xs) x → Contains (spread (map f xs)) (f x)
  spread_to [] x c = absurd (Contains-none x c)
  spread_to (y ∷ []) x c = absurd (Contains-none x c)
  spread_to (last ∷ first ∷ ends) x c =
      elim (Contains-append_cases (run_of last first) (spread ends) x c) [
        | inl here ↦ Contains-append_left (run_of (f last) (f first)) (spread (map f ends)) (f x) (run_to last first x here)
        | inr later ↦ Contains-append_right (run_of (f last) (f first)) (spread (map f ends)) (f x) (spread_to ends x later)
      ]

  spread_from : (xs : List ℕ) → AreRuns xs → (x : ℕ) → x < d → Contains (spread (map f xs)) (f x) → Contains (spread xs) x
  spread_from [] h x lx c = absurd (Contains-none (f x) c)
  spread_from (y ∷ []) h x lx c = absurd (Contains-none (f x) c)
  spread_from (last ∷ first ∷ ends) h x lx c =
      elim (Contains-append_cases (run_of (f last) (f first)) (spread (map f ends)) (f x) c) [
        | inl here ↦ Contains-append_left (run_of last first) (spread ends) x
            (run_from last first x (first_rises last first ends h) (end_rises last first ends h) (end_within last first ends h) lx here)
        | inr later ↦ Contains-append_right (run_of last first) (spread ends) x (spread_from ends (later_runs last first ends h) x lx later)
      ]

  spread_within : (xs : List ℕ) → AreRuns xs → (z : ℕ) → Contains (spread (map f xs)) z → z < bound
  spread_within [] h z c = absurd (Contains-none z c)
  spread_within (y ∷ []) h z c = absurd (Contains-none z c)
  spread_within (last ∷ first ∷ ends) h z c =
      elim (Contains-append_cases (run_of (f last) (f first)) (spread (map f ends)) z c) [
        | inl here ↦ (let (l, m) = in_run (f last) (f first) z here in
            let e = max_kept last first in
            let g = below (max last first) (end_within last first ends h) in
            omega arith)
        | inr later ↦ spread_within ends (later_runs last first ends h) z later
      ]

  -- what is not below k comes to what is not below the other bound
  spread_climbs : (xs : List ℕ) → AreRuns xs → (k least : ℕ) → ((y : ℕ) → k ≤ y → y < d → least ≤ f y) → Climbs k (spread xs) → Climbs least (spread (map f xs))
  spread_climbs [] h k least l c = tt
  spread_climbs (y ∷ []) h k least l c = tt
  spread_climbs (last ∷ first ∷ ends) h k least l c =
      let end = end_within last first ends h in
      let (from, rest) = run_climbs_from k last first (spread ends) c in
      let e : suc (f (max last first)) ≡ suc (max (f last) (f first)) = ap suc (max_kept last first) in
      let past : (y : ℕ) → suc (max last first) ≤ y → y < d → suc (f (max last first)) ≤ f y = λ y b ly. end_rises last first ends h (max last first) y (omega arith) b ly in
      run_climbs_to least (f last) (f first) (spread (map f ends)) (l first from (omega arith))
      (subst (λ b. Climbs b (spread (map f ends))) e (spread_climbs ends (later_runs last first ends h) (suc (max last first)) (suc (f (max last first))) past rest))

  runs_kept : (xs : List ℕ) → AreRuns xs → Ascends (spread xs) → 0 < length (spread (map f xs)) → Keeps f d bound (spread xs) (spread (map f xs))
  runs_kept xs h up' some = record {
    elements = record {
      some = some;
      within = each (λ x. x < bound) (spread (map f xs)) (spread_within xs h);
      ascend = ascends 0 (spread (map f xs)) (spread_climbs xs h 0 0 (λ y l ly. omega arith) (climbs (spread xs) up'));
    };
    same = λ x lx. (spread_to xs x, spread_from xs h x lx);
  }

  wide_kept : (last first : ℕ) (ends : List ℕ) → AreElements d (spread (last ∷ first ∷ ends)) → ((s : ℕ) → Contains (run_points (last ∷ first ∷ ends)) s → RisesAt f d s)
      → Keeps f d bound (spread (last ∷ first ∷ ends)) (spread (map f (last ∷ first ∷ ends)))
  wide_kept last first ends a h =
      runs_kept (last ∷ first ∷ ends)
      (record { within = λ x c. All-contains (λ x. x < d) (spread (last ∷ first ∷ ends)) x a.within c; rises = h })
      a.ascend (omega arith)

  -- ---- either

  pub held_kept : (xs : List ℕ) → AreElements d (held_in xs) → ((s : ℕ) → Contains (points_in xs) s → RisesAt f d s) → Keeps f d bound (held_in xs) (held_in (map f xs))
  held_kept [] a h = absurd (omega (arith, a.some))
  held_kept (x ∷ []) a h = single_kept (x ∷ []) a h
  held_kept (x ∷ y ∷ xs) a h = elim (cases_lt x y) [ inl l ↦ single l | inr l ↦ wide l ]
    where
      single : x < y → Keeps f d bound (held_in (x ∷ y ∷ xs)) (held_in (map f (x ∷ y ∷ xs)))
      single l =
          let is = held_single x y xs l in
          let a' : AreElements d (x ∷ y ∷ xs) = subst (AreElements d) is a in
          let h' : (s : ℕ) → Contains (single_points (x ∷ y ∷ xs)) s → RisesAt f d s = λ s c. h s (subst (λ ps. Contains ps s) (sym (points_single x y xs l)) c) in
          let k = single_kept (x ∷ y ∷ xs) a' h' in
          subst₂ (Keeps f d bound) (sym is) (sym (held_single (f x) (f y) (map f xs) k.elements.ascend.0)) k

      wide : y ≤ x → Keeps f d bound (held_in (x ∷ y ∷ xs)) (held_in (map f (x ∷ y ∷ xs)))
      wide l =
          let is = held_wide x y xs l in
          let a' : AreElements d (spread (x ∷ y ∷ xs)) = subst (AreElements d) is a in
          let h' : (s : ℕ) → Contains (run_points (x ∷ y ∷ xs)) s → RisesAt f d s = λ s c. h s (subst (λ ps. Contains ps s) (sym (points_wide x y xs l)) c) in
          subst₂ (Keeps f d bound) (sym is) (sym (held_wide (f x) (f y) (map f xs) (up y x l))) (wide_kept x y xs a' h')
