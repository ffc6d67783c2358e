-- Lists in one piece of memory.
use Rattle.std.proofs.Common.{◌≡◌, ℕ, zero, suc, ◌+◌, ◌-◌, ◌<◌, ◌≤◌, List, [], ◌∷◌, ◌++◌, length, map, get_or, set, take, drop, refl, sym, ap, ap₂, ◌∙◌, subst, arith}
use Rattle.std.specs.Prelude.{slice_range}
use Rattle.std.proofs.lemmas.List.{length-append, length-take-le, length-drop, drop-append-le, take-append-le, drop_at, take_all}
use Rattle.std.proofs.lemmas.Slice.{between_is, drop-put_mid, take-put_mid_below}
use borrow.Rule.Slice.PartMut.{put_mid, post_of, same_len_mid}
use Rattle.indexes.specs.declared.packed.Span.{Span}
use Rattle.indexes.specs.Packed.{standing, AreApart}
use Rattle.indexes.specs.Tables.{at, without}

-- where a list stands
pub bounds_at : (from : ℕ) (spans : List Span) (total k : ℕ) (none : Span) → AreApart from spans total → k < length spans
    → (from ≤ (get_or spans k none).start) × ((get_or spans k none).start ≤ (get_or spans k none).end) × ((get_or spans k none).end ≤ total)
bounds_at from [] total k none h low = absurd (omega arith)
bounds_at from (span ∷ spans) total zero none h low = (h.0, h.1, within span.end spans total h.2)
  where
    within : (from : ℕ) (spans : List Span) (total : ℕ) → AreApart from spans total → from ≤ total
    within from [] total h = h
    within from (span ∷ spans) total h = omega (arith, h.0, h.1, within span.end spans total h.2)
bounds_at from (span ∷ spans) total (suc k) none h low = let rest = bounds_at span.end spans total k none h.2 (omega arith) in (omega (arith, h.0, h.1, rest.0), rest.1, rest.2)

pub list_at : (numbers : List ℕ) (spans : List Span) (k : ℕ) (none : Span) → k < length spans → at (map (standing numbers) spans) k ≡ standing numbers (get_or spans k none)
list_at numbers [] k none low = absurd (omega arith)
list_at numbers (span ∷ spans) zero none low = refl
list_at numbers (span ∷ spans) (suc k) none low = list_at numbers spans k none (omega arith)

pub how_many : (numbers : List ℕ) (spans : List Span) → length (map (standing numbers) spans) ≡ length spans
how_many numbers [] = refl
how_many numbers (span ∷ spans) = ap suc (how_many numbers spans)

-- what is known of a list that is there
pub bounds_here : (spans : List Span) (numbers : List ℕ) (now : List (List ℕ)) (k : ℕ) (here : Span) → AreApart 0 spans (length numbers) → map (standing numbers) spans ≡ now → k < length now → here ≡ get_or spans k here
    → (here.start ≤ here.end) × (here.end ≤ length numbers) × (k < length spans)
bounds_here spans numbers now k here h is low read =
    let there : k < length spans = omega (arith, low, ap length is, how_many numbers spans) in
    let bounds = bounds_at 0 spans (length numbers) k here h there in
    let start = ap (λ (s : Span). s.start) read in
    let end = ap (λ (s : Span). s.end) read in
    (omega (arith, bounds.1, start, end), omega (arith, bounds.2, end), there)

pub list_here : (spans : List Span) (numbers : List ℕ) (now : List (List ℕ)) (k : ℕ) (here : Span) → map (standing numbers) spans ≡ now → k < length now → here ≡ get_or spans k here → at now k ≡ standing numbers here
list_here spans numbers now k here is low read =
    ap (λ (lists : List (List ℕ)). at lists k) (sym is)
    ∙ list_at numbers spans k here (omega (arith, low, ap length is, how_many numbers spans))
    ∙ ap (standing numbers) (sym read)

-- ---- one list more

range-append : (numbers more : List ℕ) (a b : ℕ) → a ≤ b → b ≤ length numbers → slice_range (numbers ++ more) a b ≡ slice_range numbers a b
range-append numbers more a b low high =
    ap (take (b - a)) (drop-append-le a numbers more (omega arith)) ∙ take-append-le (b - a) (drop a numbers) more (omega (arith, length-drop a numbers))

lists_stay : (from : ℕ) (spans : List Span) (numbers more : List ℕ) → AreApart from spans (length numbers) → map (standing (numbers ++ more)) spans ≡ map (standing numbers) spans
lists_stay from [] numbers more h = refl
lists_stay from (span ∷ spans) numbers more h =
    ap₂ (λ list lists. list ∷ lists)
    (range-append numbers more span.start span.end h.1 (bounds_at from (span ∷ spans) (length numbers) 0 span h (omega arith)).2)
    (lists_stay span.end spans numbers more h.2)

map_more : (numbers : List ℕ) (spans : List Span) (span : Span) → map (standing numbers) (spans ++ span ∷ []) ≡ map (standing numbers) spans ++ standing numbers span ∷ []
map_more numbers [] span = refl
map_more numbers (first ∷ spans) span = ap (λ lists. standing numbers first ∷ lists) (map_more numbers spans span)

apart_more : (from : ℕ) (spans : List Span) (total end : ℕ) → AreApart from spans total → total ≤ end → AreApart from (spans ++ record { start = total; end = end } ∷ []) end
apart_more from [] total end h low = (h, low, omega arith)
apart_more from (span ∷ spans) total end h low = (h.0, h.1, apart_more span.end spans total end h.2 low)

-- what a push leaves
pub pushed : (spans : List Span) (numbers more : List ℕ) (spans' : List Span) (numbers' : List ℕ) (start end : ℕ) → AreApart 0 spans (length numbers) → numbers' ≡ numbers ++ more
    → start ≡ length numbers → end ≡ length numbers' → spans' ≡ spans ++ record { start = start; end = end } ∷ []
    → AreApart 0 spans' (length numbers') × (map (standing numbers') spans' ≡ map (standing numbers) spans ++ more ∷ [])
pushed spans numbers more spans' numbers' start end h en es ee ess =
    let long : length (numbers ++ more) ≡ length numbers + length more = length-append numbers more in
    let total : ℕ = length (numbers ++ more) in
    let ends : end ≡ total = ee ∙ ap length en in
    let last : Span = record { start = length numbers; end = total } in
    let spans_are : spans' ≡ spans ++ last ∷ [] = ess ∙ ap₂ (λ (s e : ℕ). let span : Span = record { start = s; end = e } in spans ++ span ∷ []) es ends in
    let whole : standing (numbers ++ more) last ≡ more = ap (take (total - length numbers)) (drop_at numbers more (length numbers) refl) ∙ take_all (total - length numbers) more (omega (arith, long)) in (
      rw (spans_are, en) (apart_more 0 spans (length numbers) total h (omega (arith, long))),
      rw (spans_are, en) (map_more (numbers ++ more) spans last ∙ ap₂ (λ (lists : List (List ℕ)) (list : List ℕ). lists ++ list ∷ []) (lists_stay 0 spans numbers more h) whole),
    )

-- ---- one list with fewer numbers

apart_lower : (lower from : ℕ) (spans : List Span) (total : ℕ) → lower ≤ from → AreApart from spans total → AreApart lower spans total
apart_lower lower from [] total low h = omega (arith, low, h)
apart_lower lower from (span ∷ spans) total low h = (omega (arith, low, h.0), h.1, h.2)

pub apart_shorter : (from : ℕ) (spans : List Span) (total k end : ℕ) (none : Span) → AreApart from spans total → k < length spans → (get_or spans k none).start ≤ end → end ≤ (get_or spans k none).end
    → AreApart from (set spans k (record { start = (get_or spans k none).start; end = end })) total
apart_shorter from [] total k end none h low least most = absurd (omega arith)
apart_shorter from (span ∷ spans) total zero end none h low least most = (h.0, least, apart_lower end span.end spans total most h.2)
apart_shorter from (span ∷ spans) total (suc k) end none h low least most = (h.0, h.1, apart_shorter span.end spans total k end none h.2 (omega arith) least most)

module _ (a e : ℕ) (xs ys : List ℕ) (ordered : a ≤ e) (within : e ≤ length xs) (long : length ys ≡ e - a) where
  abbrev put : List ℕ
  put = put_mid a (e - a) xs ys

  before : (span : Span) → span.end ≤ a → standing put span ≡ standing xs span
  before span low =
      between_is put span.start span.end
      ∙ ap (drop span.start) (take-put_mid_below a (e - a) xs ys span.end low (omega (arith, ordered, within)))
      ∙ sym (between_is xs span.start span.end)

  behind : (span : Span) → e ≤ span.start → standing put span ≡ standing xs span
  behind span high = ap (take (span.end - span.start)) (drop-put_mid a (e - a) xs ys span.start (omega (arith, ordered, high)) (omega (arith, ordered, within)) long)

  all_behind : (from : ℕ) (spans : List Span) (total : ℕ) → e ≤ from → AreApart from spans total → map (standing put) spans ≡ map (standing xs) spans
  all_behind from [] total high h = refl
  all_behind from (span ∷ spans) total high h =
      ap₂ (λ list lists. list ∷ lists) (behind span (omega (arith, high, h.0))) (all_behind span.end spans total (omega (arith, high, h.0, h.1)) h.2)

  -- the first so many of what is put there
  first_put : (n : ℕ) → n ≤ length ys → slice_range put a (a + n) ≡ take n ys
  first_put n few =
      ap (take ((a + n) - a)) (drop_at (take a xs) (ys ++ post_of a (e - a) xs) a (length-take-le a xs (omega (arith, ordered, within))))
      ∙ take-append-le ((a + n) - a) ys (post_of a (e - a) xs) (omega (arith, few))
      ∙ ap (λ (m : ℕ). take m ys) (omega arith)

  lists_set : (from : ℕ) (spans : List Span) (total k : ℕ) (none new : Span) (list : List ℕ) → AreApart from spans total → k < length spans
      → (get_or spans k none).start ≡ a → (get_or spans k none).end ≡ e → standing put new ≡ list → map (standing put) (set spans k new) ≡ set (map (standing xs) spans) k list
  lists_set from [] total k none new list h low is_a is_e is = absurd (omega arith)
  lists_set from (span ∷ spans) total zero none new list h low is_a is_e is =
      ap₂ (λ l ls. l ∷ ls) is (all_behind span.end spans total (omega (arith, is_e)) h.2)
  lists_set from (span ∷ spans) total (suc k) none new list h low is_a is_e is =
      ap₂ (λ l ls. l ∷ ls) (before span (omega (arith, is_a, (bounds_at span.end spans total k none h.2 (omega arith)).0))) (lists_set span.end spans total k none new list h.2 (omega arith) is_a is_e is)

  -- what is left where so many of its numbers stay
  pub shortened : (spans : List Span) (k n : ℕ) (here : Span) (list : List ℕ) → AreApart 0 spans (length xs) → k < length spans → here ≡ get_or spans k here → here.start ≡ a → here.end ≡ e
      → n ≤ length ys → take n ys ≡ list
      → AreApart 0 (set spans k (record { start = a; end = a + n })) (length put) × (map (standing put) (set spans k (record { start = a; end = a + n })) ≡ set (map (standing xs) spans) k list)
  shortened spans k n here list h low is is_a is_e few left =
      let starts : (get_or spans k here).start ≡ a = ap (λ (s : Span). s.start) (sym is) ∙ is_a in
      let ends : (get_or spans k here).end ≡ e = ap (λ (s : Span). s.end) (sym is) ∙ is_e in
      let new : Span = record { start = a; end = a + n } in
      let all : length put ≡ length xs = same_len_mid a (e - a) xs ys (long ∙ sym (length-take-le (e - a) (drop a xs) (omega (arith, length-drop a xs, within)))) in
      let shorter : AreApart 0 (set spans k (record { start = (get_or spans k here).start; end = a + n })) (length xs) = apart_shorter 0 spans (length xs) k (a + n) here h low (omega (arith, starts)) (omega (arith, ends, few, long, ordered)) in (
        rw all (subst (λ (s : ℕ). AreApart 0 (set spans k (record { start = s; end = a + n })) (length xs)) starts shorter),
        lists_set 0 spans (length xs) k here new list h low starts ends (first_put n few ∙ left),
      )

-- what is left where a number is taken out of a list
pub taken_out : (spans : List Span) (numbers xs ys numbers' : List ℕ) (now : List (List ℕ)) (k n number : ℕ) (here : Span) → AreApart 0 spans (length numbers) → map (standing numbers) spans ≡ now → k < length now
    → here ≡ get_or spans k here → xs ≡ numbers → length ys ≡ length (standing xs here) → n ≤ length (standing xs here) → take n ys ≡ without number (standing xs here)
    → numbers' ≡ put_mid here.start (here.end - here.start) xs ys
    → AreApart 0 (set spans k (record { start = here.start; end = here.start + n })) (length numbers')
    × (map (standing numbers') (set spans k (record { start = here.start; end = here.start + n })) ≡ set now k (without number (at now k)))
taken_out spans numbers xs ys numbers' now k n number here h is low read same long few left put_is =
    let h' : AreApart 0 spans (length xs) = subst (λ (ns : List ℕ). AreApart 0 spans (length ns)) (sym same) h in
    let is' : map (standing xs) spans ≡ now = ap (λ (ns : List ℕ). map (standing ns) spans) same ∙ is in
    let b = bounds_here spans xs now k here h' is' low read in
    let many : length (standing xs here) ≡ here.end - here.start = length-take-le (here.end - here.start) (drop here.start xs) (omega (arith, length-drop here.start xs, b.1)) in
    let new = shortened here.start here.end xs ys b.0 b.1 (long ∙ many) spans k n here (without number (standing xs here)) h' b.2 read refl refl (omega (arith, few, long)) left in (
      rw put_is new.0,
      rw put_is (new.1 ∙ ap₂ (λ (lists : List (List ℕ)) (list : List ℕ). set lists k (without number list)) is' (sym (list_here spans xs now k here is' low read))),
    )
