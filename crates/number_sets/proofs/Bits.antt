-- Bits in words, and rows as bits.
use Rattle.std.proofs.Common.{◌≡◌, ℕ, zero, suc, ◌+◌, ◌*◌, ◌/◌, ◌%◌, ◌-◌, ◌++◌, ◌^◌, ◌<◌, ◌≤◌, ◌≢◌, min, max, Bool, true, false, not, ◌&&◌, ◌||◌, nat_eq, bit_and, bit_or, List, length, get_or, set, slice_index, replicate, true≢false, refl, sym, ap, ap₂, ◌∙◌, arith, inl, inr}
use Rattle.std.specs.Int.{bit_at}
use Rattle.std.proofs.lemmas.Bool.{cases_lt, cases_eq}
use Rattle.std.proofs.lemmas.List.{get_or_past, get_or-set_same, get_or-set_other, length-append, length-set, length-replicate, get_or-replicate, get_or_append_left, get_or-append_right, same_lists}
use Rattle.std.proofs.lemmas.Nat.{one_shl}
use Rattle.std.proofs.lemmas.Nat.Bits.{bit_at_or, bit_at_and, bit_at_xor, bit_at-zero, bit_at-lt, bit_at_above, bit_at_ones, bit_at_ones_above, same_from_bits}
use Rattle.number_sets.specs.Members.{has}
use Rattle.number_sets.specs.Words.{bit_of, bits_of, without_bits, IsRow}
use Rattle.number_sets.proofs.Tables.{get_or-table, length-table}

-- ---- one bit

either : (x y : ℕ) → x < 2 → y < 2 → nat_eq (max x y) 1 ≡ (nat_eq x 1 || nat_eq y 1)
either zero zero p q = refl
either zero (suc zero) p q = refl
either (suc zero) zero p q = refl
either (suc zero) (suc zero) p q = refl
either (suc (suc x)) y p q = absurd (omega arith)
either zero (suc (suc y)) p q = absurd (omega arith)
either (suc zero) (suc (suc y)) p q = absurd (omega arith)

both : (x y : ℕ) → x < 2 → y < 2 → nat_eq (min x y) 1 ≡ (nat_eq x 1 && nat_eq y 1)
both zero zero p q = refl
both zero (suc zero) p q = refl
both (suc zero) zero p q = refl
both (suc zero) (suc zero) p q = refl
both (suc (suc x)) y p q = absurd (omega arith)
both zero (suc (suc y)) p q = absurd (omega arith)
both (suc zero) (suc (suc y)) p q = absurd (omega arith)

without : (x y : ℕ) → x < 2 → y < 2 → nat_eq ((x + min x y) % 2) 1 ≡ (nat_eq x 1 && not (nat_eq y 1))
without zero zero p q = refl
without zero (suc zero) p q = refl
without (suc zero) zero p q = refl
without (suc zero) (suc zero) p q = refl
without (suc (suc x)) y p q = absurd (omega arith)
without zero (suc (suc y)) p q = absurd (omega arith)
without (suc zero) (suc (suc y)) p q = absurd (omega arith)

abbrev Bit : ℕ → ℕ → Bool
Bit n j = nat_eq (bit_at n j) 1

pub or_bit : (a b j : ℕ) → Bit (bit_or a b) j ≡ (Bit a j || Bit b j)
or_bit a b j = ap (λ v. nat_eq v 1) (bit_at_or a b j) ∙ either (bit_at a j) (bit_at b j) (bit_at-lt a j) (bit_at-lt b j)

pub and_bit : (a b j : ℕ) → Bit (bit_and a b) j ≡ (Bit a j && Bit b j)
and_bit a b j = ap (λ v. nat_eq v 1) (bit_at_and a b j) ∙ both (bit_at a j) (bit_at b j) (bit_at-lt a j) (bit_at-lt b j)

pub minus_bit : (a b j : ℕ) → Bit (without_bits a b) j ≡ (Bit a j && not (Bit b j))
minus_bit a b j =
    ap (λ v. nat_eq v 1) (bit_at_xor a (bit_and a b) j ∙ ap (λ v. (bit_at a j + v) % 2) (bit_at_and a b j))
    ∙ without (bit_at a j) (bit_at b j) (bit_at-lt a j) (bit_at-lt b j)

no_bit : (j : ℕ) → Bit 0 j ≡ false
no_bit j = ap (λ v. nat_eq v 1) (bit_at-zero j)

same_bit : (a b j : ℕ) → Bit a j ≡ Bit b j → bit_at a j ≡ bit_at b j
same_bit a b j e = go (bit_at a j) (bit_at b j) (bit_at-lt a j) (bit_at-lt b j) e
  where
    go : (x y : ℕ) → x < 2 → y < 2 → nat_eq x 1 ≡ nat_eq y 1 → x ≡ y
    go zero zero p q e = refl
    go zero (suc zero) p q e = absurd (true≢false (sym e))
    go (suc zero) zero p q e = absurd (true≢false e)
    go (suc zero) (suc zero) p q e = refl
    go (suc (suc x)) y p q e = absurd (omega arith)
    go zero (suc (suc y)) p q e = absurd (omega arith)
    go (suc zero) (suc (suc y)) p q e = absurd (omega arith)

above : (a j : ℕ) → a < 2 ^ 64 → 64 ≤ j → Bit a j ≡ false
above a j l h = ap (λ v. nat_eq v 1) (bit_at_above a 64 j l h)

-- the number whose bit is the bit j of the word i
pub at_place : (words : List ℕ) (i j : ℕ) → j < 64 → bit_of words (64 * i + j) ≡ Bit (get_or words i 0) j
at_place words i j l =
    let word : (64 * i + j) / 64 ≡ i = omega arith in
    let bit : (64 * i + j) % 64 ≡ j = omega arith in
    ap₂ (λ w b. Bit (get_or words w 0) b) word bit

all_bits : (a b : ℕ) → a < 2 ^ 64 → b < 2 ^ 64 → ((j : ℕ) → j < 64 → Bit a j ≡ Bit b j) → a ≡ b
all_bits a b la lb h = same_from_bits a b (λ j.
    elim (cases_lt j 64) [
      | inl l ↦ same_bit a b j (h j l)
      | inr l ↦ same_bit a b j (above a j la l ∙ sym (above b j lb l))
    ])

and_fits : (a b : ℕ) → a < 2 ^ 64 → (j : ℕ) → 64 ≤ j → Bit (bit_and a b) j ≡ false
and_fits a b l j h = and_bit a b j ∙ rw (above a j l h) refl

-- ---- no common bit

nothing_past : (a b : List ℕ) (P : ℕ → ℕ → Type 0) → length a ≡ length b → P 0 0 → ((k : ℕ) → k < length a → P (get_or a k 0) (get_or b k 0)) → (k : ℕ) → P (get_or a k 0) (get_or b k 0)
nothing_past a b P long none each k =
    elim (cases_lt k (length a)) [
      | inl l ↦ each k l
      | inr l ↦ (let m : length b ≤ k = omega arith in rw (get_or_past a k 0 l, get_or_past b k 0 m) none)
    ]

and_true : (x y : Bool) → (x && y) ≡ false → x ≡ true → y ≡ false
and_true true y h e = h
and_true false y h e = absurd (true≢false (sym e))

and_keeps : (x y : Bool) → (x && y) ≡ x → x ≡ true → y ≡ true
and_keeps true y h e = h
and_keeps false y h e = absurd (true≢false (sym e))

and_false : (x y : Bool) → (x ≡ true → y ≡ false) → (x && y) ≡ false
and_false true y h = h refl
and_false false y h = refl

and_same : (x y : Bool) → (x ≡ true → y ≡ true) → (x && y) ≡ x
and_same true y h = h refl
and_same false y h = refl

pub disjoint_bits : (a b : List ℕ) → length a ≡ length b → ((k : ℕ) → k < length a → bit_and (get_or a k 0) (get_or b k 0) ≡ 0) → (k : ℕ) → bit_of a k ≡ true → bit_of b k ≡ false
disjoint_bits a b long h k t =
    let w = k / 64 in
    let j = k % 64 in
    let none = nothing_past a b (λ x y. bit_and x y ≡ 0) long refl h w in
    and_true (bit_of a k) (bit_of b k) (sym (and_bit (get_or a w 0) (get_or b w 0) j) ∙ ap (λ v. Bit v j) none ∙ no_bit j) t

pub disjoint_words : (a b : List ℕ) (i : ℕ) → get_or a i 0 < 2 ^ 64 → ((k : ℕ) → bit_of a k ≡ true → bit_of b k ≡ false) → bit_and (get_or a i 0) (get_or b i 0) ≡ 0
disjoint_words a b i fits h =
    let x = get_or a i 0 in
    let y = get_or b i 0 in
    same_from_bits (bit_and x y) 0 (λ j. same_bit (bit_and x y) 0 j (
    elim (cases_lt j 64) [
      | inl l ↦ and_bit x y j ∙ and_false (Bit x j) (Bit y j) (λ t. sym (at_place b i j l) ∙ h (64 * i + j) (at_place a i j l ∙ t)) ∙ sym (no_bit j)
      | inr l ↦ and_fits x y fits j l ∙ sym (no_bit j)
    ]))

pub within_bits : (a b : List ℕ) → length a ≡ length b → ((k : ℕ) → k < length a → bit_and (get_or a k 0) (get_or b k 0) ≡ get_or a k 0) → (k : ℕ) → bit_of a k ≡ true → bit_of b k ≡ true
within_bits a b long h k t =
    let w = k / 64 in
    let j = k % 64 in
    let kept = nothing_past a b (λ x y. bit_and x y ≡ x) long refl h w in
    and_keeps (bit_of a k) (bit_of b k) (sym (and_bit (get_or a w 0) (get_or b w 0) j) ∙ ap (λ v. Bit v j) kept) t

pub within_words : (a b : List ℕ) (i : ℕ) → get_or a i 0 < 2 ^ 64 → ((k : ℕ) → bit_of a k ≡ true → bit_of b k ≡ true) → bit_and (get_or a i 0) (get_or b i 0) ≡ get_or a i 0
within_words a b i fits h =
    let x = get_or a i 0 in
    let y = get_or b i 0 in
    same_from_bits (bit_and x y) x (λ j. same_bit (bit_and x y) x j (
    elim (cases_lt j 64) [
      | inl l ↦ and_bit x y j ∙ and_same (Bit x j) (Bit y j) (λ t. sym (at_place b i j l) ∙ h (64 * i + j) (at_place a i j l ∙ t))
      | inr l ↦ and_fits x y fits j l ∙ sym (above x j fits l)
    ]))

-- ---- rows

pub length_bits : (n : ℕ) (words : List ℕ) → length (bits_of n words) ≡ n
length_bits n words = length-table n (bit_of words)

pub has_bits : (n : ℕ) (words : List ℕ) → IsRow n words → (k : ℕ) → has (bits_of n words) k ≡ bit_of words k
has_bits n words r k =
    elim (cases_lt k n) [
      | inl l ↦ get_or-table n (bit_of words) k false l
      | inr l ↦ (let past : length (bits_of n words) ≤ k = omega (arith, length_bits n words) in get_or_past (bits_of n words) k false past ∙ sym (r.clear k l))
    ]

pub as_many_words : (n m : ℕ) (a b : List ℕ) → IsRow n a → IsRow m b → n ≡ m → length a ≡ length b
as_many_words n m a b p q e = omega (arith, p.long, p.short, q.long, q.short)

-- ---- one more member

pub put_bits : (n : ℕ) (words : List ℕ) (i w : ℕ) → IsRow n words → i < n → i / 64 < length words
    → Bit w (i % 64) ≡ true → ((j : ℕ) → j < 64 → j ≢ i % 64 → Bit w j ≡ Bit (get_or words (i / 64) 0) j)
    → IsRow n (set words (i / 64) w) × (bits_of n (set words (i / 64) w) ≡ set (bits_of n words) i true)
put_bits n words i w r l within here others =
    let new = set words (i / 64) w in
    let at : bit_of new i ≡ true = ap (λ v. Bit v (i % 64)) (get_or-set_same words (i / 64) w 0 within) ∙ here in
    let apart : (k : ℕ) → k ≢ i → bit_of new k ≡ bit_of words k = λ k ne.
    elim (cases_eq (k / 64) (i / 64)) [
      | inl e ↦
          (let lj : k % 64 < 64 = omega arith in
          let other : k % 64 ≢ i % 64 = λ s. ne (omega (arith, e, s)) in
          ap (λ v. Bit (get_or new v 0) (k % 64)) e
          ∙ ap (λ v. Bit v (k % 64)) (get_or-set_same words (i / 64) w 0 within)
          ∙ others (k % 64) lj other
          ∙ ap (λ v. Bit (get_or words v 0) (k % 64)) (sym e))
      | inr d ↦ ap (λ v. Bit v (k % 64)) (get_or-set_other words (i / 64) (k / 64) w 0 d)
    ] in
    let many = length-set words (i / 64) w in (
      record {
        long = omega (arith, r.long, many);
        short = omega (arith, r.short, many);
        clear = λ k p. (let ne : k ≢ i = omega arith in apart k ne ∙ r.clear k p);
      },
      same_lists (bits_of n new) (set (bits_of n words) i true) (length_bits n new ∙ sym (length-set (bits_of n words) i true ∙ length_bits n words)) (λ k d lk.
          let inside : k < n = omega (arith, length_bits n new) in
          let there : i < length (bits_of n words) = omega (arith, length_bits n words) in
          elim (cases_eq k i) [
            | inl e ↦ get_or-table n (bit_of new) k d inside ∙ ap (bit_of new) e ∙ at ∙ sym (ap (λ v. get_or (set (bits_of n words) i true) v d) e ∙ get_or-set_same (bits_of n words) i true d there)
            | inr ne ↦ get_or-table n (bit_of new) k d inside ∙ apart k ne ∙ sym (get_or-set_other (bits_of n words) i k true d ne ∙ get_or-table n (bit_of words) k d inside)
          ]),
    )

zeroes : (n i : ℕ) → slice_index (replicate n 0) i ≡ 0
zeroes zero i = refl
zeroes (suc n) zero = refl
zeroes (suc n) (suc i) = zeroes n i

pub no_bits : (count k : ℕ) → bit_of (replicate count 0) k ≡ false
no_bits count k = ap (λ w. Bit w (k % 64)) (zeroes count (k / 64)) ∙ no_bit (k % 64)

-- ---- further numbers, of which none is a member

bit_behind : (words : List ℕ) (more k : ℕ) → bit_of (words ++ replicate more 0) k ≡ bit_of words k
bit_behind words more k = ap (λ (w : ℕ). Bit w (k % 64)) (elim (cases_lt (k / 64) (length words)) [
  | inl l ↦ get_or_append_left words (replicate more 0) 0 (k / 64) l
  | inr l ↦ get_or-append_right words (replicate more 0) (length words) (k / 64) 0 refl l ∙ zeroes more (k / 64 - length words) ∙ sym (get_or_past words (k / 64) 0 l)
])

pub extended_row : (n m more : ℕ) (words : List ℕ) → IsRow n words → n ≤ m → more + (n + 63) / 64 ≡ (m + 63) / 64 → IsRow m (words ++ replicate more 0)
extended_row n m more words r low is =
    let many = length-append words (replicate more 0) ∙ ap (λ (k : ℕ). length words + k) (length-replicate {A = ℕ} more 0) in
    record {
      long = omega (arith, many, is, r.long, r.short);
      short = omega (arith, many, is, r.long, r.short);
      clear = λ k past. bit_behind words more k ∙ r.clear k (omega (arith, low, past));
    }

pub extended_bits : (n m more : ℕ) (words : List ℕ) → IsRow n words → n ≤ m → bits_of m (words ++ replicate more 0) ≡ bits_of n words ++ replicate (m - n) false
extended_bits n m more words r low =
    let before = bits_of n words in
    let behind = replicate (m - n) false in
    let long = length_bits m (words ++ replicate more 0) in
    let many = length-append before behind ∙ ap₂ (λ (a b : ℕ). a + b) (length_bits n words) (length-replicate {A = Bool} (m - n) false) in
    same_lists (bits_of m (words ++ replicate more 0)) (before ++ behind) (omega (arith, long, many, low)) (λ k d lk.
    get_or-table m (bit_of (words ++ replicate more 0)) k d (omega (arith, long, lk)) ∙ bit_behind words more k ∙ elim (cases_lt k n) [
      | inl l ↦ sym (get_or_append_left before behind d k (omega (arith, length_bits n words, l)) ∙ get_or-table n (bit_of words) k d l)
      | inr l ↦ r.clear k l ∙ sym (get_or-append_right before behind n k d (length_bits n words) l ∙ get_or-replicate (m - n) (k - n) false d (omega (arith, long, lk, l)))
    ])

-- ---- all numbers below n

full_bit : (n : ℕ) (words : List ℕ) → ((j : ℕ) → j < n / 64 → get_or words j 0 ≡ 2 ^ 64 - 1) → (n % 64 ≢ 0 → get_or words (n / 64) 0 ≡ 2 ^ (n % 64) - 1)
    → (k : ℕ) → k < n → bit_of words k ≡ true
full_bit n words whole last k l =
    elim (cases_lt (k / 64) (n / 64)) [
      | inl low ↦ ap (λ v. Bit v (k % 64)) (whole (k / 64) low) ∙ ap (λ v. nat_eq v 1) (bit_at_ones 64 (k % 64) (omega arith))
      | inr high ↦
          (let same : k / 64 ≡ n / 64 = omega arith in
          let some : n % 64 ≢ 0 = λ e. omega arith in
          ap (λ v. Bit (get_or words v 0) (k % 64)) same ∙ ap (λ v. Bit v (k % 64)) (last some) ∙ ap (λ v. nat_eq v 1) (bit_at_ones (n % 64) (k % 64) (omega arith)))
    ]

-- the words of all numbers below n
pub record AreFull (n : ℕ) (words : List ℕ) : Type 0 where
  pub many : length words ≡ (n + 63) / 64
  pub whole : (j : ℕ) → j < n / 64 → get_or words j 0 ≡ 2 ^ 64 - 1
  pub last : n % 64 ≢ 0 → get_or words (n / 64) 0 ≡ 2 ^ (n % 64) - 1

full_past : (n : ℕ) (words : List ℕ) → AreFull n words → (k : ℕ) → n ≤ k → bit_of words k ≡ false
full_past n words f k l =
    elim (cases_lt (k / 64) (length words)) [
      | inl low ↦
          (let many = f.many in
          let same : k / 64 ≡ n / 64 = omega arith in
          let some : n % 64 ≢ 0 = λ e. omega arith in
          ap (λ v. Bit (get_or words v 0) (k % 64)) same ∙ ap (λ v. Bit v (k % 64)) (f.last some) ∙ ap (λ v. nat_eq v 1) (bit_at_ones_above (n % 64) (k % 64) (omega arith)))
      | inr high ↦ ap (λ v. Bit v (k % 64)) (get_or_past words (k / 64) 0 high) ∙ no_bit (k % 64)
    ]

pub full_row : (n : ℕ) (words : List ℕ) → AreFull n words → IsRow n words
full_row n words f =
    let many = f.many in
    record {
      long = omega arith;
      short = omega arith;
      clear = full_past n words f;
    }

pub full_bits : (n : ℕ) (words : List ℕ) → AreFull n words → bits_of n words ≡ replicate n true
full_bits n words f =
    same_lists (bits_of n words) (replicate n true) (length_bits n words ∙ sym (length-replicate n true)) (λ k d l.
    let inside : k < n = omega (arith, length_bits n words) in
    get_or-table n (bit_of words) k d inside ∙ full_bit n words f.whole f.last k inside ∙ sym (get_or-replicate n k true d inside))

pub all_ones : (n count : ℕ) (words : List ℕ) → words ≡ replicate count (2 ^ 64 - 1) → count ≡ (n + 63) / 64 → n % 64 ≡ 0 → AreFull n words
all_ones n count words e many none =
    let long : length words ≡ count = ap length e ∙ length-replicate count (2 ^ 64 - 1) in
    record {
      many = long ∙ many;
      whole = λ j l. (let within : j < count = omega arith in ap (λ (ws : List ℕ). get_or ws j 0) e ∙ get_or-replicate count j (2 ^ 64 - 1) 0 within);
      last = λ some. absurd (some none);
    }

pub ones_and_last : (n count : ℕ) (words : List ℕ) → words ≡ replicate count (2 ^ 64 - 1) → count ≡ (n + 63) / 64 → n % 64 ≢ 0 → AreFull n (set words (n / 64) (1 * 2 ^ (n % 64) % 2 ^ 64 - 1))
ones_and_last n count words e many some =
    let ones = 1 * 2 ^ (n % 64) % 2 ^ 64 - 1 in
    let positive : 0 < n % 64 = omega arith in
    let long : length words ≡ count = ap length e ∙ length-replicate count (2 ^ 64 - 1) in
    let there : n / 64 < length words = omega arith in
    let small : n % 64 < 64 = omega arith in
    record {
      many = length-set words (n / 64) ones ∙ long ∙ many;
      whole = λ j l.
          (let within : j < count = omega arith in
          let other : j ≢ n / 64 = omega arith in
          get_or-set_other words (n / 64) j ones 0 other ∙ ap (λ (ws : List ℕ). get_or ws j 0) e ∙ get_or-replicate count j (2 ^ 64 - 1) 0 within);
      last = λ _. get_or-set_same words (n / 64) ones 0 there ∙ ap (λ (v : ℕ). v - 1) (one_shl (n % 64) 64 small);
    }
