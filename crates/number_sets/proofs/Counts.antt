-- How many bits words have.
use Rattle.std.proofs.Common.{◌≡◌, ℕ, zero, suc, ◌+◌, ◌*◌, ◌^◌, ◌<◌, ◌≤◌, ◌++◌, ◌/◌, ◌%◌, ◌-◌, Bool, false, nat_eq, cond, count_by, count_ones, Fits, w64, List, [], ◌∷◌, length, get_or, take, drop, map, refl, sym, ap, ap₂, ◌∙◌, subst, arith}
use Rattle.std.specs.Int.{bit_at}
use Rattle.std.specs.Int.Count.{ones-ones}
use Rattle.std.specs.List.{range_with_len, sum_by}
use Rattle.std.proofs.lemmas.List.{take-append-drop}
use Rattle.std.proofs.lemmas.List.Sums.{count_by-le-length, sum_by-cons}
use Rattle.std.proofs.lemmas.Nat.Bits.{bit_at-suc, bit_at-lt, bit_at_lowest}
use Rattle.number_sets.proofs.Bits.{length_bits}
use Rattle.number_sets.specs.Words.{IsRow, bit_of, bits_of, is_set}
use Rattle.std.specs.Simd.Lanes.{sum_l}
use Rattle.std.proofs.lemmas.Nat.{ones-le, ones_cat, shr_below}

abbrev pub ones_of : List ℕ → ℕ
ones_of words = sum_l (map count_ones words)

pub ones_append : (xs ys : List ℕ) → ones_of (xs ++ ys) ≡ ones_of xs + ones_of ys
ones_append [] ys = omega arith
ones_append (x ∷ xs) ys = omega (arith, ones_append xs ys)

-- the first words have no more
pub ones_take : (i : ℕ) (words : List ℕ) → ones_of (take i words) ≤ ones_of words
ones_take i words =
    let whole : ones_of (take i words ++ drop i words) ≡ ones_of words = ap ones_of (take-append-drop i words) in
    omega (arith, whole, ones_append (take i words) (drop i words))

-- ---- bits that are set, counted one by one

abbrev number : Bool → ℕ
number b = cond b 1 0

-- how many of the n numbers from a on pass a test
many : (ℕ → Bool) → ℕ → ℕ → ℕ
many f a n = sum_by number (map f (range_with_len a n))

many_first : (f : ℕ → Bool) (a n : ℕ) → many f a (suc n) ≡ number (f a) + many f (a + 1) n
unfolding many
many_first f a n = sum_by-cons number (f a) (map f (range_with_len (a + 1) n))

many_none : (f : ℕ → Bool) (a : ℕ) → many f a 0 ≡ 0
unfolding many
many_none f a = refl

many_split : (f : ℕ → Bool) (a m n : ℕ) → many f a (m + n) ≡ many f a m + many f (a + m) n
many_split f a zero n =
    let place : a + 0 ≡ a = omega arith in
    let rest : many f (a + 0) n ≡ many f a n = ap (λ (v : ℕ). many f v n) place in
    let long : 0 + n ≡ n = omega arith in
    let all : many f a (0 + n) ≡ many f a n = ap (many f a) long in
    omega (arith, rest, all, many_none f a)
many_split f a (suc m) n =
    let long : suc m + n ≡ suc (m + n) = omega arith in
    let all : many f a (suc m + n) ≡ number (f a) + many f (a + 1) (m + n) = ap (many f a) long ∙ many_first f a (m + n) in
    let place : a + 1 + m ≡ a + suc m = omega arith in
    let rest : many f (a + 1 + m) n ≡ many f (a + suc m) n = ap (λ (v : ℕ). many f v n) place in
    omega (arith, all, rest, many_first f a m, many_split f (a + 1) m n)

many_same : (f g : ℕ → Bool) (a b n : ℕ) → ((k : ℕ) → k < n → f (a + k) ≡ g (b + k)) → many f a n ≡ many g b n
many_same f g a b zero h = many_none f a ∙ sym (many_none g b)
many_same f g a b (suc n) h =
    let pa : a ≡ a + 0 = omega arith in
    let pb : b + 0 ≡ b = omega arith in
    let first : f a ≡ g b = ap f pa ∙ h 0 (omega arith) ∙ ap g pb in
    let rest : many f (a + 1) n ≡ many g (b + 1) n = many_same f g (a + 1) (b + 1) n (λ k l.
    let qa : a + 1 + k ≡ a + (k + 1) = omega arith in
    let qb : b + (k + 1) ≡ b + 1 + k = omega arith in
    ap f qa ∙ h (k + 1) (omega arith) ∙ ap g qb) in
    many_first f a n ∙ ap₂ (λ (x : Bool) (y : ℕ). number x + y) first rest ∙ sym (many_first g b n)

many_past : (f : ℕ → Bool) (a n : ℕ) → ((k : ℕ) → a ≤ k → f k ≡ false) → many f a n ≡ 0
many_past f a zero h = many_none f a
many_past f a (suc n) h =
    let rest = many_past f (a + 1) n (λ k l. h k (omega arith)) in
    let first : number (f a) ≡ 0 = ap number (h a (omega arith)) in
    omega (arith, many_first f a n, first, rest)

-- ---- the bits of a word, and of words

one_bit : (b : ℕ) → b < 2 → number (nat_eq b 1) ≡ count_ones b
one_bit zero l = sym (ones-ones 0)
one_bit (suc zero) l = sym (ones-ones 1)
one_bit (suc (suc b)) l = absurd (omega arith)

ones_halves : (w : ℕ) → count_ones w ≡ count_ones (w / 2) + count_ones (w % 2)
ones_halves w =
    let whole : w ≡ w / 2 * 2 + w % 2 = omega arith in
    ap count_ones whole ∙ ones_cat 1 (w / 2) (w % 2) (omega arith)

many_word : (k w : ℕ) → w < 2 ^ k → many (is_set w) 0 k ≡ count_ones w
many_word zero w l = many_none (is_set w) 0 ∙ omega (arith, ones-le 0 w l)
many_word (suc k) w l =
    let more : suc k ≡ k + 1 = omega arith in
    let half : w / 2 < 2 ^ k = shr_below w k 1 (subst (λ (j : ℕ). w < 2 ^ j) more l) in
    let rest : many (is_set w) 1 k ≡ many (is_set (w / 2)) 0 k = many_same (is_set w) (is_set (w / 2)) 1 0 k (λ j m.
    let up : 1 + j ≡ suc j = omega arith in
    let same : j ≡ 0 + j = omega arith in
    ap (λ (v : ℕ). nat_eq v 1) (ap (bit_at w) up ∙ bit_at-suc w j ∙ ap (bit_at (w / 2)) same)) in
    let lowest : number (is_set w 0) ≡ count_ones (w % 2) = one_bit (bit_at w 0) (bit_at-lt w 0) ∙ ap count_ones (bit_at_lowest w) in
    omega (arith, many_first (is_set w) 0 k, lowest, rest, many_word k (w / 2) half, ones_halves w)

many_words : (words : List ℕ) → ((k : ℕ) → Fits w64 (get_or words k 0)) → many (bit_of words) 0 (64 * length words) ≡ ones_of words
many_words [] h = many_none (bit_of []) 0
many_words (w ∷ ws) h =
    let f = bit_of (w ∷ ws) in
    let n = 64 * length ws in
    let long : 64 * length (w ∷ ws) ≡ 64 + n = omega arith in
    let parts : many f 0 (64 * length (w ∷ ws)) ≡ many f 0 64 + many f 64 n = ap (many f 0) long ∙ many_split f 0 64 n in
    let first : many f 0 64 ≡ count_ones w = many_same f (is_set w) 0 0 64 (λ k l.
    let word : (0 + k) / 64 ≡ 0 = omega arith in
    let bit : (0 + k) % 64 ≡ 0 + k = omega arith in
    ap₂ (λ (i j : ℕ). is_set (get_or (w ∷ ws) i 0) j) word bit) ∙ many_word 64 w (h 0).fits in
    let rest : many f 64 n ≡ many (bit_of ws) 0 n = many_same f (bit_of ws) 64 0 n (λ k l.
    let word : (64 + k) / 64 ≡ suc ((0 + k) / 64) = omega arith in
    let bit : (64 + k) % 64 ≡ (0 + k) % 64 = omega arith in
    ap₂ (λ (i j : ℕ). is_set (get_or (w ∷ ws) i 0) j) word bit) in
    omega (arith, parts, first, rest, many_words ws (λ k. h (suc k)))

pub count_bits : (n : ℕ) (words : List ℕ) → IsRow n words → ((k : ℕ) → Fits w64 (get_or words k 0)) → count_by (λ (b : Bool). b) (bits_of n words) ≡ ones_of words
unfolding many
count_bits n words r h =
    let f = bit_of words in
    let d = 64 * length words - n in
    let long : 64 * length words ≡ n + d = omega (arith, r.long) in
    let parts : many f 0 (64 * length words) ≡ many f 0 n + many f (0 + n) d = ap (many f 0) long ∙ many_split f 0 n d in
    let past : many f (0 + n) d ≡ 0 = many_past f (0 + n) d (λ k l. r.clear k (omega arith)) in
    let all = many_words words h in
    omega (arith, parts, past, all)

-- all of them are counted by a word
pub ones_fit : (n : ℕ) (words : List ℕ) → IsRow n words → n < 2 ^ 64 → ((k : ℕ) → Fits w64 (get_or words k 0)) → ones_of words < 2 ^ 64
ones_fit n words r l h =
    omega (arith, count_bits n words r h, count_by-le-length (λ (b : Bool). b) (bits_of n words), length_bits n words)
