-- Two rows of the same length, read and combined.
use Rattle.std.proofs.Common.{◌≡◌, ◌↔◌, ℕ, ◌/◌, ◌%◌, ◌≤◌, Bool, true, false, List, length, get_or, sym, ap, ap₂, ◌∙◌, arith}
use Rattle.number_sets.specs.Members.{has}
use Rattle.number_sets.specs.Words.{is_set, bit_of, bits_of, IsRow}
use Rattle.number_sets.proofs.Bits.{has_bits, length_bits, as_many_words}

same_bound : (n m : ℕ) (old other : List ℕ) (row row' : List Bool) → bits_of n old ≡ row → bits_of m other ≡ row' → length row ≡ length row' → n ≡ m
same_bound n m old other row row' here there same = omega (arith, length_bits n old, length_bits m other, ap length here, ap length there, same)

-- they have as many words
pub as_many : {n m : ℕ} {old other a b : List ℕ} {row row' : List Bool} → IsRow n old → IsRow m other → bits_of n old ≡ row → bits_of m other ≡ row' → length row ≡ length row'
    → a ≡ old → b ≡ other → length a ≡ length b
as_many {n} {m} {old} {other} {a} {b} {row} {row'} p q here there same e f =
    ap length e ∙ as_many_words n m old other p q (same_bound n m old other row row' here there same) ∙ sym (ap length f)

-- what is said of each member of the one is said of the words
pub each_member : (v : Bool) {n m : ℕ} {old other a b : List ℕ} {row row' : List Bool} {P : Type 0} → IsRow n old → IsRow m other → bits_of n old ≡ row → bits_of m other ≡ row'
    → a ≡ old → b ≡ other → (P ↔ ((k : ℕ) → bit_of a k ≡ true → bit_of b k ≡ v)) → P ↔ ((k : ℕ) → has row k ≡ true → has row' k ≡ v)
each_member v {n} {m} {old} {other} {a} {b} {row} {row'} {P} p q here there e f h =
    let this = has_bits n old p in
    let that = has_bits m other q in
    let (to, back) = rw (e, f) at h in
    rw (← here, ← there) (λ t k i. that k ∙ to t k (sym (this k) ∙ i), λ i. back (λ k t. sym (that k) ∙ i k (this k ∙ t)))

-- the words are a row, with each member by a test of the two
pub record AreCombined (f : Bool → Bool → Bool) (n : ℕ) (words : List ℕ) (one other : List Bool) : Type 0 where
  pub row : IsRow n words
  pub len : length (bits_of n words) ≡ length one
  pub members : (k : ℕ) → has (bits_of n words) k ≡ f (has one k) (has other k)

-- word by word, by a test of two bits that is false where neither is set
combined : (f : Bool → Bool → Bool) → f false false ≡ false → (g : ℕ → ℕ → ℕ) → ((a b j : ℕ) → is_set (g a b) j ≡ f (is_set a j) (is_set b j))
    → (n m : ℕ) (old new other : List ℕ) → IsRow n old → IsRow m other → n ≡ m → length new ≡ length old
    → ((k : ℕ) → get_or new k 0 ≡ g (get_or old k 0) (get_or other k 0)) → AreCombined f n new (bits_of n old) (bits_of m other)
combined f none g bitwise n m old new other p q e long words =
    let bits : (k : ℕ) → bit_of new k ≡ f (bit_of old k) (bit_of other k) = λ k.
    ap (λ w. is_set w (k % 64)) (words (k / 64)) ∙ bitwise (get_or old (k / 64) 0) (get_or other (k / 64) 0) (k % 64) in
    let row : IsRow n new = record {
      long = omega (arith, p.long);
      short = omega (arith, p.short);
      clear = λ k l. (let l' : m ≤ k = omega arith in bits k ∙ rw (p.clear k l, q.clear k l') none);
    } in
    record {
      row = row;
      len = length_bits n new ∙ sym (length_bits n old);
      members = λ k. has_bits n new row k ∙ bits k ∙ ap₂ f (sym (has_bits n old p k)) (sym (has_bits m other q k));
    }

pub rows_combined : (f : Bool → Bool → Bool) → f false false ≡ false → (g : ℕ → ℕ → ℕ) → ((a b j : ℕ) → is_set (g a b) j ≡ f (is_set a j) (is_set b j))
    → {n m : ℕ} {old other a b new written : List ℕ} {row row' : List Bool} → IsRow n old → IsRow m other → bits_of n old ≡ row → bits_of m other ≡ row' → length row ≡ length row'
    → a ≡ old → b ≡ other → length new ≡ length a → ((k : ℕ) → get_or new k 0 ≡ g (get_or a k 0) (get_or b k 0)) → written ≡ new → AreCombined f n written row row'
rows_combined f none g bitwise {n} {m} {old} {other} {a} {b} {new} {written} {row} {row'} p q here there same e h long words is =
    rw (is, ← here, ← there) (combined f none g bitwise n m old new other p q (same_bound n m old other row row' here there same) (long ∙ ap length e) (λ k. rw (← e, ← h) (words k)))
