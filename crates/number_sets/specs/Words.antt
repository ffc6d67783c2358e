-- A set of numbers in words of 64 bits.
use Rattle.std.specs.Prelude.{◌≡◌, ℕ, ◌+◌, ◌*◌, ◌/◌, ◌%◌, ◌<◌, ◌≤◌, Bool, List, length, slice_index, nat_eq, bit_and, bit_xor, false, map}
use Rattle.std.specs.Int.{bit_at}
use Rattle.std.specs.List.{range_with_len}

-- whether this bit of the word is 1, the lowest being bit 0
abbrev pub is_set : ℕ → ℕ → Bool
is_set word bit = nat_eq (bit_at word bit) 1

-- whether the set has this number
abbrev pub bit_of : List ℕ → ℕ → Bool
bit_of words k = nat_eq (bit_at (slice_index words (k / 64)) (k % 64)) 1

-- the word without the bits of the other
abbrev pub without_bits : ℕ → ℕ → ℕ
without_bits word other = bit_xor word (bit_and word other)

-- the truth values of the numbers below n
abbrev pub bits_of : ℕ → List ℕ → List Bool
bits_of n words = map (bit_of words) (range_with_len 0 n)

-- there are words for n bits, and no bit past them
pub record IsRow (n : ℕ) (words : List ℕ) : Type 0 where
  pub long : n ≤ 64 * length words
  pub short : 64 * length words < n + 64
  pub clear : (k : ℕ) → n ≤ k → bit_of words k ≡ false
