-- The bits of one word of a set, taken from the lowest on.
use Rattle.std.proofs.Common.{◌≡◌, ℕ, zero, suc, ◌+◌, ◌-◌, ◌*◌, ◌%◌, ◌^◌, ◌<◌, ◌≤◌, ◌≢◌, ⊎_elim, Bool, true, false, List, length, nat_eq, bit_and, sym, ap, ◌∙◌, subst, arith, w64}
use Rattle.std.proofs.lemmas.Bool.{cases_eq, cases_lt, false≢true}
use Rattle.std.proofs.lemmas.List.{get_or_past}
use Rattle.std.proofs.lemmas.Nat.{and_le_l}
use Rattle.std.proofs.lemmas.Nat.Bits.{bit_at_clear_same, bit_at_clear_other, bit_at-trailing_zeros, bit_at-zero}
use Rattle.std.specs.Int.{bit_at, bit_not, trailing_zeros}
use Rattle.number_sets.specs.Members.{has}
use Rattle.number_sets.specs.Words.{is_set}

-- the bits of the word are those of the set from the first number on; those before the place k are taken
pub record AreLeft (set : List Bool) (first k left : ℕ) : Type 0 where
  pub taken : (i : ℕ) → i < k → bit_at left i ≡ 0
  pub still : (i : ℕ) → k ≤ i → i < 64 → is_set left i ≡ has set (first + i)

-- the word without its lowest 1
abbrev pub without_lowest : ℕ → ℕ
without_lowest left = bit_and left (bit_not w64 (1 * 2 ^ trailing_zeros w64 left % 2 ^ 64))

-- what holds where the members below a number are taken holds of those that are
pub record AreTaken (set : List Bool) (Holds : ℕ → Type 0) (first left k : ℕ) : Type 0 where
  pub within : k ≤ 64
  pub bits : AreLeft set first k left
  pub before : Holds (first + k)

-- nothing changes at a number that is no member
abbrev pub PassesOver : List Bool → (ℕ → Type 0) → Type 0
PassesOver set Holds = (n : ℕ) → has set n ≡ false → Holds n → Holds (n + 1)

-- a member is below the length
pub member_within : (set : List Bool) (n : ℕ) → has set n ≡ true → n < length set
member_within set n member = ⊎_elim
    (λ below. below)
    (λ past. absurd (false≢true (sym (get_or_past set n false past) ∙ member)))
    (cases_lt n (length set))

-- ---- one bit more

module _ (set : List Bool) (Holds : ℕ → Type 0) (first left k : ℕ) (passes : PassesOver set Holds) (was : AreTaken set Holds first left k) where
  -- where the bit is 0, there is no member
  absent : (i : ℕ) → k ≤ i → i < 64 → bit_at left i ≡ 0 → has set (first + i) ≡ false
  absent i low high gone = sym (was.bits.still i low high) ∙ ap (λ b. nat_eq b 1) gone

  -- and where all are up to a place, there is none up to there
  skipped : (more : ℕ) → k + more ≤ 64 → ((i : ℕ) → i < k + more → bit_at left i ≡ 0) → Holds (first + (k + more))
  skipped zero high zeros = subst Holds (omega arith) was.before
  skipped (suc more) high zeros =
      subst Holds (omega arith)
      (passes (first + (k + more)) (absent (k + more) (omega arith) (omega arith) (zeros (k + more) (omega arith)))
      (skipped more (omega arith) (λ i low. zeros i (omega arith))))

  up_to : (l : ℕ) → k ≤ l → l ≤ 64 → ((i : ℕ) → i < l → bit_at left i ≡ 0) → Holds (first + l)
  up_to l low high zeros = subst Holds (omega arith) (skipped (l - k) (omega arith) (λ i below. zeros i (omega arith)))

  -- all are taken where none is left
  pub all_taken : left ≡ 0 → Holds (first + 64)
  all_taken gone = up_to 64 was.within (omega arith) (λ i low. ap (λ n. bit_at n i) gone ∙ bit_at-zero i)

  module _ (some : 0 < left) (fits : left < 2 ^ 64) where
    abbrev place : ℕ
    place = trailing_zeros w64 left

    lowest : (place < 64) × (bit_at left place ≡ 1) × ((i : ℕ) → i < place → bit_at left i ≡ 0)
    lowest = bit_at-trailing_zeros w64 left some fits

    from_taken : k ≤ place
    from_taken = ⊎_elim
        (λ below. absurd (let gone = was.bits.taken place below in omega (arith, gone, lowest.1)))
        (λ above. above)
        (cases_lt place k)

    pub lowest_member : has set (first + place) ≡ true
    lowest_member = sym (was.bits.still place from_taken lowest.0) ∙ ap (λ b. nat_eq b 1) lowest.1

    -- those before the lowest
    pub before_lowest : Holds (first + place)
    before_lowest = up_to place from_taken (omega (arith, lowest.0)) lowest.2

    pub lowest_within : first + place < length set
    lowest_within = member_within set (first + place) lowest_member

    pub smaller : without_lowest left < left
    smaller =
        let gone : bit_at (without_lowest left) place ≡ 0 = bit_at_clear_same w64 left place lowest.0 in
        ⊎_elim
        (λ same. absurd (let both : bit_at (without_lowest left) place ≡ bit_at left place = ap (λ x. bit_at x place) same in omega (arith, both, gone, lowest.1)))
        (λ other. omega (arith, other, and_le_l left (bit_not w64 (1 * 2 ^ place % 2 ^ 64))))
        (cases_eq (without_lowest left) left)

    rest : AreLeft set first (place + 1) (without_lowest left)
    rest = record {
      taken = λ i low. ⊎_elim
          (λ same. ap (bit_at (without_lowest left)) same ∙ bit_at_clear_same w64 left place lowest.0)
          (λ other. bit_at_clear_other w64 left place lowest.0 i (omega (arith, low, lowest.0)) other ∙ lowest.2 i (omega (arith, low, other)))
          (cases_eq i place);
      still = λ i low high. (let other : i ≢ place = (λ same. absurd (omega (arith, low, same))) in
          ap (λ b. nat_eq b 1) (bit_at_clear_other w64 left place lowest.0 i high other) ∙ was.bits.still i (omega (arith, low, from_taken)) high);
    }

    -- the lowest is taken with what holds then
    pub lowest_taken : (Now : ℕ → Type 0) → Now (first + place + 1) → AreTaken set Now first (without_lowest left) (place + 1)
    lowest_taken Now now = record {
      within = omega (arith, lowest.0);
      bits = rest;
      before = subst Now (omega arith) now;
    }

-- none of a word is taken yet
pub whole : (set : List Bool) (Holds : ℕ → Type 0) (first word : ℕ) → ((i : ℕ) → i < 64 → is_set word i ≡ has set (first + i)) → Holds first → AreTaken set Holds first word 0
whole set Holds first word bits holds = record {
  within = omega arith;
  bits = record { taken = λ i low. absurd (omega (arith, low)); still = λ i low high. bits i high };
  before = subst Holds (omega arith) holds;
}

-- a word without a bit has no member
pub blank : (set : List Bool) (Holds : ℕ → Type 0) (first word : ℕ) → PassesOver set Holds → ((i : ℕ) → i < 64 → is_set word i ≡ has set (first + i)) → word ≡ 0 → Holds first → Holds (first + 64)
blank set Holds first word passes bits none holds = all_taken set Holds first word 0 passes (whole set Holds first word bits holds) none
