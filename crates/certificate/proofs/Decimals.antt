-- A number that is read is the number that is written in decimal, and the other way round.
use Rattle.std.proofs.Common.{◌≡◌, ℕ, zero, suc, ◌+◌, ◌*◌, ◌-◌, ◌^◌, ◌<◌, ◌≤◌, true, false, cond, eqb, ltb, leb, List, [], ◌∷◌, ◌++◌, length, get_or, Some, None, refl, sym, ap, subst, ◌∙◌, inl, inr, arith, rules}
use Rattle.std.specs.Char.{is_ascii_digit}
use Rattle.std.specs.Str.{all_ascii_digits}
use Rattle.std.specs.Fmt.{decimal}
use Rattle.std.proofs.lemmas.Bool.{eqb-true, eqb-false, ne_eqb, ltb-true, leb-true, lt-ltb, and_parts}
use Rattle.std.proofs.lemmas.Option.{none-some, same_Some}
use Rattle.std.proofs.lemmas.Str.Parse.{IsNumeralModel, numerals_by_fold}
use Rattle.std.proofs.lemmas.Fmt.{decimal_digit, first_decimal, decimal_nonempty, digits_decimal, digits_value-decimal, decimal-digits_value}
use Rattle.lemmas.proofs.Choices.{passed, chosen}
use Rattle.certificate.specs.Reading.{more_digits, number_at}

-- the bytes do not go on with a digit
abbrev pub IsApart : List ℕ → Type 0
IsApart [] = Unit {0}
IsApart (b ∷ bytes) = is_ascii_digit b ≡ false

abbrev pub read_on : ℕ → List ℕ → ℕ
read_on n [] = n
read_on n (c ∷ cs) = read_on (10 * n + (c - 48)) cs

pub own : IsNumeralModel (λ ds. all_ascii_digits ds ≡ true) (read_on 0)
own = numerals_by_fold _ (search rules) read_on (search rules)

le_read_on : (n : ℕ) (ds : List ℕ) → n ≤ read_on n ds
le_read_on n [] = omega arith
le_read_on n (c ∷ cs) = let h : 10 * n + (c - 48) ≤ read_on (10 * n + (c - 48)) cs = le_read_on (10 * n + (c - 48)) cs in omega arith

more_again : (n : ℕ) (ds rest : List ℕ) → all_ascii_digits ds ≡ true → read_on n ds < 2 ^ 64 → IsApart rest → more_digits n (ds ++ rest) ≡ Some (read_on n ds, rest)
more_again n [] [] digits small apart = refl
more_again n [] (b ∷ bytes) digits small apart = rw apart refl
more_again n (c ∷ cs) rest digits small apart =
    let d = and_parts (is_ascii_digit c) (all_ascii_digits cs) digits in
    let le : 10 * n + (c - 48) ≤ read_on (10 * n + (c - 48)) cs = le_read_on (10 * n + (c - 48)) cs in
    let fits : ltb (10 * n + (c - 48)) (2 ^ 64) ≡ true = lt-ltb _ _ (omega arith) in
    rw (d.0, fits) (more_again (10 * n + (c - 48)) cs rest d.1 small apart)

-- the digits that were read
pub record HasDigits (n : ℕ) (bytes : List ℕ) (x : ℕ) (rest : List ℕ) : Type 0 where
  pub digits : List ℕ
  pub parts : bytes ≡ digits ++ rest
  pub are_digits : all_ascii_digits digits ≡ true
  pub value : read_on n digits ≡ x
  pub fits : x < 2 ^ 64

more_takes : (n : ℕ) (bytes : List ℕ) (x : ℕ) (rest : List ℕ) → n < 2 ^ 64 → more_digits n bytes ≡ Some (x, rest) → HasDigits n bytes x rest
more_takes n [] x rest small e =
    let p : (n, []) ≡ (x, rest) = same_Some _ _ e in
    let is : n ≡ x = ap (λ (p : ℕ × List ℕ). p.0) p in
    record { digits = []; parts = ap (λ (p : ℕ × List ℕ). p.1) p; are_digits = refl; value = is; fits = omega arith }
more_takes n (b ∷ bytes) x rest small e =
    let next = 10 * n + (b - 48) in
    elim (chosen (is_ascii_digit b) (cond (ltb next (2 ^ 64)) (more_digits next bytes) None) (Some (n, b ∷ bytes)) (Some (x, rest)) e) [
      | inl h ↦
          let p = passed (ltb next (2 ^ 64)) (more_digits next bytes) (x, rest) h.1 in
          let r = more_takes next bytes x rest (ltb-true next (2 ^ 64) p.0) p.1 in
          record { digits = b ∷ r.digits; parts = ap (λ (t : List ℕ). b ∷ t) r.parts; are_digits = rw h.0 r.are_digits; value = r.value; fits = r.fits }
      | inr h ↦
          let p : (n, b ∷ bytes) ≡ (x, rest) = same_Some _ _ h.1 in
          let is : n ≡ x = ap (λ (p : ℕ × List ℕ). p.0) p in
          record { digits = []; parts = ap (λ (p : ℕ × List ℕ). p.1) p; are_digits = refl; value = is; fits = omega arith }
    ]

digit_below : (b : ℕ) → is_ascii_digit b ≡ true → b < 58
digit_below b h = omega (arith, leb-true b 57 (and_parts (leb 48 b) (leb b 57) h).1)

from_digits : (b : ℕ) (bytes : List ℕ) (x : ℕ) (rest : List ℕ) → is_ascii_digit b ≡ true → (b ≡ 48 → ⊥) → HasDigits (b - 48) bytes x rest → (b ∷ bytes ≡ decimal x ++ rest) × (x < 2 ^ 64)
from_digits b bytes x rest digit other r =
    let start : 10 * 0 + (b - 48) ≡ b - 48 = omega arith in
    let value : read_on 0 (b ∷ r.digits) ≡ x = ap (λ n. read_on n r.digits) start ∙ r.value in
    let all : all_ascii_digits (b ∷ r.digits) ≡ true = rw digit r.are_digits in
    let text : decimal (read_on 0 (b ∷ r.digits)) ≡ b ∷ r.digits = decimal-digits_value own (b ∷ r.digits) all (omega arith) (λ z. absurd (other z)) (omega (arith, value, r.fits)) in
    (ap (λ (t : List ℕ). b ∷ t) r.parts ∙ ap (λ (t : List ℕ). t ++ rest) (sym text) ∙ ap (λ n. decimal n ++ rest) value, r.fits)

pub number_takes : (bytes : List ℕ) (x : ℕ) (rest : List ℕ) → number_at bytes ≡ Some (x, rest) → (bytes ≡ decimal x ++ rest) × (x < 2 ^ 64)
unfolding number_at
number_takes [] x rest e = absurd (none-some _ e)
number_takes (b ∷ bytes) x rest e =
    elim (chosen (eqb b 48) (Some (0, bytes)) (cond (is_ascii_digit b) (more_digits (b - 48) bytes) None) (Some (x, rest)) e) [
      | inl h ↦
          let is : b ≡ 48 = eqb-true b 48 h.0 in
          let p : (0, bytes) ≡ (x, rest) = same_Some _ _ h.1 in
          let zero-is : 0 ≡ x = ap (λ (p : ℕ × List ℕ). p.0) p in
          let rest-is : bytes ≡ rest = ap (λ (p : ℕ × List ℕ). p.1) p in
          (rw (is, rest-is, ← zero-is, decimal_digit 0 (omega arith)) refl, omega arith)
      | inr h ↦
          let p = passed (is_ascii_digit b) (more_digits (b - 48) bytes) (x, rest) h.1 in
          let below = digit_below b p.0 in
          from_digits b bytes x rest p.0 (eqb-false b 48 h.0) (more_takes (b - 48) bytes x rest (omega arith) p.1)
    ]

digits_again : (ds rest : List ℕ) → 0 < length ds → all_ascii_digits ds ≡ true → 48 < get_or ds 0 0 → read_on 0 ds < 2 ^ 64 → IsApart rest → number_at (ds ++ rest) ≡ Some (read_on 0 ds, rest)
unfolding number_at
digits_again [] rest some digits first small apart = absurd (omega arith)
digits_again (b ∷ ds) rest some digits first small apart =
    let d = and_parts (is_ascii_digit b) (all_ascii_digits ds) digits in
    let other : eqb b 48 ≡ false = ne_eqb b 48 (λ e. omega (arith, e)) in
    let start : 10 * 0 + (b - 48) ≡ b - 48 = omega arith in
    rw (other, d.0) (subst (λ n. more_digits (b - 48) (ds ++ rest) ≡ Some (read_on n ds, rest)) (sym start) (more_again (b - 48) ds rest d.1 (subst (λ n. read_on n ds < 2 ^ 64) start small) apart))

zero_again : (rest : List ℕ) → number_at (48 ∷ rest) ≡ Some (0, rest)
unfolding number_at
zero_again rest = refl

pub number_again : (n : ℕ) (rest : List ℕ) → n < 2 ^ 64 → IsApart rest → number_at (decimal n ++ rest) ≡ Some (n, rest)
number_again zero rest small apart = rw (decimal_digit 0 (omega arith)) (zero_again rest)
number_again (suc k) rest small apart =
    let n = suc k in
    let value : read_on 0 (decimal n) ≡ n = digits_value-decimal own n small in
    subst (λ v. number_at (decimal n ++ rest) ≡ Some (v, rest)) value
    (digits_again (decimal n) rest (decimal_nonempty n small) (digits_decimal own n small) (first_decimal n (omega arith) small) (omega (arith, value, small)) apart)
