-- Tables of bytes, held against their definitions at each of the 256 bytes, by computing; and the last byte of a word.
use Rattle.std.proofs.Common.{◌≡◌, ℕ, zero, suc, ◌-◌, ◌<◌, List, [], ◌∷◌, Bool, true, false, ◌&&◌, ◌==◌, not, nat_eq, get_or, length, slice_get, Some, refl, sym, ap, ◌∙◌, arith, inl, inr}
use Rattle.std.proofs.lemmas.Bool.{cases_eq}
use Rattle.std.proofs.lemmas.Option.{none-some, same_Some}
use Rattle.std.specs.Bool.{beq}
use Rattle.fs_lexer.specs.Spelling.{is_last_dot}

-- the two tests agree below n
unfoldable pub agree_below : (ℕ → Bool) → (ℕ → Bool) → ℕ → Bool
agree_below f g zero = true
agree_below f g (suc n) = beq (f n) (g n) && agree_below f g n

both_of : (x y rest : Bool) → (beq x y && rest) ≡ true → (x ≡ y) × (rest ≡ true)
both_of true true rest h = (refl, h)
both_of true false rest h = cc
both_of false true rest h = cc
both_of false false rest h = (refl, h)

agree_at : (f g : ℕ → Bool) (n : ℕ) → agree_below f g n ≡ true → (b : ℕ) → b < n → f b ≡ g b
unfolding agree_below
agree_at f g zero h b lt = absurd (omega arith)
agree_at f g (suc n) h b lt =
    let both = both_of (f n) (g n) (agree_below f g n) h in
    elim (cases_eq b n) [ inl same ↦ rw same both.0 | inr other ↦ agree_at f g n both.1 b (omega arith) ]

-- a byte passes where the table has it, and no comma
pub from_table : (table : List ℕ) (test : ℕ → Bool) (b : ℕ) → b < 256
    → agree_below (λ k. not (nat_eq (get_or table k 0) 44)) test 256 ≡ true
    → not (nat_eq (get_or table b 0) 44) ≡ test b
from_table table test b lt h = agree_at _ _ 256 h b lt

pub last_dot : (bytes : List ℕ) (b : ℕ) → slice_get bytes (length bytes - 1) ≡ Some b → is_last_dot bytes ≡ (b == 46)
last_dot [] b at = absurd (none-some b at)
last_dot (c ∷ []) b at = ap (λ x. x == 46) (same_Some c b at)
last_dot (c ∷ d ∷ bytes) b at =
    let before : suc (suc (length bytes)) - 1 ≡ suc (length bytes) = omega arith in
    let behind : suc (length bytes) - 1 ≡ length bytes = omega arith in
    last_dot (d ∷ bytes) b (ap (slice_get (d ∷ bytes)) behind ∙ ap (slice_get (c ∷ d ∷ bytes)) (sym before) ∙ at)
