-- Words between spaces.
use Rattle.std.proofs.Common.{◌≡◌, ◌∙◌, ◌<◌, ◌∷◌, [], ℕ, List, Bool, true, false, length, get_or, refl, ap, arith, ◌+◌, lit<, Some, None}
use Rattle.std.specs.List.{All}
use Rattle.std.proofs.lemmas.Bool.{eqb-true}
use Rattle.std.proofs.lemmas.List.{get_or_default}
use Rattle.std.proofs.lemmas.List.Splits.{length-slice_split, slice_split_at, slice_split_none}
use Rattle.std.proofs.lemmas.Str.Pattern.{IsSplitOnceResult, split_parts}
use Rattle.std.proofs.Math.Dec.{eqb}
use denote.Ref.{Bor}
use Rattle.speech.specs.Commands.{split_words}

pub false_when : (t : Bool) → (t ≡ true → ⊥) → t ≡ false
false_when false h = refl
false_when true h = absurd (h refl)

no_space : (xs : List ℕ) → ((i : ℕ) → i < length xs → get_or xs i 0 ≡ 32 → ⊥) → All (λ b. eqb b 32 ≡ false) xs
no_space xs h k d below = false_when _ (λ e. h k below (get_or_default xs k 0 d below ∙ eqb-true (get_or xs k d) 32 e))

-- a line without a space is one word
pub one_word : (line : List ℕ) → IsSplitOnceResult 32 line None → split_words line ≡ line ∷ []
one_word line h = slice_split_none (λ b. eqb b 32) line (no_space line (split_parts 32 line None h (lit< tt)))

-- else the first word stands before the first space
pub first_word : (line : List ℕ) (x : Bor (List ℕ) × Bor (List ℕ)) → IsSplitOnceResult 32 line (Some x) → split_words line ≡ x.0.now ∷ split_words x.1.now
first_word line x h =
    let parts = split_parts 32 line (Some x) h (lit< tt) in
    ap split_words parts.0 ∙ slice_split_at (λ b. eqb b 32) x.0.now 32 x.1.now (no_space x.0.now parts.1) refl

-- and the others behind it
pub next_word : (line : List ℕ) (x : Bor (List ℕ) × Bor (List ℕ)) (words : List (List ℕ)) → IsSplitOnceResult 32 line (Some x) → split_words x.1.now ≡ words → split_words line ≡ x.0.now ∷ words
next_word line x words h e = first_word line x h ∙ ap (λ w. x.0.now ∷ w) e

some_part : (parts : List (List ℕ)) (n : ℕ) → length parts ≡ n + 1 → (word : List ℕ) × (rest : List (List ℕ)) × (parts ≡ word ∷ rest)
some_part [] n e = absurd (omega (arith, e))
some_part (word ∷ rest) n e = (word, rest, refl)

-- of which there is one
pub some_word : (line : List ℕ) → (word : List ℕ) × (rest : List (List ℕ)) × (split_words line ≡ word ∷ rest)
some_word line = some_part (split_words line) _ (length-slice_split (λ b. eqb b 32) line)
