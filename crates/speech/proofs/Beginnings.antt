-- Lines that begin with a word.
use Rattle.std.proofs.Common.{◌≡◌, ◌∙◌, ◌++◌, ◌∷◌, ◌<◌, [], ℕ, List, true, length, get_or, IsTrue, ◌↔◌, inl, inr, refl, sym, ap, arith}
use Rattle.std.proofs.lemmas.Bool.{eqb-true, eq-eqb}
use Rattle.std.proofs.lemmas.List.{append_cancel_left, append-nil, length-append}
use Rattle.std.proofs.Math.Dec.{eqb}
use Rattle.speech.specs.Commands.{BeginsWith}

-- a line that does not begin with the bytes of the word
pub another : (word line : List ℕ) → ((rest : List ℕ) → line ≡ word ++ rest → ⊥) → BeginsWith word line → ⊥
another word line h (inl e) = h [] (e ∙ sym (append-nil word))
another word line h (inr b) = h (32 ∷ b.0) b.1

-- the word alone
pub alone : (word line rest : List ℕ) → line ≡ word ++ rest → rest ≡ [] → BeginsWith word line
alone word line rest e none = inl (e ∙ ap (λ l. word ++ l) none ∙ append-nil word)

space_behind : (word line : List ℕ) (x : ℕ) (xs : List ℕ) → line ≡ word ++ (x ∷ xs) → BeginsWith word line → eqb x 32 ≡ true
space_behind word line x xs e (inl f) = absurd (omega (arith, length-append word (x ∷ xs), ap length (sym e ∙ f)))
space_behind word line x xs e (inr b) =
    let same : x ∷ xs ≡ 32 ∷ b.0 = append_cancel_left word (x ∷ xs) (32 ∷ b.0) (sym e ∙ b.1) in
    let is : x ≡ 32 = cc in
    eq-eqb x 32 is

-- the word, and more behind it
pub with_more : (word line rest : List ℕ) → line ≡ word ++ rest → 0 < length rest → IsTrue (eqb (get_or rest 0 0) 32) ↔ BeginsWith word line
with_more word line [] e some = absurd (omega arith)
with_more word line (x ∷ xs) e some = (λ t. inr (xs, e ∙ ap (λ b. word ++ (b ∷ xs)) (eqb-true x 32 t)), space_behind word line x xs e)

pub empty_rest : (rest : List ℕ) → length rest < 1 → rest ≡ []
empty_rest [] short = refl
empty_rest (x ∷ xs) short = absurd (omega arith)
