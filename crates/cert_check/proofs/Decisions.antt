-- Whether some line has a conclusion is decided.
use Rattle.std.proofs.Common.{◌≡◌, ℕ, zero, suc, List, [], ◌∷◌, refl, ap, ap₂, ◌∙◌, inl, inr, ◌⊎◌}
use Rattle.std.proofs.lemmas.Bool.{cases_eq}
use Rattle.std.proofs.lemmas.Option.{none-some, same_Some}
use Rattle.certificate.specs.Certificate.{Subject, Expression, Individual, Conclusion, Sub, Edge, Same, Line}
use Rattle.cert_check.specs.Derivation.{HasLine}
use Rattle.certificate.specs.Writability.{subject_number}

pub same_subject : (x y : Subject) → (x ≡ y) ⊎ (x ≡ y → ⊥)
same_subject (Expression m) (Expression n) =
    elim (cases_eq m n) [ inl e ↦ inl (ap (λ k. Expression k) e) | inr h ↦ inr (λ e. h (ap subject_number e)) ]
same_subject (Individual m) (Individual n) =
    elim (cases_eq m n) [ inl e ↦ inl (ap (λ k. Individual k) e) | inr h ↦ inr (λ e. h (ap subject_number e)) ]
same_subject (Expression m) (Individual n) = inr (λ e. cc)
same_subject (Individual m) (Expression n) = inr (λ e. cc)

source_of : Conclusion → Subject
source_of (Sub x c) = x
source_of (Edge x r y) = x
source_of (Same a b) = Individual a

number_of : Conclusion → ℕ
number_of (Sub x c) = c
number_of (Edge x r y) = r
number_of (Same a b) = a

target_of : Conclusion → Subject
target_of (Sub x c) = x
target_of (Edge x r y) = y
target_of (Same a b) = Individual b

pub same_conclusion : (a b : Conclusion) → (a ≡ b) ⊎ (a ≡ b → ⊥)
unfolding source_of number_of target_of
same_conclusion (Sub x c) (Sub y d) =
    elim (same_subject x y) [
      | inl e ↦ elim (cases_eq c d) [ inl f ↦ inl (ap₂ Sub e f) | inr h ↦ inr (λ g. h (ap number_of g)) ]
      | inr h ↦ inr (λ g. h (ap source_of g))
    ]
same_conclusion (Edge x r y) (Edge u s v) =
    elim (same_subject x u) [
      | inl e ↦ elim (cases_eq r s) [
        | inl f ↦ elim (same_subject y v) [
          | inl g ↦ inl (ap₂ (λ a n. Edge a n y) e f ∙ ap (Edge u s) g)
          | inr h ↦ inr (λ k. h (ap target_of k))
        ]
        | inr h ↦ inr (λ k. h (ap number_of k))
      ]
      | inr h ↦ inr (λ k. h (ap source_of k))
    ]
same_conclusion (Same a b) (Same c d) =
    elim (cases_eq a c) [
      | inl e ↦ elim (cases_eq b d) [ inl f ↦ inl (ap₂ Same e f) | inr h ↦ inr (λ g. h (ap subject_number (ap target_of g))) ]
      | inr h ↦ inr (λ g. h (ap number_of g))
    ]
same_conclusion (Sub x c) (Edge u s v) = inr (λ e. cc)
same_conclusion (Sub x c) (Same a b) = inr (λ e. cc)
same_conclusion (Edge u s v) (Sub x c) = inr (λ e. cc)
same_conclusion (Edge u s v) (Same a b) = inr (λ e. cc)
same_conclusion (Same a b) (Sub x c) = inr (λ e. cc)
same_conclusion (Same a b) (Edge u s v) = inr (λ e. cc)

not_first : (line : Line) (lines : List Line) (a : Conclusion) → (line.conclusion ≡ a → ⊥) → (HasLine lines a → ⊥) → HasLine (line ∷ lines) a → ⊥
not_first line lines a h k (zero, l, g, e) = h (ap (λ l. l.conclusion) (same_Some line l g) ∙ e)
not_first line lines a h k (suc n, l, g, e) = k (n, l, g, e)

pub has_line_or_not : (lines : List Line) (a : Conclusion) → HasLine lines a ⊎ (HasLine lines a → ⊥)
has_line_or_not [] a = inr (λ (n, l, g, e). none-some l g)
has_line_or_not (line ∷ lines) a =
    elim (same_conclusion line.conclusion a) [
      | inl e ↦ inl (0, line, refl, e)
      | inr h ↦ elim (has_line_or_not lines a) [
        | inl (n, l, g, e) ↦ inl (suc n, l, g, e)
        | inr k ↦ inr (not_first line lines a h k)
      ]
    ]
