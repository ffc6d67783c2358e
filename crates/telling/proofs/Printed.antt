-- Texts that are printed piece by piece.
use Rattle.std.proofs.Common.{◌≡◌, ◌∙◌, ℕ, List, [], ◌++◌, ap, subst}
use Rattle.std.proofs.lemmas.List.{append-nil}
use Rattle.program.specs.declared.status.Status.{Status}
use Rattle.telling.specs.Devices.{Device}
use Rattle.telling.specs.Printing.{IsPrinted}

-- what is printed is this text
pub printed : (old new : Device) (given text : List ℕ) (status : Status) (answered : ℕ) → given ≡ text → IsPrinted old new given status answered → IsPrinted old new text status answered
printed old new given text status answered same is = let P : List ℕ → Type 0 = λ t. IsPrinted old new t status answered in subst P same is

-- texts that are equal piece by piece
pub joined : {a a' r r' : List ℕ} → a ≡ a' → r ≡ r' → a ++ r ≡ a' ++ r'
joined {a} {a'} {r} {r'} first rest = ap (λ x. x ++ r) first ∙ ap (λ x. a' ++ x) rest

pub last : {a a' : List ℕ} → a ≡ a' → a ++ [] ≡ a'
last {a} {a'} same = append-nil a ∙ same
