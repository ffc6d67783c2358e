-- Bytes below 128 are UTF-8.
use Rattle.std.proofs.Common.{◌≡◌, ℕ, zero, suc, ◌<◌, Bool, true, List, [], ◌∷◌}
use Rattle.std.specs.Prelude.{slice_index, nat_lt}
use Rattle.std.specs.List.{list_all}
use Rattle.std.specs.Str.{IsUtf8, IsAscii}
use Rattle.std.proofs.lemmas.Bool.{and_parts, ltb-true}
use Rattle.std.proofs.lemmas.Str.{IsUtf8-from_ascii}
use Rattle.std.proofs.lemmas.Str.Ascii.{IsAscii-nil}

abbrev pub is_small : ℕ → Bool
is_small b = nat_lt b 128

all_small : (bs : List ℕ) → list_all is_small bs ≡ true → IsAscii bs
all_small [] h = IsAscii-nil
all_small (b ∷ bs) h = λ i. elim i as (λ i. slice_index (b ∷ bs) i < 128) [
  | zero ↦ ltb-true b 128 (and_parts (is_small b) (list_all is_small bs) h).0
  | suc j ↦ all_small bs (and_parts (is_small b) (list_all is_small bs) h).1 j
]

-- a text of signs and letters
pub plain : (bs : List ℕ) → list_all is_small bs ≡ true → IsUtf8 bs
plain bs h = IsUtf8-from_ascii bs (all_small bs h)
