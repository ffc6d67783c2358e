-- Pieces that are written one behind the other.
use Rattle.std.proofs.Common.{◌≡◌, ◌∙◌, ℕ, ◌+◌, ◌<◌, List, ◌++◌, length, take, drop, sym, ap, subst, arith, Option, get_or}
use Rattle.std.proofs.lemmas.Grind.{common_steps, flat_map-append}
use Rattle.std.proofs.lemmas.List.{at_drop_more, take-append-drop}
use Rattle.std.specs.List.{flat_map}
use Rattle.std.proofs.Math.Seq.{take-append_seam}
use Rattle.std.specs.Io.KnownBytes.{Appends}
use Rattle.std.proofs.KnownBytes.{Appends-trans}
use Rattle.device.specs.Device.{AppendsPrefix, HasFailed}

-- some pieces, and a prefix of the next, are a prefix of all
pub begun : (a b c : Option (List ℕ)) (front piece rest all : List ℕ) → all ≡ front ++ (piece ++ rest) → Appends a b front → AppendsPrefix b c piece → AppendsPrefix a c all
begun a b c front piece rest all is h k =
    let n = k.0 in
    let some = front ++ take n piece in
    let whole : some ++ (drop n piece ++ rest) ≡ all = grind (arith, common_steps, take-append-drop n piece, is) in
    let P : List ℕ → Type 0 = λ t. Appends a c t in
    let same : take (length some) all ≡ some = ap (take (length some)) (sym whole) ∙ take-append_seam some (drop n piece ++ rest) in
    (length some, subst P (sym same) (Appends-trans a b c front (take n piece) h k.1))

-- the pieces before one, that one and those behind it are all
pub split : {X : Type 0} (f : X → List ℕ) (pieces : List X) (i : ℕ) (d : X) → i < length pieces → flat_map f pieces ≡ flat_map f (take i pieces) ++ (f (get_or pieces i d) ++ flat_map f (drop (i + 1) pieces))
split f pieces i d within =
    ap (flat_map f) (sym (take-append-drop i pieces)) ∙ flat_map-append f (take i pieces) (drop i pieces) ∙ ap (λ r. flat_map f (take i pieces) ++ r) (at_drop_more (flat_map f) pieces i d within)

-- a sink that had not failed by then fails in all
pub failed : (old now new : ℕ) → now ≡ old → HasFailed now new → HasFailed old new
failed old now new same fails = let P : ℕ → Type 0 = λ n. HasFailed n new in subst P same fails
