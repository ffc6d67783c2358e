-- Reading on in bytes that are all there.
use Rattle.std.proofs.Common.{◌≡◌, ◌∙◌, ℕ, ◌+◌, ◌≤◌, List, ◌++◌, length, take, drop, min, Some, sym, ap, subst, arith}
use Rattle.std.proofs.lemmas.Grind.{common_steps}
use Rattle.std.proofs.lemmas.List.{take-append-drop, drop-drop}
use Rattle.std.proofs.Math.Seq.{take-append_seam}
use Rattle.device.specs.Device.{Reads}

-- the first n of those that are left
rest_read : (rest buffer piece : List ℕ) (n : ℕ) → n ≡ min (length buffer) (length rest) → piece ≡ take n rest → Reads (Some rest) (Some (drop n rest)) (length rest) (length (drop n rest)) (piece ++ drop n buffer) n
rest_read rest buffer piece n is first =
    let within : n ≤ length rest = grind (arith, common_steps, is) in
    let small : n ≤ length buffer = grind (arith, common_steps, is) in
    let long : length piece ≡ n = grind (arith, common_steps, first, within) in
    let front : take n (piece ++ drop n buffer) ≡ piece = let P : ℕ → Type 0 = λ k. take k (piece ++ drop n buffer) ≡ piece in subst P long (take-append_seam piece (drop n buffer)) in
    let all : take n rest ++ drop n rest ≡ rest = take-append-drop n rest in
    let left : length (drop n rest) + n ≡ length rest = grind (arith, common_steps, within) in
    record {
      within = grind (arith, common_steps, small, long);
      bytes = sym all ∙ ap (λ p. p ++ drop n rest) (sym first ∙ sym front);
      end = λ none some. grind (arith, common_steps, is, none, some, long, within, small);
      most = left;
    }

-- what a read gives of bytes of which so many were given before
pub reads_on : (bytes buffer piece : List ℕ) (at n : ℕ) → n ≡ min (length buffer) (length (drop at bytes)) → piece ≡ take n (drop at bytes) → Reads (Some (drop at bytes)) (Some (drop (at + n) bytes)) (length (drop at bytes)) (length (drop (at + n) bytes)) (piece ++ drop n buffer) n
reads_on bytes buffer piece at n is first =
    let P : List ℕ → Type 0 = λ new. Reads (Some (drop at bytes)) (Some new) (length (drop at bytes)) (length new) (piece ++ drop n buffer) n in
    subst P (drop-drop n at bytes) (rest_read (drop at bytes) buffer piece n is first)
