-- Individuals' lines, one more at a time.
use Rattle.std.proofs.Common.{◌≡◌, ℕ, ◌+◌, ◌<◌, List, [], ◌∷◌, ◌++◌, length, take, get_or, ap, ◌∙◌, arith}
use Rattle.std.specs.List.{flat_map, enumerate_from}
use Rattle.std.proofs.lemmas.List.{take_more, append-nil, length-take}
use Rattle.std.proofs.lemmas.List.Concat.{flat_map-append}
use Rattle.lemmas.proofs.Ranges.{enumerate_push}
use Rattle.certificate.specs.Text.{individual_text}

pub individuals_more : (xs : List ℕ) (i : ℕ) → i < length xs
    → flat_map individual_text (enumerate_from 0 (take (i + 1) xs)) ≡ flat_map individual_text (enumerate_from 0 (take i xs)) ++ individual_text (i, get_or xs i 0)
individuals_more xs i lt =
    let before = take i xs in
    let x = get_or xs i 0 in
    let k : 0 + length before ≡ i = omega (arith, length-take i xs) in
    ap (λ (ys : List ℕ). flat_map individual_text (enumerate_from 0 ys)) (take_more xs i 0 lt)
    ∙ ap (flat_map individual_text) (enumerate_push 0 before x ∙ ap (λ k. enumerate_from 0 before ++ (k, x) ∷ []) k)
    ∙ flat_map-append individual_text (enumerate_from 0 before) ((i, x) ∷ [])
    ∙ ap (λ (s : List ℕ). flat_map individual_text (enumerate_from 0 before) ++ s) (append-nil (individual_text (i, x)))
