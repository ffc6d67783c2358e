-- A reply in pieces.
use Rattle.std.proofs.Common.{◌≡◌, ◌∙◌, ◌+◌, ◌++◌, [], ℕ, List, length, ap, arith, length-append}
use Rattle.std.specs.Prelude.{codes}
use Rattle.std.specs.Fmt.{decimal}
use Rattle.program.specs.Status.{code_of}
use Rattle.program.specs.declared.status.Status.TheVariants as statuses
use Rattle.telling.specs.Messages.{more_bytes}
use Rattle.speech.specs.Replies.{reply_text, too_large}

-- that there is no room for the bytes behind a command
pub too_large_text : (room : ℕ) (head number space size limit most bytes : List ℕ) → head ≡ codes "no " → number ≡ decimal (code_of statuses.Limit) → space ≡ codes " " → size ≡ decimal (length most + 24)
    → limit ≡ codes "\nlimit: more than " → most ≡ decimal room → bytes ≡ codes " bytes\n"
    → head ++ (number ++ (space ++ (size ++ (limit ++ (most ++ (bytes ++ [])))))) ≡ reply_text (too_large room)
too_large_text room head number space size limit most bytes head_is number_is space_is size_is limit_is most_is bytes_is =
    let text = more_bytes room in
    let long : length most + 24 ≡ length text = omega (arith, ap length most_is, length-append (codes "limit: more than ") (decimal room ++ codes " bytes\n"), length-append (decimal room) (codes " bytes\n")) in
    ap (λ (l : List ℕ). l ++ (number ++ (space ++ (size ++ (limit ++ (most ++ (bytes ++ []))))))) head_is
    ∙ ap (λ (l : List ℕ). codes "no " ++ (l ++ (space ++ (size ++ (limit ++ (most ++ (bytes ++ []))))))) number_is
    ∙ ap (λ (l : List ℕ). codes "no " ++ (decimal (code_of statuses.Limit) ++ (l ++ (size ++ (limit ++ (most ++ (bytes ++ []))))))) space_is
    ∙ ap (λ (l : List ℕ). codes "no " ++ (decimal (code_of statuses.Limit) ++ (codes " " ++ (l ++ (limit ++ (most ++ (bytes ++ []))))))) (size_is ∙ ap decimal long)
    ∙ ap (λ (l : List ℕ). codes "no " ++ (decimal (code_of statuses.Limit) ++ (codes " " ++ (decimal (length text) ++ (l ++ (most ++ (bytes ++ []))))))) limit_is
    ∙ ap (λ (l : List ℕ). codes "no " ++ (decimal (code_of statuses.Limit) ++ (codes " " ++ (decimal (length text) ++ (codes "\nlimit: more than " ++ (l ++ (bytes ++ []))))))) most_is
    ∙ ap (λ (l : List ℕ). codes "no " ++ (decimal (code_of statuses.Limit) ++ (codes " " ++ (decimal (length text) ++ (codes "\nlimit: more than " ++ (decimal room ++ (l ++ []))))))) bytes_is
