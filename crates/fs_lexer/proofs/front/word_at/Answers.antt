use Rattle.std.proofs.Common.{◌≡◌, ◌∙◌, ℕ, List, ◌∷◌, false, length, refl, subst, sym, arith}
use Rattle.std.proofs.lemmas.Bool.Decides.{nat_tests}
use Rattle.std.specs.Char.{is_ascii_alphabetic}
use Rattle.fs_lexer.specs.Spelling.{begins_with_word}
use Rattle.fs_lexer.specs.Reading.{is_local_byte, span}
use Rattle.fs_lexer.proofs.OnePass.{all_spanned, keyword_ahead, name_ahead}
use Rattle.fs_lexer.proofs.front.word_at.Goals as goal

pub name_kind-requires : goal.name_kind-requires
name_kind-requires c = all_spanned is_local_byte c.in-Some.others.now c.local_run.result.0.now c.local_run.result.1.now c.local_run.ensures

pub returns-in_err-name_kind : goal.returns-in_err-name_kind
returns-in_err-name_kind c =
    let letters = c.letter_run.result.0.now in
    let others = c.in-Some.others.now in
    let local = c.local_run.result.0.now in
    let rest = c.local_run.result.1.now in
    let none : begins_with_word rest ≡ false = sym c.begins_with_word.ensures ∙ c.if-begins_with_word.false in
    let run : ◌≡◌ {A = List ℕ × List ℕ} (letters, 58 ∷ others) (span is_ascii_alphabetic c.args.bytes.now) =
    subst (λ (x : List ℕ). ◌≡◌ {A = List ℕ × List ℕ} (letters, x) (span is_ascii_alphabetic c.args.bytes.now)) c.in-Some.ensures c.letter_run.ensures in
    let kind = sym c.name_kind.ensures ∙ c.in_err-name_kind.was in
    rw c.from_residual.ensures (sym (name_ahead c.args.bytes.now letters others local rest run c.local_run.ensures none ∙ rw kind refl))

pub returns-in-Some : goal.returns-in-Some
returns-in-Some c =
    let letters = c.letter_run.result.0.now in
    let others = c.in-Some.others.now in
    let local = c.local_run.result.0.now in
    let rest = c.local_run.result.1.now in
    let none : begins_with_word rest ≡ false = sym c.begins_with_word.ensures ∙ c.if-begins_with_word.false in
    let run : ◌≡◌ {A = List ℕ × List ℕ} (letters, 58 ∷ others) (span is_ascii_alphabetic c.args.bytes.now) =
    subst (λ (x : List ℕ). ◌≡◌ {A = List ℕ × List ℕ} (letters, x) (span is_ascii_alphabetic c.args.bytes.now)) c.in-Some.ensures c.letter_run.ensures in
    let kind = sym c.name_kind.ensures ∙ c.in_ok-name_kind.was in
    sym (name_ahead c.args.bytes.now letters others local rest run c.local_run.ensures none ∙ rw kind refl)

pub returns : goal.returns
returns c =
    let letters = c.letter_run.result.0.now in
    let rest = c.letter_run.result.1.now in
    let none : begins_with_word rest ≡ false = sym c.begins_with_word-else-is_empty.ensures ∙ c.if-begins_with_word-2.false in
    let some : length letters ≡ 0 → ⊥ = λ z. absurd (grind (arith, nat_tests, c.is_empty.ensures, c.if-is_empty.false)) in
    sym (keyword_ahead c.args.bytes.now letters rest c.letter_run.ensures some none)
