use Rattle.std.proofs.Common.{◌≡◌, ◌∙◌, ◌-◌, List, ℕ, ◌∷◌, length, take, drop, ap, sym, subst, arith}
use Rattle.std.specs.Str.{IsCharBoundary}
use Rattle.std.proofs.lemmas.List.{length-drop}
use Rattle.fs_lexer.specs.Spelling as spelling
use Rattle.fs_lexer.specs.Spelling.{IsOfKind}
use Rattle.fs_lexer.specs.Reading.{skip, AreReadFrom}
use Rattle.fs_lexer.proofs.State.{next_token, skip_shorter}
use Rattle.fs_lexer.proofs.Cuts.{from_place, cut_behind, cut_of_kind, reads_first}
use Rattle.fs_lexer.proofs.next.next_token.Goals as goal

pub overflow_sub-at : goal.overflow_sub-at
overflow_sub-at c =
    let text = c.args.text.now in
    let be : c.as_bytes-bytes.result.now ≡ text = cc in
    let here = c.skip-rest.ensures ∙ ap skip (from_place text c.as_bytes-bytes.result.now c.args.from be c.requires) in
    let cut = cut_behind text c.args.from c.skip-rest.result.now c.in_ok-kind.others.now c.in_ok-kind.kind c.utf8.text here c.in_ok-kind.ensures in
    omega (arith, cut.within, ap length be)

pub overflow_sub-end : goal.overflow_sub-end
overflow_sub-end c =
    let text = c.args.text.now in
    let be : c.as_bytes-bytes.result.now ≡ text = cc in
    let here = c.skip-rest.ensures ∙ ap skip (from_place text c.as_bytes-bytes.result.now c.args.from be c.requires) in
    let cut = cut_behind text c.args.from c.skip-rest.result.now c.in_ok-kind.others.now c.in_ok-kind.kind c.utf8.text here c.in_ok-kind.ensures in
    omega (arith, cut.within, cut.shorter, ap length be)

pub range-text-requires-clause-start_le_end : goal.range-text-requires-clause-start_le_end
range-text-requires-clause-start_le_end c =
    let text = c.args.text.now in
    let be : c.as_bytes-bytes.result.now ≡ text = cc in
    let here = c.skip-rest.ensures ∙ ap skip (from_place text c.as_bytes-bytes.result.now c.args.from be c.requires) in
    let cut = cut_behind text c.args.from c.skip-rest.result.now c.in_ok-kind.others.now c.in_ok-kind.kind c.utf8.text here c.in_ok-kind.ensures in
    omega (arith, cut.within, cut.shorter, ap length be)

pub range-text-requires-clause-start_boundary : goal.range-text-requires-clause-start_boundary
range-text-requires-clause-start_boundary c =
    let text = c.args.text.now in
    let be : c.as_bytes-bytes.result.now ≡ text = cc in
    let here = c.skip-rest.ensures ∙ ap skip (from_place text c.as_bytes-bytes.result.now c.args.from be c.requires) in
    let cut = cut_behind text c.args.from c.skip-rest.result.now c.in_ok-kind.others.now c.in_ok-kind.kind c.utf8.text here c.in_ok-kind.ensures in
    λ _. subst (λ (n : ℕ). IsCharBoundary text (n - length c.skip-rest.result.now)) (sym (ap length be)) cut.begins

pub range-text-requires-clause-end_boundary : goal.range-text-requires-clause-end_boundary
range-text-requires-clause-end_boundary c =
    let text = c.args.text.now in
    let be : c.as_bytes-bytes.result.now ≡ text = cc in
    let here = c.skip-rest.ensures ∙ ap skip (from_place text c.as_bytes-bytes.result.now c.args.from be c.requires) in
    let cut = cut_behind text c.args.from c.skip-rest.result.now c.in_ok-kind.others.now c.in_ok-kind.kind c.utf8.text here c.in_ok-kind.ensures in
    subst (λ (n : ℕ). IsCharBoundary text (n - length c.in_ok-kind.others.now)) (sym (ap length be)) cut.ends

pub returns-clause-later : goal.returns-clause-later
returns-clause-later c =
    let text = c.args.text.now in
    let be : c.as_bytes-bytes.result.now ≡ text = cc in
    let here = c.skip-rest.ensures ∙ ap skip (from_place text c.as_bytes-bytes.result.now c.args.from be c.requires) in
    let cut = cut_behind text c.args.from c.skip-rest.result.now c.in_ok-kind.others.now c.in_ok-kind.kind c.utf8.text here c.in_ok-kind.ensures in
    omega (arith, cut.within, cut.shorter, ap length be, ap length here, skip_shorter (drop c.args.from text), length-drop c.args.from text)

pub returns-clause-read : goal.returns-clause-read
returns-clause-read c =
    let text = c.args.text.now in
    let be : c.as_bytes-bytes.result.now ≡ text = cc in
    let here = c.skip-rest.ensures ∙ ap skip (from_place text c.as_bytes-bytes.result.now c.args.from be c.requires) in
    let cut = cut_behind text c.args.from c.skip-rest.result.now c.in_ok-kind.others.now c.in_ok-kind.kind c.utf8.text here c.in_ok-kind.ensures in
    let rest = c.skip-rest.result.now in
    let others = c.in_ok-kind.others.now in
    let kind = c.in_ok-kind.kind in
    let n = length c.as_bytes-bytes.result.now in
    let token_from : List ℕ → ℕ → spelling.Token = λ t n. record { kind = kind; text = t; at = n - length rest } in
    let piece : ℕ → List ℕ = λ m. take (m - length others - (m - length rest)) (drop (m - length rest) text) in
    let same : token_from c.range-text.result.now n ≡ next_token text rest others kind =
    ap (λ (t : List ℕ). token_from t n) c.range-text.ensures.value ∙ ap (λ (m : ℕ). token_from (piece m) m) (ap length be) in
    λ more h. subst (λ (t : spelling.Token). AreReadFrom (length text) (drop c.args.from text) (t ∷ more)) (sym same)
    (reads_first text c.args.from rest others kind here cut more (subst (λ (m : ℕ). AreReadFrom (length text) (drop (m - length others) text) more) (ap length be) h))

pub invariant_of-result : goal.invariant_of-result
invariant_of-result c =
    let text = c.args.text.now in
    let be : c.as_bytes-bytes.result.now ≡ text = cc in
    let rest = c.skip-rest.result.now in
    let others = c.in_ok-kind.others.now in
    let kind = c.in_ok-kind.kind in
    let here = c.skip-rest.ensures ∙ ap skip (from_place text c.as_bytes-bytes.result.now c.args.from be c.requires) in
    let cut = cut_behind text c.args.from rest others kind c.utf8.text here c.in_ok-kind.ensures in
    let piece : ℕ → List ℕ = λ m. take (m - length others - (m - length rest)) (drop (m - length rest) text) in
    let same : c.range-text.result.now ≡ piece (length text) = c.range-text.ensures.value ∙ ap piece (ap length be) in
    record { of_kind = ∣ subst (IsOfKind kind) (sym same) (cut_of_kind text rest others kind cut) ∣₁ }
