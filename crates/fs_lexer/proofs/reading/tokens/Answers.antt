use Rattle.std.proofs.Common.{◌≡◌, ◌∙◌, ◌-◌, ◌<◌, List, [], ◌∷◌, ◌++◌, ℕ, length, map, take, drop, ap, sym, subst, arith}
use Rattle.std.specs.Str.{IsCharBoundary}
use Rattle.std.proofs.lemmas.List.{map-append, nil_from_length}
use Rattle.std.proofs.lemmas.Bool.Decides.{nat_tests}
use Rattle.fs_lexer.specs.Spelling as spelling
use Rattle.fs_lexer.specs.Spelling.{IsOfKind}
use Rattle.fs_lexer.specs.Views.{token_of}
use Rattle.fs_lexer.specs.Reading.{skip}
use Rattle.fs_lexer.specs.Faults.{IsNext}
use Rattle.fs_lexer.proofs.Cuts.{cut_at, cut_of_kind}
use Rattle.fs_lexer.proofs.State.{IsState, next_token, first_state, next_state, last_state, stuck_state, next_at, done_at, skip_shorter, something}
use Rattle.fs_lexer.proofs.reading.tokens.Goals as goal

pub loop-bytes-init : goal.loop-bytes-init
loop-bytes-init c =
    let be : c.as_bytes-bytes.result.now ≡ c.args.text.now = cc in
    let s : IsState c.args.text.now [] c.skip-rest.result.now =
    subst (λ (x : List ℕ). IsState c.args.text.now [] x) (sym (c.skip-rest.ensures ∙ ap skip be)) (first_state c.args.text.now) in
    (be, rw c.new-tokens.ensures.items s)

pub returns-in_default-clause-refused : goal.returns-in_default-clause-refused
returns-in_default-clause-refused c =
    let l : 0 < length c.loop-bytes.rest.now = grind (arith, nat_tests, c.is_empty.ensures, c.loop-bytes-test.true) in
    λ _. stuck_state c.args.text.now _ c.loop-bytes.rest.now c.loop-bytes.invariant.1 (something c.loop-bytes.rest.now l) c.in_default.ensures

pub fault_at-requires-clause-here : goal.fault_at-requires-clause-here
fault_at-requires-clause-here c = done_at c.args.text.now _ c.loop-bytes.rest.now c.loop-bytes.invariant.1

pub returns-in_default-clause-placed : goal.returns-in_default-clause-placed
returns-in_default-clause-placed c =
    let text = c.args.text.now in
    let rest = c.loop-bytes.rest.now in
    let l : 0 < length rest = grind (arith, nat_tests, c.is_empty.ensures, c.loop-bytes-test.true) in
    let next = next_at text _ rest c.loop-bytes.invariant.1 (something rest l) in
    c.fault_at.ensures.placed text (subst (λ (n : ℕ). IsNext text (n - length rest) rest) (sym (ap length c.loop-bytes.invariant.0)) next)

pub overflow_sub-end : goal.overflow_sub-end
overflow_sub-end c =
    let step = next_state c.args.text.now _ c.loop-bytes.rest.now c.in-Some.others.now c.in-Some.kind c.utf8.text c.loop-bytes.invariant.1 c.in-Some.ensures in
    omega (arith, step.within, step.shorter, ap length c.loop-bytes.invariant.0)

pub range-text-requires-clause-start_le_end : goal.range-text-requires-clause-start_le_end
range-text-requires-clause-start_le_end c =
    let step = next_state c.args.text.now _ c.loop-bytes.rest.now c.in-Some.others.now c.in-Some.kind c.utf8.text c.loop-bytes.invariant.1 c.in-Some.ensures in
    omega (arith, step.within, step.shorter, ap length c.loop-bytes.invariant.0)

pub range-text-requires-clause-start_boundary : goal.range-text-requires-clause-start_boundary
range-text-requires-clause-start_boundary c =
    let step = next_state c.args.text.now _ c.loop-bytes.rest.now c.in-Some.others.now c.in-Some.kind c.utf8.text c.loop-bytes.invariant.1 c.in-Some.ensures in
    λ _. subst (λ (n : ℕ). IsCharBoundary c.args.text.now (n - length c.loop-bytes.rest.now)) (sym (ap length c.loop-bytes.invariant.0)) step.begins

pub range-text-requires-clause-end_boundary : goal.range-text-requires-clause-end_boundary
range-text-requires-clause-end_boundary c =
    let step = next_state c.args.text.now _ c.loop-bytes.rest.now c.in-Some.others.now c.in-Some.kind c.utf8.text c.loop-bytes.invariant.1 c.in-Some.ensures in
    subst (λ (n : ℕ). IsCharBoundary c.args.text.now (n - length c.in-Some.others.now)) (sym (ap length c.loop-bytes.invariant.0)) step.ends

pub loop-bytes-smaller : goal.loop-bytes-smaller
loop-bytes-smaller c =
    let step = next_state c.args.text.now _ c.loop-bytes.rest.now c.in-Some.others.now c.in-Some.kind c.utf8.text c.loop-bytes.invariant.1 c.in-Some.ensures in
    omega (arith, step.shorter, ap length c.skip-rest-in-loop-bytes.ensures, skip_shorter c.in-Some.others.now)

pub loop-bytes-preserved : goal.loop-bytes-preserved
loop-bytes-preserved c =
    let text = c.args.text.now in
    let rest = c.loop-bytes.rest.now in
    let others = c.in-Some.others.now in
    let kind = c.in-Some.kind in
    let step = next_state text (map token_of c.loop-bytes.tokens.items) rest others kind c.utf8.text c.loop-bytes.invariant.1 c.in-Some.ensures in
    let token_from : List ℕ → ℕ → spelling.Token = λ t n. record { kind = kind; text = t; at = n - length rest } in
    let n = length c.as_bytes-bytes.result.now in
    let cut : ℕ → List ℕ = λ m. take (m - length others - (m - length rest)) (drop (m - length rest) text) in
    let same : token_from c.range-text.result.now n ≡ next_token text rest others kind =
    ap (λ (t : List ℕ). token_from t n) c.range-text.ensures.value ∙ ap (λ (m : ℕ). token_from (cut m) m) (ap length c.loop-bytes.invariant.0) in
    let items : map token_of c.push.new.self.items ≡ map token_of c.loop-bytes.tokens.items ++ next_token text rest others kind ∷ [] =
    ap (map token_of) c.in_ok-push.ensures.items ∙ map-append token_of c.loop-bytes.tokens.items _
    ∙ ap (λ (t : spelling.Token). map token_of c.loop-bytes.tokens.items ++ t ∷ []) same in
    (c.loop-bytes.invariant.0, rw (items, c.skip-rest-in-loop-bytes.ensures) step.next)

pub returns-clause-found : goal.returns-clause-found
returns-clause-found c =
    let l : length c.loop-bytes.rest.now ≡ 0 = grind (arith, nat_tests, c.is_empty.ensures, c.loop-bytes-test.false) in
    last_state c.args.text.now _ c.loop-bytes.rest.now c.loop-bytes.invariant.1 (nil_from_length c.loop-bytes.rest.now l)

pub invariant_of-push : goal.invariant_of-push
invariant_of-push c =
    let text = c.args.text.now in
    let rest = c.loop-bytes.rest.now in
    let others = c.in-Some.others.now in
    let kind = c.in-Some.kind in
    let state = c.loop-bytes.invariant.1 in
    let cut = cut_at text state.front rest others kind c.utf8.text state.whole c.in-Some.ensures in
    let piece : ℕ → List ℕ = λ m. take (m - length others - (m - length rest)) (drop (m - length rest) text) in
    let same : c.range-text.result.now ≡ piece (length text) = c.range-text.ensures.value ∙ ap piece (ap length c.loop-bytes.invariant.0) in
    record { of_kind = ∣ subst (IsOfKind kind) (sym same) (cut_of_kind text rest others kind cut) ∣₁ }
