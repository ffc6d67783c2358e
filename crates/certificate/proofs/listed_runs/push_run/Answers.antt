use Rattle.std.proofs.Common.{max, ◌≡◌, ◌≤◌, ℕ, List, [], ◌∷◌, ◌++◌, ◌+◌, ◌-◌, suc, refl, ap, sym, ◌∙◌, append_assoc, arith}
use Rattle.std.specs.List.{range_with_len}
use Rattle.std.proofs.lemmas.List.{append-nil}
use Rattle.std.proofs.lemmas.List.FromFn.{length-range_with_len}
use Rattle.certificate.proofs.RunReading.{range_more, no_range}
use Rattle.certificate.proofs.listed_runs.push_run.Goals.{then-count-gt1+in_ok-reserve, else-count-gt1}
use Rattle.certificate.proofs.listed_runs.push_run.Goals as goal

pub loop-number-init : goal.loop-number-init
loop-number-init c =
    let start = c.args.elements.now.items in
    let none = sym (ap (λ (xs : List ℕ). start ++ xs) (no_range c.args.first c.args.first refl) ∙ append-nil start) in
    elim c.if-count-gt1.branch [ then-count-gt1+in_ok-reserve w ↦ ap (λ e. e.items) w.elements-is ∙ w.reserve.ensures.items ∙ none | else-count-gt1 w ↦ ap (λ e. e.items) w.elements-is ∙ none ]

pub loop-number-preserved : goal.loop-number-preserved
loop-number-preserved c =
    let start = c.args.elements.now.items in
    let first = c.args.first in
    let n = c.loop-number.number in
    let so_far = range_with_len first (n - first) in
    let next : n + 1 - first ≡ suc (n - first) = omega (arith, c.loop-number.auto.number) in
    c.in_ok-push.ensures.ok ∙ ap (λ (xs : List ℕ). xs ++ n ∷ []) c.loop-number.invariant ∙ append_assoc start so_far (n ∷ [])
    ∙ ap (λ (xs : List ℕ). start ++ xs) (sym (ap (range_with_len first) next ∙ range_more first n c.loop-number.auto.number))

pub returns-clause-numbers : goal.returns-clause-numbers
returns-clause-numbers c =
    let start = c.args.elements.now.items in
    let first = c.args.first in
    let last = c.args.last in
    let end = c.max-end.result in
    let n = c.loop-number.number in
    let most : end ≡ max first last = c.max-end.ensures in
    let above : first ≤ end = omega (arith, most) in
    let le : n ≤ end = c.loop-number.auto.number-end above in
    let done : n ≡ end = omega (arith, le, c.loop-number-test.false) in
    let many : end - first ≡ last - first = omega (arith, most) in
    c.in_ok-push-2.ensures.ok ∙ ap (λ (xs : List ℕ). xs ++ end ∷ []) (c.loop-number.invariant ∙ ap (λ (m : ℕ). start ++ range_with_len first (m - first)) done)
    ∙ append_assoc start (range_with_len first (end - first)) (end ∷ [])
    ∙ ap (λ (xs : List ℕ). start ++ xs) (sym (range_more first end above) ∙ ap (λ (k : ℕ). range_with_len first (suc k)) many)

pub returns-clause-fewer : goal.returns-clause-fewer
returns-clause-fewer c =
    let first = c.args.first in
    let last = c.args.last in
    let most : c.max-end.result ≡ max first last = c.max-end.ensures in
    let count = length-range_with_len (first + 1) (last - first) in
    omega (arith, count, most, c.if-count-left.false)
