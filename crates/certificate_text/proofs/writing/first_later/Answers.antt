use Rattle.std.proofs.Common.{ℕ, List, ◌+◌, ◌<◌, get_or, sym, subst, refl}
use Rattle.std.specs.List.{All}
use Rattle.std.proofs.lemmas.Bool.{false≢true}
use Rattle.std.proofs.lemmas.List.{take-map}
use Rattle.certificate.specs.View.{line_of}
use Rattle.certificate.specs.Writability.{AreEarlier}
use Rattle.certificate_text.proofs.Earlier.{more_earlier, is_first_later}
use Rattle.certificate_text.proofs.writing.first_later.Goals as goal

pub returns-then-not-is_earlier : goal.returns-then-not-is_earlier
returns-then-not-is_earlier c =
    let i = c.loop-place.place in
    let xs = c.args.lines.now in
    let found = c.index-lines-place.result in
    let line = get_or xs i found in
    let h = subst (AreEarlier 1) (take-map line_of i xs) c.loop-place.invariant in
    is_first_later line_of xs i line found c.loop-place-test.true refl h
    (λ k. false≢true (c.if-not-is_earlier.ensures.1 (subst (λ (ps : List ℕ). All (λ p. p < i + 1) ps) (sym c.deref.ensures.value) k)))

pub loop-place-preserved : goal.loop-place-preserved
loop-place-preserved c =
    let i = c.loop-place.place in
    let xs = c.args.lines.now in
    let found = c.index-lines-place.result in
    let line = get_or xs i found in
    let h = subst (AreEarlier 1) (take-map line_of i xs) c.loop-place.invariant in
    subst (AreEarlier 1) (sym (take-map line_of (i + 1) xs)) (more_earlier line_of xs i line found c.loop-place-test.true refl h
    (subst (λ (ps : List ℕ). All (λ p. p < i + 1) ps) c.deref.ensures.value (c.if-not-is_earlier.ensures.0 refl)))
