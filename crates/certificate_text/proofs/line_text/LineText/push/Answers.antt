use Rattle.std.proofs.Common.{◌≡◌, List, ℕ, true, ◌++◌, ◌∷◌, [], ◌<◌, ◌^◌, ap, ap₂, sym, ◌∙◌, refl, subst, arith}
use Rattle.certificate.specs.declared.format.Format.{Format}
use Rattle.certificate_text.specs.LineText.{HasNumbersOf, fits_types, lines_in}
use Rattle.certificate.specs.Text.{line_text, written}
use Rattle.certificate.specs.TextLines.{next_number}
use Rattle.certificate.specs.View.{line_of}
use Rattle.certificate_text.proofs.LineTexts.{line_added, line_count, next_has_numbers, spelled_line, text_added}
use Rattle.certificate.proofs.WrittenLines.{HasNumbersAt}
use Rattle.certificate_text.proofs.line_text.LineText.push.Goals as goal

pub invariant_of-self-2 : goal.invariant_of-self-2
invariant_of-self-2 g c =
    let format = g.F.FormatType.format in
    let inside = c.self.inside in
    let before = inside.text.items in
    let line = line_of c.args.line.now in
    let lines = lines_in format before in
    let n = c.in-Some.number in
    let count = line_count format before inside.sources.items c.self.invariant in
    let number : n ≡ next_number lines = omega (arith, c.in-Some.ensures, c.len.ensures, count) in
    let small : n < 2 ^ 64 = omega (arith, c.in-Some.ensures) in
    let fits : fits_types line ≡ true = sym c.fits_types.ensures ∙ c.if-not-fits_types.false in
    let has : HasNumbersOf format n line.premises
    = subst (λ (ps : List ℕ). HasNumbersOf format n ps) c.deref.ensures.value (subst (λ (f : Format). HasNumbersOf f n c.deref.result.now) c.format.ensures (c.if-not-has_numbers.ensures.0 refl)) in
    let at : HasNumbersAt format (next_number lines) line = next_has_numbers format lines n line number small has in
    let spelled = spelled_line format before inside.sources.items line c.source.result c.self.invariant fits at c.source.ensures in
    let room : c.push_line.new.out.items ≡ spelled
    = c.in_ok-push_line.ensures ∙ ap₂ (λ (s : List ℕ) (f : Format). s ++ line_text (written f n line)) c.clear.ensures.items c.format-2.ensures ∙ ap (λ (m : ℕ). line_text (written format m line)) number in
    let text : c.extend_from_slice.new.self.items ≡ before ++ spelled = c.in_ok-extend_from_slice.ensures.items ∙ ap (λ (s : List ℕ). before ++ s) (c.deref-2.ensures.value ∙ room) in
    let added = text_added format before inside.sources.items line c.source.result c.self.invariant fits at c.source.ensures in
    rw (text, c.push_reserved.ensures.items, c.in_ok-reserve.ensures.items) added

pub returns-clause-ok : goal.returns-clause-ok
returns-clause-ok g c =
    let format = g.F.FormatType.format in
    let inside = c.self.inside in
    let before = inside.text.items in
    let line = line_of c.args.line.now in
    let lines = lines_in format before in
    let n = c.in-Some.number in
    let count = line_count format before inside.sources.items c.self.invariant in
    let number : n ≡ next_number lines = omega (arith, c.in-Some.ensures, c.len.ensures, count) in
    let small : n < 2 ^ 64 = omega (arith, c.in-Some.ensures) in
    let fits : fits_types line ≡ true = sym c.fits_types.ensures ∙ c.if-not-fits_types.false in
    let has : HasNumbersOf format n line.premises
    = subst (λ (ps : List ℕ). HasNumbersOf format n ps) c.deref.ensures.value (subst (λ (f : Format). HasNumbersOf f n c.deref.result.now) c.format.ensures (c.if-not-has_numbers.ensures.0 refl)) in
    let at : HasNumbersAt format (next_number lines) line = next_has_numbers format lines n line number small has in
    let spelled = spelled_line format before inside.sources.items line c.source.result c.self.invariant fits at c.source.ensures in
    let room : c.push_line.new.out.items ≡ spelled
    = c.in_ok-push_line.ensures ∙ ap₂ (λ (s : List ℕ) (f : Format). s ++ line_text (written f n line)) c.clear.ensures.items c.format-2.ensures ∙ ap (λ (m : ℕ). line_text (written format m line)) number in
    let text : c.extend_from_slice.new.self.items ≡ before ++ spelled = c.in_ok-extend_from_slice.ensures.items ∙ ap (λ (s : List ℕ). before ++ s) (c.deref-2.ensures.value ∙ room) in
    ap (lines_in format) text ∙ line_added format before inside.sources.items line c.source.result c.self.invariant fits at c.source.ensures
    ∙ ap (λ ls. ls ++ line ∷ []) c.self.view_is
