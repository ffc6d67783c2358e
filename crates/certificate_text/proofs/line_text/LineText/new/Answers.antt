use Rattle.std.proofs.Common.{◌≡◌, List, ℕ, true, ◌++◌, ap, ap₂, ◌∙◌, sym, subst}
use Rattle.certificate.specs.declared.format.Format.{Format}
use Rattle.certificate_text.specs.LineText.{IsLineText, first_line, lines_in}
use Rattle.certificate.specs.Text.{first_text}
use Rattle.certificate_text.proofs.LineTexts.{no_lines, no_line_text}
use Rattle.certificate_text.proofs.line_text.LineText.new.Goals as goal

pub invariant_of-result : goal.invariant_of-result
invariant_of-result g c =
    let format = g.F.FormatType.format in
    let text : c.push_first.new.out.items ≡ first_line format
    = c.in_ok-push_first.ensures ∙ ap₂ (λ (s : List ℕ) (f : Format). s ++ first_text f true) c.new-text.ensures.items c.format.ensures in
    subst (λ (s : List ℕ). IsLineText format s c.new.result.items) (sym text) (no_line_text format c.new.result.items c.new.ensures.items)

pub returns : goal.returns
returns g c =
    let format = g.F.FormatType.format in
    let text : c.push_first.new.out.items ≡ first_line format
    = c.in_ok-push_first.ensures ∙ ap₂ (λ (s : List ℕ) (f : Format). s ++ first_text f true) c.new-text.ensures.items c.format.ensures in
    ap (lines_in format) text ∙ no_lines format
