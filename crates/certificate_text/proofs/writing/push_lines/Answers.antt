use Rattle.std.proofs.Common.{List, ℕ, ◌++◌, ◌+◌, ap, sym, ◌∙◌, take, append_assoc}
use Rattle.certificate.specs.Text.{line_text, written, lines_text}
use Rattle.certificate.specs.View.{line_of, lines_of}
use Rattle.certificate_text.proofs.Earlier.{more_text}
use Rattle.certificate_text.proofs.writing.push_lines.Goals as goal

pub loop-place-preserved : goal.loop-place-preserved
loop-place-preserved c =
    let start = c.args.out.now.items in
    let format = c.args.format in
    let i = c.loop-place.place in
    let line = c.index-lines-place.result in
    let text = line_text (written format (i + 1) (line_of line)) in
    c.in_ok-push_line.ensures ∙ ap (λ (s : List ℕ). s ++ text) c.loop-place.invariant ∙ append_assoc start (lines_text format 1 (lines_of (take i c.args.lines.now))) text
    ∙ ap (λ (s : List ℕ). start ++ s) (sym (more_text format line_of c.args.lines.now i line line c.loop-place-test.true c.index-lines-place.is))
