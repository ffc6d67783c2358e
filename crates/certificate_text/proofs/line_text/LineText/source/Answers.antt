use Rattle.std.proofs.Common.{Some, ◌-◌, ap, sym, ◌∙◌, arith}
use Rattle.std.proofs.lemmas.Option.{slice_get-get_or}
use Rattle.certificate_text.proofs.LineTexts.{source_there}
use Rattle.certificate_text.proofs.line_text.LineText.source.Goals as goal

pub returns : goal.returns
returns g c =
    let i = c.self.inside in
    let m = c.args.number - 1 in
    let subject = c.index.result.now in
    rw (← c.self.view_is)
    (source_there g.F.FormatType.format i.text.items i.sources.items m c.args.number subject c.self.invariant
    (slice_get-get_or i.sources.items m subject (omega (arith, c.if-len-number.false, c.if-number-eq0.false, c.len.ensures)) ∙ ap Some (sym c.index.ensures))
    (omega (arith, c.if-number-eq0.false)))
