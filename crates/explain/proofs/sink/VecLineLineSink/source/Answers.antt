use Rattle.std.proofs.Common.{Some, ◌-◌, ap, ◌∙◌, arith, sym}
use Rattle.std.proofs.lemmas.Option.{slice_get-get_or}
use Rattle.std.specs.Option.{option_map}
use Rattle.certificate.specs.Certificate.{source_of}
use Rattle.certificate.specs.View.{line_of}
use Rattle.cert_check.proofs.Checked.{at_there}
use Rattle.explain.proofs.sink.VecLineLineSink.source.Goals as goal

pub returns : goal.returns
returns c =
    let m = c.args.number - 1 in
    let at = slice_get-get_or c.args.self.now.items m c.index.result.now (omega (arith, c.if-len-number.false, c.if-number-eq0.false, c.len.ensures)) ∙ ap Some (sym c.index.ensures) in
    ap Some c.source.ensures ∙ ap (option_map source_of) (at_there line_of (λ l. l.conclusion) c.args.self.now.items m c.args.number c.index.result.now at (omega (arith, c.if-number-eq0.false)))
