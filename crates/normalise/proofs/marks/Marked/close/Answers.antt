use Rattle.std.proofs.Common.{◌<◌, length, Some, sym, ap, ◌∙◌, arith}
use Rattle.std.proofs.lemmas.Option.{slice_get-get_or}
use Rattle.normalise.proofs.Marking.{closing_begins, closing_more, closed_all}
use Rattle.normalise.proofs.marks.Marked.close.Goals as goal

pub loop-next-init : goal.loop-next-init
loop-next-init c = closing_begins c.args.ontology.now.nodes c.args.self.now c.requires

pub loop-next-preserved : goal.loop-next-preserved
loop-next-preserved c =
    let noted = c.loop-next.self.noted in
    let low : c.loop-next.next < length noted.items = omega (arith, c.len.ensures, c.loop-next-test.true, noted.ok.0) in
    closing_more c.args.ontology.now.nodes c.args.self.now c.loop-next.self c.mark_below.new.self c.loop-next.next c.index-number.result.now
    (slice_get-get_or noted.items c.loop-next.next _ low ∙ ap Some (sym c.index-number.ensures)) c.loop-next.invariant c.in_ok-mark_below.ensures

pub returns : goal.returns
returns c =
    let noted = c.loop-next.self.noted in
    closed_all c.args.ontology.now.nodes c.args.self.now c.loop-next.self c.loop-next.next (omega (arith, c.len.ensures, c.loop-next-test.false, noted.ok.0)) c.loop-next.invariant
