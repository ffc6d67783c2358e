use Rattle.std.proofs.Common.{◌≤◌, ◌<◌, ◌∙◌, length, ap, arith}
use Rattle.certificate.proofs.Stepwise.{length-mapped_until, mapped_more, mapped_whole}
use Rattle.narrowing.proofs.renumbering.renumber_elements.Goals as goal

pub loop-element-preserved : goal.loop-element-preserved
loop-element-preserved g c =
    let below : c.loop-element.element-index < length c.loop-element.elements = omega arith in
    mapped_more (g.N.Numbering.number c.args.numbering.now) c.loop-element.element-index c.args.elements.now c.loop-element.elements c.number_of.result 0 below c.loop-element.invariant c.number_of.ensures

pub returns : goal.returns
returns g c =
    let old = c.args.elements.now in
    let f = g.N.Numbering.number c.args.numbering.now in
    let long = ap length c.loop-element.invariant ∙ length-mapped_until f c.loop-element.element-index old in
    let end : length old ≤ c.loop-element.element-index = omega (arith, long) in
    c.loop-element.invariant ∙ mapped_whole f c.loop-element.element-index old end
