use Rattle.answer_texts.specs.Proof as proof
use Rattle.answer_texts.proofs.EachLine.{line_added, line_there}
use Rattle.answer_texts.proofs.proof.push_lines.Goals as goal

pub push_line-requires : goal.push_line-requires
push_line-requires c = line_there c.args.lines.now c.loop-place.place c.index-lines-place.result c.loop-place-test.true c.index-lines-place.is c.args.ontology.now c.requires

pub loop-place-preserved : goal.loop-place-preserved
loop-place-preserved c =
    line_added c.args.lines.now c.loop-place.place c.index-lines-place.result c.loop-place-test.true c.index-lines-place.is (proof.line_text c.args.ontology.now)
    c.args.out.now.items c.loop-place.out.items c.push_line.new.out.items c.loop-place.invariant c.in_ok-push_line.ensures
