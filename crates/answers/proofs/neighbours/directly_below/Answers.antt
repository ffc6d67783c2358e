use Rattle.answers.proofs.Deriving.{class_root}
use Rattle.answers.proofs.neighbours.directly_below.Goals as goal

pub marks_strictly_below-requires : goal.marks_strictly_below-requires
marks_strictly_below-requires c = class_root c.args.indexed.now.ontology c.args.indexed.now.saturation.normal.asked c.requires.0 c.args.class.0 c.requires.1

pub groups_below-requires : goal.groups_below-requires
groups_below-requires c = (c.requires.0, c.in_ok-marks.ensures c.requires.0 c.requires.1)

pub returns : goal.returns
returns c = λ name named. c.in_ok-groups.ensures name (c.in_ok-marks.ensures name named)
