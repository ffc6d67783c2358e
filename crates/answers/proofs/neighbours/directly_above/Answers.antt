use Rattle.answers.specs.Names.{groups_in}
use Rattle.answers.proofs.Deriving.{class_root}
use Rattle.answers.proofs.Neighbouring.{parents_are, satisfiable_above}
use Rattle.answers.proofs.neighbours.directly_above.Goals as goal

pub marks_strictly_above-requires : goal.marks_strictly_above-requires
marks_strictly_above-requires c = class_root c.args.indexed.now.ontology c.args.indexed.now.saturation.normal.asked c.requires.0 c.args.class.0 c.requires.1

pub nearest_groups-requires-clause-long : goal.nearest_groups-requires-clause-long
nearest_groups-requires-clause-long c = (c.in_ok-marks.ensures c.requires.0 c.requires.1).long

pub nearest_groups-requires-clause-satisfiable : goal.nearest_groups-requires-clause-satisfiable
nearest_groups-requires-clause-satisfiable c = satisfiable_above c.args.indexed.now.ontology c.in_ok-marks.marks c.requires.0 (c.in_ok-marks.ensures c.requires.0 c.requires.1)

pub returns : goal.returns
returns c = λ name named. parents_are c.args.indexed.now.ontology c.in_ok-marks.marks name (c.in_ok-marks.ensures name named) (groups_in c.in_ok-groups.groups.items) c.in_ok-groups.ensures
