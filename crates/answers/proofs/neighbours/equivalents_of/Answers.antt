use Rattle.answers.specs.Neighbours.{AreSame}
use Rattle.answers.proofs.Deriving.{class_root}
use Rattle.answers.proofs.NamedSides.{same_classes}
use Rattle.answers.proofs.Naming.{those_marked}
use Rattle.answers.proofs.neighbours.equivalents_of.Goals as goal

pub marks_of-requires : goal.marks_of-requires
marks_of-requires c = record { root = class_root c.args.indexed.now.ontology c.args.indexed.now.saturation.normal.asked c.requires.0 c.args.class.0 c.requires.1 }

pub marks_among-requires-clause-root : goal.marks_among-requires-clause-root
marks_among-requires-clause-root c = class_root c.args.indexed.now.ontology c.args.indexed.now.saturation.normal.asked c.requires.0 c.args.class.0 c.requires.1

pub returns : goal.returns
returns c = λ name named.
    let o = c.args.indexed.now.ontology in
    let are = same_classes o name c.args.class named c.in_ok-same.same c.in_ok-below.below c.intersect.new.self c.intersect.ensures.len c.in_ok-same.ensures c.in_ok-below.ensures c.intersect.ensures.members in
    those_marked o.names.classes (AreSame o name) c.intersect.new.self are _ c.in_ok-names.ensures
