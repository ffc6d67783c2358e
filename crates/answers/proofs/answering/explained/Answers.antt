use Rattle.std.proofs.Common.{refl}
use Rattle.closure.specs.Denotations.{context_of}
use Rattle.answers.proofs.Deriving.{subject_root, class_root}
use Rattle.answers.proofs.Knowing.{class_known, known_by}
use Rattle.answers.proofs.answering.explained.Goals as goal

pub explanation_of-requires-clause-subject : goal.explanation_of-requires-clause-subject
explanation_of-requires-clause-subject c = subject_root c.args.indexed.now.ontology c.args.indexed.now.saturation.normal.asked c.args.asked (context_of c.in-Some.subject) c.in-Some.ensures

pub explanation_of-requires-clause-class : goal.explanation_of-requires-clause-class
explanation_of-requires-clause-class c = class_root c.args.indexed.now.ontology c.args.indexed.now.saturation.normal.asked c.args.class.now c.in-Some-class_named.class.0 c.in-Some-class_named.ensures

pub returns-clause-known : goal.returns-clause-known
returns-clause-known c =
    let o = c.args.indexed.now.ontology in
    (λ _. (known_by o c.args.asked (context_of c.in-Some.subject) c.in-Some.ensures, class_known o c.args.class.now c.in-Some-class_named.class.0 c.in-Some-class_named.ensures), λ _. refl)
