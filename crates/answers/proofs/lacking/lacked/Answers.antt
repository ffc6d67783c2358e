use Rattle.std.proofs.Common.{refl}
use Rattle.closure.specs.Denotations.{context_of}
use Rattle.answers.proofs.Knowing.{class_known, known_by}
use Rattle.answers.proofs.lacking.lacked.Goals as goal

pub returns-clause-known : goal.returns-clause-known
returns-clause-known c =
    let o = c.args.indexed.now.ontology in
    (λ _. (known_by o c.args.asked (context_of c.in-Some.subject) c.in-Some.ensures, class_known o c.args.class.now c.in-Some-class_named.class.0 c.in-Some-class_named.ensures), λ _. refl)

pub returns-clause-exact : goal.returns-clause-exact
returns-clause-exact c = c.in_ok-lacking.ensures c.args.asked c.args.class.now c.in-Some.ensures c.in-Some-class_named.ensures
