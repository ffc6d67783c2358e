use Rattle.std.proofs.Common.{◌≡◌, ◌↔◌, ◌++◌, List, true, subst}
use Rattle.axioms.specs.Axiom as tree
use Rattle.axioms.specs.Ontology.{axiom_trees}
use Rattle.entailment.specs.Entailment.{Entails}
use Rattle.entailment.specs.Testers.{IsWithinLimit}
use Rattle.session.specs.Entailments.{IsUntoldOf}
use Rattle.session.specs.Sessions.{Opened}
use Rattle.session.proofs.session.Session.follows.Goals as goal

pub returns-in-Some-clause-fault : goal.returns-in-Some-clause-fault
returns-in-Some-clause-fault c =
    let P : Opened → Type 0 = λ s. IsUntoldOf s.ontology c.args.stated.now c.args.max_facts c.unknown.result in
    subst P c.self.view_is (c.unknown.ensures c.self.inside.ontology c.args.stated.now c.args.max_facts c.in-Some.ensures.some)

pub returns-in-Ok-clause-exact : goal.returns-in-Ok-clause-exact
returns-in-Ok-clause-exact c =
    let P : Opened → Type 0 = λ s. (others : List tree.Axiom) → axiom_trees c.args.stated.now ≡ axiom_trees s.ontology ++ others → (c.in-Ok.follows ≡ true) ↔ Entails (axiom_trees s.ontology) others in
    subst P c.self.view_is c.in-Ok.ensures.exact

pub returns-in-Ok-clause-few : goal.returns-in-Ok-clause-few
returns-in-Ok-clause-few c =
    let P : Opened → Type 0 = λ s. IsWithinLimit s.ontology c.args.stated.now c.args.max_facts in
    subst P c.self.view_is c.in-Ok.ensures.within
