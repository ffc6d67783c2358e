use Rattle.std.proofs.Common.{◌↔◌, IsTrue, subst, sym}
use Rattle.answers.specs.Questions.{HasName, subject_name}
use Rattle.program.specs.declared.question.Asked.{Asked}
use Rattle.session.proofs.Finding.{finds}
use Rattle.session.proofs.asking.is_known.Goals as goal

pub returns-in-Class : goal.returns-in-Class
returns-in-Class c =
    let P : Asked → Type 0 = λ a. IsTrue c.has_name.result ↔ HasName c.args.ontology.now (subject_name a) in
    subst P (sym c.in-Class.is) (finds c.in-Class.name.now c.args.ontology.now.names.classes c.has_name.result c.has_name.ensures)

pub returns-in-Individual : goal.returns-in-Individual
returns-in-Individual c =
    let P : Asked → Type 0 = λ a. IsTrue c.has_name-in-Individual.result ↔ HasName c.args.ontology.now (subject_name a) in
    subst P (sym c.in-Individual.is) (finds c.in-Individual.name.now c.args.ontology.now.names.individuals c.has_name-in-Individual.result c.has_name-in-Individual.ensures)
