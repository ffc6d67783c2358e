use Rattle.std.proofs.Common.{◌≡◌, IfErr, sym, subst}
use Rattle.axioms.proofs.Fronts.{front_is}
use Rattle.axioms.specs.Fronts.{Extends, front_of, lengths_of}
use Rattle.axioms.specs.Ontology.{Ontology}
use Rattle.axioms.specs.WellFormedness.{IsOntology}
use Rattle.axioms.specs.declared.lengths.Lengths.{Lengths}
use Rattle.fs_parser.specs.View.{trees_of}
use Rattle.profile.specs.Growth.{RefusesStatements}
use Rattle.profile.proofs.Takings.{on_err}
use Rattle.profile.proofs.growth.accept_statements.Goals as goal

-- what has grown is the ontology of before again, where as much is kept of it
back : (old taken new : Ontology) (lengths : Lengths) → taken ≡ old → Extends taken new → lengths ≡ lengths_of old → front_of lengths new ≡ old
back old taken new lengths same grown long = subst (λ (l : Lengths). front_of l new ≡ old) (sym long) (front_is old new (subst (λ (o : Ontology). Extends o new) same grown))

pub truncate-requires : goal.truncate-requires
truncate-requires c =
    subst IsOntology (sym (back c.args.ontology.now c.replace-old.result c.grown-answer.result.1 c.lengths-lengths.result c.replace-old.ensures.value c.grown-answer.ensures.kept c.lengths-lengths.ensures)) c.well_formed-2.ensures

pub returns-then-is_err-clause-refused : goal.returns-then-is_err-clause-refused
returns-then-is_err-clause-refused c =
    subst (λ (o : Ontology). IfErr c.grown-answer.result.0 (λ r. RefusesStatements c.args.version r o (trees_of c.args.trees.now))) c.replace-old.ensures.value c.grown-answer.ensures.refused

pub returns-then-is_err-clause-err : goal.returns-then-is_err-clause-err
returns-then-is_err-clause-err c =
    let was = back c.args.ontology.now c.replace-old.result c.grown-answer.result.1 c.lengths-lengths.result c.replace-old.ensures.value c.grown-answer.ensures.kept c.lengths-lengths.ensures in
    on_err c.grown-answer.result.0 _ (subst (λ (o : Ontology). c.truncate.new.self ≡ o) was c.truncate.ensures)
