use Rattle.std.proofs.Common.{ℕ, true, length, replicate, ap, ◌∙◌}
use Rattle.std.proofs.lemmas.List.{length-replicate}
use Rattle.std.proofs.lemmas.Result.{IfOk-weaker}
use Rattle.axioms.specs.Ontology.{Ontology}
use Rattle.answers.specs.Selections.{names_asked}
use Rattle.answers.proofs.Lent.{same_ontology}
use Rattle.answers.proofs.Neighbouring.{among_all}
use Rattle.answers.proofs.marks.marks_of.Goals as goal

pub marks_among-requires-clause-long : goal.marks_among-requires-clause-long
marks_among-requires-clause-long c =
    let many = c.count_asked-names.ensures ∙ ap (λ (o : Ontology). length (names_asked o c.args.question)) (same_ontology c.ontology.ensures c.closed-closed.ensures) in
    ap length c.in_ok-all.ensures ∙ length-replicate _ true ∙ many

pub returns : goal.returns
returns c =
    let many = c.count_asked-names.ensures ∙ ap (λ (o : Ontology). length (names_asked o c.args.question)) (same_ontology c.ontology.ensures c.closed-closed.ensures) in
    IfOk-weaker c.marks_among.result _ _ (λ v are. among_all _ _ c.in_ok-all.all (c.in_ok-all.ensures ∙ ap (λ (n : ℕ). replicate n true) many) v are) c.marks_among.ensures
