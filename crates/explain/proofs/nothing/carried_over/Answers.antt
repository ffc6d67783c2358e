use Rattle.std.proofs.Common.{◌∷◌, [], Some, refl, ap, ◌∙◌}
use Rattle.certificate.specs.Certificate.{Sub}
use Rattle.certificate.specs.View.{subject_of}
use Rattle.axioms.specs.Ontology.{nothing}
use Rattle.explain.proofs.Used.{used_by_line}
use Rattle.explain.proofs.Walking.{same_source, carried_line, last_says}
use Rattle.explain.proofs.nothing.carried_over.Goals as goal

pub returns-clause-derivation : goal.returns-clause-derivation
returns-clause-derivation g c =
    let (x, l) = c.requires.edge in
    let same = same_source c.args.derivation.now c.args.edge c.args.end x (subject_of c.in-Some.source) l c.in-Some.ensures in
    c.in_ok-number.ensures.derivation c.args.closed.now.ontology c.requires.derivation
    (carried_line c.args.closed.now.ontology c.args.derivation.now c.args.edge c.args.end x (subject_of c.in-Some.source) (c.args.edge ∷ c.args.end ∷ []) c.well_formed-2.ensures.ontology c.requires.derivation l same refl)

pub returns-clause-shown : goal.returns-clause-shown
returns-clause-shown g c x l =
    let same = same_source c.args.derivation.now c.args.edge c.args.end x (subject_of c.in-Some.source) l c.in-Some.ensures in
    last_says c.args.derivation.now c.add.new.self _ c.in_ok-number.number c.in_ok-number.ensures.added c.in_ok-number.ensures.number ∙ ap (λ y. Some (Sub y nothing)) same

pub returns-clause-used : goal.returns-clause-used
returns-clause-used g c =
    used_by_line c.args.derivation.now c.add.new.self _ (c.in_ok-number.number ∷ []) c.in_ok-number.number c.in_ok-number.ensures.added c.in_ok-number.ensures.number refl
