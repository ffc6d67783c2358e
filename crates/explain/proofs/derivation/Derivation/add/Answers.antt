use Rattle.std.proofs.Common.{◌++◌, ◌∷◌, [], ap₂, ◌∙◌}
use Rattle.std.proofs.lemmas.Result.{on_ok_weaker}
use Rattle.certificate.specs.View.{conclusion_of}
use Rattle.explain.specs.Step.{line_by}
use Rattle.explain.proofs.Growing.{derivation_pushed}
use Rattle.explain.proofs.SameLines.{added_or_not, kept_grown}
use Rattle.explain.proofs.derivation.Derivation.add.Goals as goal

pub invariant_of-self-2 : goal.invariant_of-self-2
invariant_of-self-2 g c = kept_grown (added_or_not c.add.result _ _ _ c.add.ensures.added c.add.ensures.err) c.self.inside.same c.self.invariant

pub returns-clause-derivation : goal.returns-clause-derivation
returns-clause-derivation g c =
    let line = line_by (conclusion_of c.args.conclusion) c.args.rule c.args.axiom_number c.args.premises.now in
    on_ok_weaker c.add.result
    (λ added o derivation derived. derivation_pushed o _ _ line (added ∙ ap₂ (λ ls l. ls ++ l ∷ []) c.self.view_is c.in_ok-set_line.ensures) derivation derived)
    c.add.ensures.added
