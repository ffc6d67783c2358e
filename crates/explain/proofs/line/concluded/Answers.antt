use Rattle.std.proofs.Common.{◌++◌, ◌∷◌, [], ap, sym, ◌∙◌, subst}
use Rattle.certificate.specs.View.{conclusion_of}
use Rattle.explain.proofs.Conclusions.{showing_line}
use Rattle.explain.proofs.Growing.{added_line_at}
use Rattle.cert_check.specs.Derivation.{IsDerived}
use Rattle.explain.proofs.Used.{used_by_line}
use Rattle.explain.specs.Step.{line_by}
use Rattle.explain.specs.Uses.{IsAmong, Uses}
use Rattle.explain.proofs.line.concluded.Goals as goal

pub returns-clause-derivation : goal.returns-clause-derivation
returns-clause-derivation g c o b derivation leads =
    let conclusion = conclusion_of c.in-Some.conclusion in
    c.in_ok-number.ensures.derivation o derivation
    (subst (λ ns. IsDerived o c.args.derivation.now (line_by conclusion c.args.rule c.args.axiom_number ns)) (sym c.as_slice.ensures) (leads.line conclusion (sym c.in-Some.ensures)))

pub returns-clause-shown : goal.returns-clause-shown
returns-clause-shown g c o b leads =
    showing_line c.args.fact (conclusion_of c.in-Some.conclusion) (sym c.in-Some.ensures)
    (added_line_at c.args.derivation.now _ _ _ c.in_ok-number.number c.in_ok-number.ensures.added c.in_ok-number.ensures.number
    (c.in_ok-push.ensures.ok ∙ ap (λ ns. ns ++ c.in_ok-number.number ∷ []) c.clear.ensures.items))

pub returns-clause-used : goal.returns-clause-used
returns-clause-used g c =
    subst (λ ns. Uses c.args.derivation.now c.add.new.self (IsAmong ns) c.push.new.self.items) c.as_slice.ensures
    (used_by_line c.args.derivation.now c.add.new.self _ c.push.new.self.items c.in_ok-number.number c.in_ok-number.ensures.added c.in_ok-number.ensures.number
    (c.in_ok-push.ensures.ok ∙ ap (λ ns. ns ++ c.in_ok-number.number ∷ []) c.clear.ensures.items))
