use Rattle.std.proofs.Common.{◌↔◌, ap, length, ◌∙◌, subst₂, arith}
use Rattle.std.proofs.lemmas.Result.{IfOk-weaker}
use Rattle.explain.proofs.Saying.{each_needed, have_facts}
use Rattle.explain.specs.Marks.{IsMarked, IsWantedFact}
use Rattle.explain.proofs.derivations.add_facts.Goals as goal

pub returns-clause-facts : goal.returns-clause-facts
returns-clause-facts g c =
    IfOk-weaker c.add_lines.result _ _
    (λ s. have_facts c.args.closed.now.ontology c.args.closed.now.saturation c.in_ok-marks.marks (g.L.LineSink.lines s) c.well_formed-2.ensures.saturated
    (λ n f at. subst₂ (λ o asked. IsMarked c.in_ok-marks.marks n ↔ IsWantedFact o asked f) c.ontology.ensures (c.asked-asked.ensures ∙ ap (λ v. v.asked) c.normal.ensures)
    (c.in_ok-marks.ensures.exact n f (rw (c.facts.ensures) at))))
    c.add_lines.ensures.shown

pub returns-clause-needed : goal.returns-clause-needed
returns-clause-needed g c =
    IfOk-weaker c.add_lines.result _ _
    (λ s shown. each_needed c.args.closed.now.ontology c.args.closed.now.saturation c.in_ok-marks.marks (g.L.LineSink.lines s) c.well_formed-2.ensures.saturated
    (λ n f at. subst₂ (λ o asked. IsMarked c.in_ok-marks.marks n ↔ IsWantedFact o asked f) c.ontology.ensures (c.asked-asked.ensures ∙ ap (λ v. v.asked) c.normal.ensures)
    (c.in_ok-marks.ensures.exact n f (rw (c.facts.ensures) at))) shown (omega (arith, c.in_ok-marks.ensures.long, ap length c.facts.ensures)))
    c.add_lines.ensures.shown
