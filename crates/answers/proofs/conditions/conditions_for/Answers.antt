use Rattle.std.proofs.Common.{◌++◌, ◌+◌, ℕ, List, sym, ap, ◌∙◌}
use Rattle.axioms.specs.View.{axiom_of}
use Rattle.answers.specs.Conditions.{numbered_conditions}
use Rattle.answers.proofs.Stating.{stated_more}
use Rattle.answers.proofs.conditions.conditions_for.Goals as goal

pub loop-place-preserved : goal.loop-place-preserved
loop-place-preserved c =
    let axiom1 = c.index-axioms-place.result in
    c.in_ok-push_conditions.ensures
    ∙ ap (λ (ps : List (ℕ × ℕ)). ps ++ numbered_conditions c.args.class.0 (c.loop-place.place + 1, axiom_of axiom1)) c.loop-place.invariant
    ∙ sym (stated_more c.args.class.0 c.axioms-axioms.result.now c.loop-place.place axiom1 c.loop-place-test.true c.index-axioms-place.is)
