use Rattle.std.proofs.Common.{◌+◌, ◌≤◌, ◌∙◌, ℕ, ap, min, subst, sym}
use Rattle.std.proofs.Math.Nat.{min-le_left}
use Rattle.speech.specs.Answers.{IsRunTo}
use Rattle.speech.specs.Replies.{told_by}
use Rattle.speech.proofs.session_service.SessionService.run_some.Goals as goal

pub run_to-requires : goal.run_to-requires
run_to-requires c = subst (λ (n : ℕ). n ≤ c.args.self.now.limits.max_facts) (sym c.end_of_run-end.ensures) (min-le_left c.args.self.now.limits.max_facts (c.facts.result + c.args.more))

pub returns-clause-step : goal.returns-clause-step
returns-clause-step c =
    let limits = c.args.self.now.limits in
    let same = c.end_of_run-end.ensures ∙ ap (λ (n : ℕ). min limits.max_facts (n + c.args.more)) c.facts.ensures in
    subst (λ (n : ℕ). IsRunTo limits n c.args.self.now.session (told_by c.run_to.result) c.run_to.new.self.session) same c.run_to.ensures.step
