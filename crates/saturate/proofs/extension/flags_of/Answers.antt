use Rattle.std.proofs.Common.{◌↔◌, arith}
use Rattle.std.proofs.lemmas.Result.{IfOk-weaker}
use Rattle.facts.specs.declared.contexts.Fact.{Fact}
use Rattle.facts.specs.Closure.{Problem}
use Rattle.inference.proofs.Edges.{has_property}
use Rattle.saturate.specs.Requests.{IsAsked, IsAskedAnew, IsOfNamedClass, problem_of}
use Rattle.saturate.proofs.Flagging.{asked_as_new, flagged_too}
use Rattle.saturate.proofs.extension.flags_of.Goals as goal
use Rattle.saturate.proofs.extension.flags_of.Goals.{In_ok-apart}

-- there was no fact
pub returns-then-len-eq0-clause-flags : goal.returns-then-len-eq0-clause-flags
returns-then-len-eq0-clause-flags c = IfOk-weaker c.new.result _ _ (λ flags is served most within index n there. absurd (omega (arith, within n there, c.len.ensures.value, c.if-len-eq0.true))) c.new.ensures

-- what is added asks for the same facts as what is new
as_new : (c : In_ok-apart) (f : Fact) → IsAsked c.args.ground.now.forms (problem_of c.in_ok-forms.forms c.in_ok-apart.apart) f ↔ IsAskedAnew c.args.earlier.now c.args.ground.now f
as_new c = asked_as_new c.args.earlier.now c.args.ground.now (problem_of c.in_ok-forms.forms c.in_ok-apart.apart)
    (rw (c.forms.ensures, c.problem-now.ensures, c.problem-before.ensures) at c.in_ok-forms.ensures.asked)
    (rw (c.apart.ensures, c.apart-2.ensures, c.problem-now.ensures, c.problem-before.ensures) at c.in_ok-apart.ensures.classes)

pub returns-then-ask_by_class-clause-flags : goal.returns-then-ask_by_class-clause-flags
returns-then-ask_by_class-clause-flags c =
    let at_apart = (goal.at.returns-then-ask_by_class-clause-flags c).In_ok-apart in
    let before : Problem = c.args.earlier.now in
    let now : Problem = c.args.ground.now in
    let added : Problem = problem_of c.in_ok-forms.forms c.in_ok-apart.apart in
    let facts = c.args.facts.now.facts in
    let below = rw (c.forms.ensures, c.problem-now.ensures, c.problem-before.ensures) at c.in_ok-forms.ensures.below in
    IfOk-weaker c.flags_of_named.result _ _
    (λ flags each served most within index n there.
    flagged_too (IsAsked now.forms added) (IsAskedAnew before now) facts flags n (λ f at. as_new at_apart f)
    (flagged_too (IsOfNamedClass added.forms) (IsAsked now.forms added) facts flags n
    (λ f at. c.ask_by_class.ensures c.if-ask_by_class.true before.forms now.forms c.closure.ensures below f (has_property before c.closure.ensures c.requires.before n f at))
    (each n (within n there))))
    c.flags_of_named.ensures.flags

pub returns-clause-flags : goal.returns-clause-flags
returns-clause-flags c =
    let at_apart = (goal.at.returns-clause-flags c).In_ok-apart in
    let before : Problem = c.args.earlier.now in
    let now : Problem = c.args.ground.now in
    let added : Problem = problem_of c.in_ok-forms.forms c.in_ok-apart.apart in
    let facts = c.args.facts.now.facts in
    IfOk-weaker c.flags_of_asked.result _ _
    (λ flags each served most within index n there. flagged_too (IsAsked now.forms added) (IsAskedAnew before now) facts flags n (λ f at. as_new at_apart f) (each served most within index n there))
    c.flags_of_asked.ensures.flags
