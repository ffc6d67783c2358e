use Rattle.std.proofs.Common.{arith}
use Rattle.std.proofs.lemmas.Option.{slice_get_within}
use Rattle.inference.proofs.Lists.{slice_get-from_Contains}
use Rattle.saturate.specs.Requests.{problem_of}
use Rattle.saturate.proofs.Fresh.{ask_by_class}
use Rattle.saturate.proofs.named_facts.ask_by_class.Goals as goal

pub returns : goal.returns
returns c = λ _. ask_by_class c.args.closure.now (problem_of c.args.forms.now c.args.apart.now) c.well_formed-2.ensures
    (λ form there.
    let at = slice_get-from_Contains c.args.forms.now form there in
    let low = slice_get_within c.args.forms.now at.0 form at.1 in
    c.loop-number.invariant at.0 form (omega (arith, low, c.loop-number-test.false, c.len-number-end.ensures)) at.1)
    (omega (arith, c.if-len-gt0.false, c.len.ensures))
