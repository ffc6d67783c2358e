use Rattle.std.proofs.Common.{◌∙◌, ap, ◌-◌, List, Bool, true}
use Rattle.std.specs.Prelude.{slice_set}
use Rattle.explain.proofs.MarkBits.{goal_marked}
use Rattle.explain.proofs.marks.goal_mark.Goals as goal

pub returns : goal.returns
returns c =
    let marked = goal_marked c.put.new.self c.args.goal c.requires (c.put.ensures.after ∙ ap (λ (ms : List Bool). slice_set ms (c.args.goal - 1) true) c.in_ok-marks.ensures) in
    record { long = marked.0; exact = marked.1 }
