use Rattle.std.proofs.Common.{◌+◌, ◌*◌, ◌<◌, ◌∷◌, ◌++◌, ◌∙◌, [], ℕ, suc, ap, length, max, get_or, take, arith}
use Rattle.narrowing.specs.Cut.{run_points}
use Rattle.narrowing.specs.Points.{within}
use Rattle.narrowing.proofs.Gathering.{gathered_more, runs_more, runs_whole}
use Rattle.narrowing.proofs.starts.add_run_points.Goals as goal

pub loop-run-preserved : goal.loop-run-preserved
loop-run-preserved c =
    let ends = c.args.ends.now in
    let run = c.loop-run.run in
    let last = get_or ends (2 * run) 0 in
    let first = get_or ends (2 * run + 1) 0 in
    let now = c.loop-run.starts.items in
    let below : 2 * run + 1 < length ends = omega arith in
    gathered_more c.args.domain c.args.starts.now.items now c.add_run.new.starts.items (run_points (take (2 * run) ends)) (first ∷ suc (max last first) ∷ []) (run_points (take (2 * (run + 1)) ends))
    c.loop-run.invariant (c.in_ok-add_run.ensures ∙ ap (λ (end : ℕ). now ++ within c.args.domain (first ∷ suc end ∷ [])) c.max.ensures) (runs_more ends run below)

pub returns : goal.returns
returns c =
    let ends = c.args.ends.now in
    let end : length ends < 2 * c.loop-run.run + 2 = omega arith in
    c.loop-run.invariant ∙ ap (λ xs. c.args.starts.now.items ++ within c.args.domain xs) (runs_whole ends c.loop-run.run end)
