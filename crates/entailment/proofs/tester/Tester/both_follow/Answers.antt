use Rattle.std.proofs.Common.{[], ◌∷◌, ◌++◌}
use Rattle.std.proofs.lemmas.Result.{err_from_is_err_and}
use Rattle.entailment.proofs.Going.{goes_behind, goes_none, handed_on, stops, told_behind, untold_front}
use Rattle.entailment.specs.Claims.{claimed}
use Rattle.entailment.proofs.tester.Tester.both_follow.Goals as goal

pub returns-then-branch : goal.returns-then-branch
returns-then-branch c =
    let o = c.args.self.now.about.now in
    let most = c.args.self.now.max_facts in
    let first = claimed c.args.first ∷ [] in
    told_behind o most first (claimed c.args.second ∷ []) c.claim_follows-then-branch.result (goes_behind o most [] first _ (goes_none o most) c.in_ok-claim_follows.ensures c.if-branch.true) c.claim_follows-then-branch.ensures

pub returns-else-branch : goal.returns-else-branch
returns-else-branch c =
    stops c.args.self.now.about.now c.args.self.now.max_facts (claimed c.args.first ∷ []) (claimed c.args.second ∷ []) _ c.in_ok-claim_follows.ensures c.if-branch.false

pub returns-in_err-claim_follows : goal.returns-in_err-claim_follows
returns-in_err-claim_follows c =
    let o = c.args.self.now.about.now in
    let most = c.args.self.now.max_facts in
    let first = claimed c.args.first ∷ [] in
    let second = claimed c.args.second ∷ [] in
    let p = err_from_is_err_and c.from_residual.result c.from_residual.ensures.1 in
    handed_on o most (first ++ second) c.from_residual.result p.0 _ p.1 p.2 (untold_front o most first second _ c.in_err-claim_follows.ensures)
