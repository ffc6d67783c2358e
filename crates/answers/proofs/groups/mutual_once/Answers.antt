use Rattle.normalise.proofs.Marked.{ascending_once}
use Rattle.answers.proofs.groups.mutual_once.Goals as goal

pub returns-clause-once : goal.returns-clause-once
returns-clause-once c = ascending_once c.sort_ascending.new.list.items c.sort_ascending.ensures.ascending

pub returns-clause-exact : goal.returns-clause-exact
returns-clause-exact c = λ d.
    let same = c.sort_ascending.ensures.same d in
    let was = c.in_ok-found.ensures d in
    (λ there. was.0 (same.0 there), λ h. same.1 (was.1 h))
