use Rattle.std.proofs.lemmas.Result.{on_ok_weaker}
use Rattle.saturate.proofs.Flagging.{flagged_as}
use Rattle.saturate.proofs.Listed.{says_by}
use Rattle.saturate.proofs.asked_facts.flag_by.Goals as goal

pub returns-clause-ok : goal.returns-clause-ok
returns-clause-ok c = on_ok_weaker c.flag_all.result
    (λ too all closed.
    let asked = c.asks_for_edges.ensures.yes c.if-not-asks_for_edges.false all closed in
    flagged_as _ _ (λ n. (
      (λ says. (says.0, says.1, ((says_by c.args.property says.0).0 says.2, asked))),
      (λ such. (such.0, such.1, (says_by c.args.property such.0).1 such.2.0)),
    )) too)
    c.flag_all.ensures.ok
