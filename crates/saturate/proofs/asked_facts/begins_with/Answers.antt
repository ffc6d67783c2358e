use Rattle.indexes.specs.Keys.{property_key, by_plain, by_chain}
use Rattle.saturate.specs.Requests.{BeginsWith}
use Rattle.saturate.proofs.Asking.{plain, chain, not_begun, under_has}
use Rattle.saturate.proofs.asked_facts.begins_with.Goals as goal

pub returns-then-is_used-clause-yes : goal.returns-then-is_used-clause-yes
returns-then-is_used-clause-yes c = λ _.
    let used = c.is_used.ensures.some c.if-is_used.true in
    under_has by_plain (λ form. BeginsWith form c.args.property) (property_key c.args.property) c.args.added.now.forms (plain c.args.property) used.0 ((c.plain_from.ensures used.0).0 used.1)

pub returns-else-is_used-clause-yes : goal.returns-else-is_used-clause-yes
returns-else-is_used-clause-yes c = λ yes.
    let used = c.is_used-else-is_used.ensures.some yes in
    under_has by_chain (λ form. BeginsWith form c.args.property) (property_key c.args.property) c.args.added.now.forms (chain c.args.property) used.0 ((c.chains_from.ensures used.0).0 used.1)

pub returns-else-is_used-clause-no : goal.returns-else-is_used-clause-no
returns-else-is_used-clause-no c = λ no.
    not_begun c.args.added.now.forms c.args.property
    (λ n under. c.is_used.ensures.none c.if-is_used.false n ((c.plain_from.ensures n).1 under))
    (λ n under. c.is_used-else-is_used.ensures.none no n ((c.chains_from.ensures n).1 under))
