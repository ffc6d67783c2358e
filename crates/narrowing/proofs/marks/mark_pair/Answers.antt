use Rattle.std.proofs.Common.{◌<◌, ◌↔◌, IsTrue, All, List, [], ◌∷◌, ℕ, length, subst}
use Rattle.certificate.specs.View.{targets_in}
use Rattle.narrowing.proofs.Marking.{marked_more, answered, none_marked, one_in_range}
use Rattle.narrowing.proofs.marks.mark_pair.Goals as goal

pub returns-then-put-clause-in_range : goal.returns-then-put-clause-in_range
returns-then-put-clause-in_range c =
    let row = c.args.row.now in
    let source = c.args.pair.now.source in
    let first = marked_more row row [] (source ∷ []) c.put.result (none_marked row) (one_in_range row source c.put.result c.put.ensures.in_range) c.put.new.self (λ t. c.put.ensures.after) c.if-put.true in
    let rest = subst (λ (xs : List ℕ). IsTrue c.mark_elements.result ↔ All (λ x. x < length c.put.new.self) xs) c.as_slice.ensures c.mark_elements.ensures.in_range in
    answered row c.put.new.self (source ∷ []) (targets_in c.args.pair.now.targets) c.mark_elements.result first rest
