use Rattle.std.proofs.Common.{◌∷◌, [], List, ℕ, get_or, take, sym, subst}
use Rattle.std.proofs.lemmas.List.{take_more}
use Rattle.narrowing.proofs.Marking.{IsMarked, marked_more, refused, one_in_range, one_among}
use Rattle.narrowing.proofs.marks.mark_elements.Goals as goal

pub returns-then-not-put-clause-in_range : goal.returns-then-not-put-clause-in_range
returns-then-not-put-clause-in_range c =
    let xs = c.args.elements.now in
    let i = c.loop-element.element-index in
    let x = get_or xs i 0 in
    refused c.args.row.now c.loop-element.row (take i xs) (x ∷ []) c.put.result c.loop-element.invariant (one_in_range c.loop-element.row x c.put.result c.put.ensures.in_range)
    xs (one_among xs i 0 c.loop-element-test.true) c.if-not-put.true

pub loop-element-preserved : goal.loop-element-preserved
loop-element-preserved c =
    let xs = c.args.elements.now in
    let i = c.loop-element.element-index in
    let x = get_or xs i 0 in
    subst (λ (ys : List ℕ). IsMarked c.args.row.now ys c.put.new.self) (sym (take_more xs i 0 c.loop-element-test.true))
    (marked_more c.args.row.now c.loop-element.row (take i xs) (x ∷ []) c.put.result c.loop-element.invariant (one_in_range c.loop-element.row x c.put.result c.put.ensures.in_range) c.put.new.self (λ t. c.put.ensures.after) c.if-not-put.false)
