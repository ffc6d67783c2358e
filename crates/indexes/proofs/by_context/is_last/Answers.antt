use Rattle.std.proofs.Common.{◌-◌, ◌∙◌, get_or, length, sym, eq-eqb, eqb-true, arith}
use Rattle.std.proofs.lemmas.Bool.{false≢true}
use Rattle.indexes.proofs.Adding.{is_last_from, last_has, last_is}
use Rattle.indexes.proofs.by_context.is_last.Goals as goal

pub returns-then-length-gt0-clause-yes : goal.returns-then-length-gt0-clause-yes
returns-then-length-gt0-clause-yes c = λ e.
    let list = c.args.list.now in
    is_last_from list c.args.number (length list - 1) (omega (arith, c.if-length-gt0.true)) (eqb-true (get_or list (length list - 1) 0) c.args.number e)

pub returns-then-length-gt0-clause-no : goal.returns-then-length-gt0-clause-no
returns-then-length-gt0-clause-no c = λ e last.
    let list = c.args.list.now in
    false≢true (sym e ∙ eq-eqb (get_or list (length list - 1) 0) c.args.number (last_is list c.args.number (length list - 1) (omega (arith, c.if-length-gt0.true)) last))

pub returns-else-length-gt0-clause-no : goal.returns-else-length-gt0-clause-no
returns-else-length-gt0-clause-no c = λ e last. omega (arith, last_has c.args.list.now c.args.number last, c.if-length-gt0.false)
