use Rattle.std.proofs.Common.{◌∙◌, sym}
use Rattle.std.proofs.lemmas.Bool.{false≢true}
use Rattle.answers.proofs.Nearing.{none_farther, one_farther}
use Rattle.answers.proofs.nearest.farther_of.Goals as goal
use Rattle.answers.proofs.nearest.farther_of.Goals.{else-contains-via-then-contains+else-not-has, else-contains-via-else-contains}

pub returns-then-not-has : goal.returns-then-not-has
returns-then-not-has c =
    one_farther c.args.lists.now c.args.marks.now c.args.side c.args.low c.args.high (sym c.contains.ensures ∙ c.if-contains.true)
    (sym c.has.ensures ∙ c.if-not-has.true) c.farther.result c.farther.ensures

pub returns-else-contains : goal.returns-else-contains
returns-else-contains c =
    none_farther c.args.lists.now c.args.marks.now c.args.side c.args.low c.args.high (λ mark not. elim c.else-contains.branch [
      | else-contains-via-then-contains+else-not-has w ↦ false≢true (sym not ∙ sym w.has.ensures ∙ w.if-not-has.false)
      | else-contains-via-else-contains w ↦ false≢true (sym w.if-contains.false ∙ c.contains.ensures ∙ mark)
    ])
