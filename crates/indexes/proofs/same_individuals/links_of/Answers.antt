use Rattle.std.proofs.Common.{sym, ◌∙◌}
use Rattle.normal_forms.proofs.Filters.{next_kept, next_left_out}
use Rattle.indexes.specs.Groups.{is_link}
use Rattle.indexes.proofs.same_individuals.links_of.Goals.{then-makes_one+in_ok-push, else-makes_one}
use Rattle.indexes.proofs.same_individuals.links_of.Goals as goal

pub loop-number-preserved : goal.loop-number-preserved
loop-number-preserved c =
    let forms = c.args.forms.now in
    let k = c.loop-number.number in
    elim c.if-makes_one.branch [
      | then-makes_one+in_ok-push w ↦
          w.kept-is ∙ w.in_ok-push.ensures.ok ∙ next_kept is_link forms c.loop-number.kept k c.at-form.result c.at-form.ensures (sym c.makes_one.ensures ∙ w.if-makes_one.true) c.loop-number.invariant
      | else-makes_one w ↦
          w.kept-is ∙ next_left_out is_link forms c.loop-number.kept k c.at-form.result c.at-form.ensures (sym c.makes_one.ensures ∙ w.if-makes_one.false) c.loop-number.invariant
    ]
