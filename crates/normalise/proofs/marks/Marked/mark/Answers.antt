use Rattle.std.proofs.Common.{◌≡◌, true, false, set, slice_get, Some, sym, ap, ◌∙◌, subst}
use Rattle.std.proofs.lemmas.Bool.{true≢false}
use Rattle.normalise.proofs.Marking.{more_kept, more_set}
use Rattle.normalise.proofs.marks.Marked.mark.Goals as goal

pub returns-in_ok-push : goal.returns-in_ok-push
returns-in_ok-push c =
    let marks = c.args.self.now.marks in
    more_set c.args.self.now _ c.args.id.0
    (subst (λ n. slice_get marks n ≡ Some false) c.index-place.ensures (c.is_unset.ensures.0 c.if-is_unset.true))
    (c.put.ensures.after ∙ ap (λ n. set marks n true) c.index-place.ensures) c.in_ok-push.ensures.items

pub returns-else-is_unset : goal.returns-else-is_unset
returns-else-is_unset c =
    more_kept c.args.self.now c.args.id.0 (λ g. true≢false (sym (c.is_unset.ensures.1
    (subst (λ n. slice_get c.args.self.now.marks n ≡ Some false) (sym c.index-place.ensures) g)) ∙ c.if-is_unset.false))
