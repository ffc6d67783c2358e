use Rattle.std.proofs.Common.{◌≡◌, ℕ, List, [], length, slice_get, sym, ap, ◌∙◌, subst, arith}
use Rattle.std.proofs.lemmas.List.{length-replicate}
use Rattle.number_sets.specs.Pieces.{list_at}
use Rattle.number_sets.proofs.Members.{list_at_none}
use Rattle.indexes.specs.declared.keys.Key.TheVariants.{Whole}
use Rattle.indexes.specs.FormsUnderKeys.{numbers_under}
use Rattle.indexes.specs.Keys.{by_restricted}
use Rattle.inference.specs.Marks.{AreRestrictionsWithin}
use Rattle.inference.proofs.fillers.all_restrictions.Goals as goal

pub loop-number-init : goal.loop-number-init
loop-number-init c =
    let is = c.in_ok-lists.ensures in
    let end = c.restrictions_end.result in record {
      within = subst (AreRestrictionsWithin c.args.forms.now) (sym (ap length is ∙ length-replicate {A = List ℕ} end [])) c.restrictions_end.ensures;
      before = λ r. ap (λ (l : List (List ℕ)). list_at l r) is ∙ list_at_none end r;
    }

pub loop-number-preserved : goal.loop-number-preserved
loop-number-preserved c = record {
  within = subst (AreRestrictionsWithin c.args.forms.now) (sym c.in_ok-list_restriction.ensures.long) c.loop-number.invariant.within;
  before = c.in_ok-list_restriction.ensures.listed;
}

pub returns : goal.returns
returns c = λ r.
    let forms = c.args.forms.now in
    let end : c.loop-number.number ≡ length forms = omega (arith, c.loop-number-test.false, c.len-number-end.ensures, c.loop-number.auto.number-end) in
    ap (λ (l : List (List ℕ)). list_at l r) c.in_ok-packed.ensures ∙ c.loop-number.invariant.before r ∙ ap (numbers_under by_restricted (slice_get forms) (Whole r)) end
