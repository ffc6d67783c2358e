use Rattle.std.proofs.Common.{◌≡◌, ℕ, ◌+◌, ◌*◌, ◌<◌, List, ◌∷◌, [], ◌++◌, w64, sym, ap, ◌∙◌, subst, arith}
use Rattle.std.specs.Int.{trailing_zeros}
use Rattle.interpretation_spec.specs.Members.{members_below}
use Rattle.interpretation_spec.proofs.SetMembers.{one_more, passes}
use Rattle.interpretation_spec.proofs.SetWords.{all_taken, before_lowest, lowest_member, lowest_taken, smaller}
use Rattle.interpretation_spec.proofs.set_members.push_word.Goals as goal

pub loop-left-smaller : goal.loop-left-smaller
loop-left-smaller c = smaller _ _ _ _ _ (passes c.args.set.now c.loop-left.found.items) c.loop-left.invariant.1 (omega arith) c.loop-left.auto.left-fits.fits

pub loop-left-preserved : goal.loop-left-preserved
loop-left-preserved c =
    let set = c.args.set.now in
    let found = c.loop-left.found.items in
    let taken = c.loop-left.invariant.1 in
    let some : 0 < c.loop-left.left = omega arith in
    let fits = c.loop-left.auto.left-fits.fits in
    let n : ℕ = 64 * c.args.word + trailing_zeros w64 c.loop-left.left in
    let over = passes set found in (
      trailing_zeros w64 c.loop-left.left + 1,
      lowest_taken _ _ _ _ _ over taken some fits (λ k. c.push.new.self.items ≡ members_below set k)
          (c.in_ok-push.ensures.items
          ∙ ap (λ (xs : List ℕ). xs ++ n ∷ []) (before_lowest _ _ _ _ _ over taken some fits)
          ∙ sym (one_more set n (lowest_member _ _ _ _ _ over taken some fits))),
    )

pub returns : goal.returns
returns c =
    let set = c.args.set.now in
    let found = c.loop-left.found.items in
    subst (λ n. found ≡ members_below set n) (omega arith) (all_taken _ _ _ _ _ (passes set found) c.loop-left.invariant.1 (omega arith))
