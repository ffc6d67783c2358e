use Rattle.std.proofs.Common.{◌≡◌, ℕ, ◌*◌, ◌∙◌, subst, arith}
use Rattle.std.specs.Prelude.{slice_index}
use Rattle.interpretation_spec.specs.Members.{members_below}
use Rattle.interpretation_spec.proofs.SetMembers.{all_below, passes}
use Rattle.interpretation_spec.proofs.SetWords.{blank}
use Rattle.interpretation_spec.proofs.set_members.members.Goals as goal
use Rattle.interpretation_spec.proofs.set_members.members.Goals.{then-words-word-ne0+in_ok-push_word, else-words-word-ne0}

pub loop-word-preserved : goal.loop-word-preserved
loop-word-preserved c =
    let set = c.args.set.now in
    let found = c.loop-word.found.items in
    let word : ℕ = c.loop-word.word in
    elim c.if-words-word-ne0.branch [
      | then-words-word-ne0+in_ok-push_word w ↦ rw w.found-is w.in_ok-push_word.ensures
      | else-words-word-ne0 w ↦ rw w.found-is
          (subst (λ n. found ≡ members_below set n) (omega arith)
          (blank set (λ n. found ≡ members_below set n) (64 * word) (slice_index c.words-words.result.now word) (passes set found) (c.words-words.ensures.bits word) w.if-words-word-ne0.false c.loop-word.invariant))
    ]

pub returns : goal.returns
returns c = c.loop-word.invariant ∙ all_below c.args.set.now (64 * c.loop-word.word) (omega arith)
