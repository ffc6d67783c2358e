use Rattle.std.proofs.Common.{ℕ, ap, ◌∙◌}
use Rattle.number_sets.specs.Search.{Search, search_of, with_starts}
use Rattle.answer_texts.proofs.Reaching.{property_followed}
use Rattle.interpretation_spec.specs.NumberedInterpretation.{targets_of}
use Rattle.answer_texts.proofs.reach.follow.Goals as goal

pub loop-number-preserved : goal.loop-number-preserved
loop-number-preserved c =
    let i = c.args.interpretation.now in
    let n = c.loop-number.number in
    c.in_ok-add_all.ensures
    ∙ ap (with_starts (λ x. x) (search_of c.loop-number.search)) c.targets_at.ensures
    ∙ ap (λ (f : Search ℕ). with_starts (λ x. x) f (targets_of i n c.args.element)) c.loop-number.invariant
    ∙ property_followed i c.args.element n (search_of c.args.search.now)
