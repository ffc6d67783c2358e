use Rattle.std.proofs.Common.{refl, rules}
use Rattle.number_sets.proofs.Fours.{zero_from_fold, fold_zero}
use Rattle.number_sets.proofs.words.are_zero.Goals as goal

pub returns : goal.returns
returns c = (λ t. (zero_from_fold 0 c.args.words (search rules)).1, λ h. rw (fold_zero c.args.words h) refl)
