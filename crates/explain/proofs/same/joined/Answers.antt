use Rattle.explain.proofs.SameLines.{joined_derived}
use Rattle.explain.proofs.same.joined.Goals as goal

pub returns-clause-derivation : goal.returns-clause-derivation
returns-clause-derivation g c o derivation =
    let (middle, before, behind) = c.requires.says in
    c.in_ok-number.ensures.derivation o derivation
    (joined_derived o c.args.derivation.now c.args.before c.args.behind c.args.first middle c.args.last derivation before behind)
