use Rattle.std.proofs.Common.{◌∷◌, [], refl}
use Rattle.explain.proofs.Used.{used_by_line}
use Rattle.explain.proofs.Walking.{last_says}
use Rattle.explain.proofs.line.followed.Goals as goal

pub returns-clause-says : goal.returns-clause-says
returns-clause-says g c = last_says c.args.derivation.now c.add.new.self _ c.in_ok-number.number c.in_ok-number.ensures.added c.in_ok-number.ensures.number

pub returns-clause-used : goal.returns-clause-used
returns-clause-used g c =
    used_by_line c.args.derivation.now c.add.new.self _ (c.in_ok-number.number ∷ []) c.in_ok-number.number c.in_ok-number.ensures.added c.in_ok-number.ensures.number refl
