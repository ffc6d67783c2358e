use Rattle.std.proofs.Common.{Contains, subst}
use Rattle.facts.specs.Closure.{unsatisfiable, Concludes}
use Rattle.inference.proofs.Lists.{one_value}
use Rattle.inference.proofs.Growth.{grows_trans}
use Rattle.inference.proofs.Drawing.{at_still, all_still, draws}
use Rattle.inference.proofs.rules.Rules.draw.Goals as goal

pub add-requires-clause-birth : goal.add-requires-clause-birth
add-requires-clause-birth c =
    (c.args.older.facts.now, at_still _ _ c.draw_forms.ensures.grows.facts c.args.older.numbers.now c.args.older.facts.now c.requires.older, unsatisfiable ((c.carried_back.ensures c.in-Some.fact).0 c.in-Some.is))

pub returns-in_ok-add : goal.returns-in_ok-add
returns-in_ok-add c =
    let k = c.args.self.now.problem.now in
    let s = c.add.ensures.grows in
    draws (grows_trans c.draw_forms.ensures.grows s) (record {
      forms = all_still s (λ form. Concludes k form c.args.older.facts.now) k.forms c.in_ok-draw_forms.ensures.drawn;
      back = λ f carries. subst (Contains c.add.new.facts.facts) (one_value c.carried_back.result c.in-Some.fact f c.in-Some.is ((c.carried_back.ensures f).1 carries)) c.in_ok-add.ensures.drawn;
    })
