use Rattle.std.proofs.Common.{◌≡◌, ◌∙◌, sym, arith}
use Rattle.std.proofs.lemmas.Bool.Decides.{nat_tests}
use Rattle.std.proofs.lemmas.Option.{none-some}
use Rattle.inference.proofs.Differing.{later_same, none_later}
use Rattle.inference.proofs.Lists.{one_value}
use Rattle.inference.proofs.rules.Rules.has_same_later.Goals as goal

pub returns-in-Some-clause-yes : goal.returns-in-Some-clause-yes
returns-in-Some-clause-yes c = λ yes.
    let forms = c.args.self.now.problem.now.forms in
    let later = c.in-Some.later.now in
    later_same forms c.args.list.now c.args.last.now c.args.place later _ c.least.result c.requires.last c.requires.place (c.least.ensures.same forms c.args.self.now.grouped) (sym c.in-Some.ensures.value) (grind (arith, nat_tests, yes))

pub returns-in-Some-clause-no : goal.returns-in-Some-clause-no
returns-in-Some-clause-no c = λ no.
    let forms = c.args.self.now.problem.now.forms in
    let later = c.in-Some.later.now in
    none_later forms c.args.list.now c.args.last.now c.args.place _ c.least.result c.requires.last c.requires.place
    (record { same = c.least.ensures.same forms c.args.self.now.grouped; low = λ b same. c.least.ensures.low forms b c.args.self.now.grouped same })
    (λ m at. let same : m ≡ later = one_value _ m later at (sym c.in-Some.ensures.value) in grind (arith, nat_tests, no, same))

pub returns-in-None-clause-no : goal.returns-in-None-clause-no
returns-in-None-clause-no c = λ _.
    let forms = c.args.self.now.problem.now.forms in
    none_later forms c.args.list.now c.args.last.now c.args.place _ c.least.result c.requires.last c.requires.place
    (record { same = c.least.ensures.same forms c.args.self.now.grouped; low = λ b same. c.least.ensures.low forms b c.args.self.now.grouped same })
    (λ m at. absurd (none-some m (c.in-None.ensures.value ∙ at)))
