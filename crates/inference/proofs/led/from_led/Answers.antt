use Rattle.std.proofs.Common.{◌≡◌, ◌↔◌, Some, List, subst}
use Rattle.facts.specs.declared.contexts.Fact.{Fact}
use Rattle.facts.specs.Closure.{Concludes}
use Rattle.inference.specs.Led.{IsLed}
use Rattle.inference.proofs.Lists.{one_element, two_elements}
use Rattle.inference.proofs.led.from_led.Goals as goal

pub returns-in-len1 : goal.returns-in-len1
returns-in-len1 c = λ k form f closed says.
    let P : List Fact → Type 0 = λ older. IsLed form older → (c.from_one_led.result ≡ Some f) ↔ Concludes k form older f in
    subst P (one_element c.args.older.now _ c.in-len1.len_at_least c.in-len1.len_below) (c.from_one_led.ensures k form f says)

pub returns-in-len2 : goal.returns-in-len2
returns-in-len2 c = λ k form f closed says.
    let P : List Fact → Type 0 = λ older. IsLed form older → (c.from_two_led.result ≡ Some f) ↔ Concludes k form older f in
    subst P (two_elements c.args.older.now _ _ c.in-len2.len_at_least c.in-len2.len_below) (c.from_two_led.ensures k form f closed says)
