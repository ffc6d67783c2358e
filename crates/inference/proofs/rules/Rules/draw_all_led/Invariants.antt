use Rattle.std.proofs.Common.{take}
use Rattle.inference.specs.Derivations.{Grows}
use Rattle.inference.specs.Led.{AreLedDrawn}
use Rattle.inference.proofs.rules.Rules.draw_all_led.Given as goal

abbrev pub invariant-loop-form : goal.invariant-loop-form
invariant-loop-form l = record {
  grows : Grows l.self.problem.now l.self.max_facts l.fn.facts l.facts;
  drawn : AreLedDrawn l.self.problem.now l.older.facts.now l.facts.facts (take l.form-index l.listed);
}
