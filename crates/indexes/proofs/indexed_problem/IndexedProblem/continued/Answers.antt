use Rattle.std.proofs.Common.{◌≡◌, ◌∙◌, ℕ, List, length, take, ap, ap₂, sym}
use Rattle.facts.specs.Closure.{Problem}
use Rattle.normal_forms.specs.declared.forms.Form.{Form}
use Rattle.indexes.proofs.Led.{led_again}
use Rattle.indexes.proofs.indexed_problem.IndexedProblem.continued.Goals as goal

-- the first of the forms are those of the value
begins : (own : Problem) (mine all forms : List Form) (from : ℕ) → mine ≡ own.forms → take (length own.forms) all ≡ own.forms → from ≡ length mine → forms ≡ all → mine ≡ take from forms
begins own mine all forms from m b d e = m ∙ sym b ∙ ap₂ (λ (n : ℕ) (fs : List Form). take n fs) (ap length (sym m) ∙ sym d) (sym e)

pub invariant_of-result : goal.invariant_of-result
invariant_of-result c =
    let first = begins c.args.self.now c.self.inside.forms c.args.forms.now c.in_ok-forms.forms c.len-from.result (ap (λ (p : Problem). p.forms) c.self.view_is) c.requires c.len-from.ensures c.in_ok-forms.ensures in
    record {
      listed = c.in_ok-disjoint.ensures;
      index = c.in_ok-index.ensures.index;
      alone = led_again _ c.self.inside.forms c.in_ok-forms.forms c.len-from.result c.self.inside.index.alone c.in_ok-index.index.alone c.self.inside.alone c.in_ok-alone.alone first c.self.invariant.alone c.in_ok-index.ensures.shared.alone c.in_ok-alone.ensures.shared c.in_ok-alone.ensures.end c.in_ok-alone.ensures.changed;
      fillers = led_again _ c.self.inside.forms c.in_ok-forms.forms c.len-from.result c.self.inside.index.fillers c.in_ok-index.index.fillers c.self.inside.fillers c.in_ok-fillers.fillers first c.self.invariant.fillers c.in_ok-index.ensures.shared.fillers c.in_ok-fillers.ensures.shared c.in_ok-fillers.ensures.end c.in_ok-fillers.ensures.changed;
    }
