use Rattle.std.proofs.Common.{◌∙◌}
use Rattle.speech.proofs.Asking.{too_many}
use Rattle.speech.proofs.options.options_in.Goals as goal

pub returns-in_default-8 : goal.returns-in_default-8
returns-in_default-8 c = λ options e.
    let w = c.in_default in
    let is = rw w.is at c.words_in.ensures in
    too_many options w.field-0.now w.field-1.now w.field-2.now w.field-3.now (e ∙ is)
