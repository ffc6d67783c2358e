use Rattle.std.proofs.Common.{◌∙◌, sym, inl, inr}
use Rattle.receiving.proofs.words.tell_unread.Goals as goal

pub returns-in-OutOfMemory : goal.returns-in-OutOfMemory
returns-in-OutOfMemory g c = inl (sym c.kind.ensures ∙ c.in-OutOfMemory.is, c.tell_out_of_memory.ensures)

pub returns-in_default : goal.returns-in_default
returns-in_default g c = inr ((λ e. c.in_default.not-OutOfMemory (c.kind.ensures ∙ e)), c.print.ensures)
