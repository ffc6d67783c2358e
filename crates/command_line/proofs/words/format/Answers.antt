use Rattle.command_line.proofs.words.format.Goals as goal

pub returns-in_err-number : goal.returns-in_err-number
returns-in_err-number c = rw c.from_residual.ensures (λ format is. c.in_err-number.ensures _ is)
