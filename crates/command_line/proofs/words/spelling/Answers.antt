use Rattle.command_line.proofs.words.spelling.Goals as goal

pub returns-in_err-flag : goal.returns-in_err-flag
returns-in_err-flag c = rw c.from_residual.ensures (λ spelling is. c.in_err-flag.ensures _ is)
