-- The numbers of exit statuses.
use Rattle.std.specs.Prelude.{ℕ}
use Rattle.program.specs.declared.status.Status.{Status}
use Rattle.program.specs.declared.status.Status.TheVariants.{Done, Rejected, Usage, Refused, Memory, Limit, File}

abbrev pub code_of : Status → ℕ
code_of Done = 0
code_of Rejected = 1
code_of Usage = 2
code_of Refused = 3
code_of Memory = 4
code_of Limit = 5
code_of File = 6
