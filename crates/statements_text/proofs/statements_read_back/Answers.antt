use Rattle.fs_parser.proofs.IriBytes.{name_run}
use Rattle.statements_text.proofs.Read.{are_read, reads}
use Rattle.statements_text.proofs.Spelled.{spelled}
use Rattle.statements_text.proofs.statements_read_back.Goals as goal

pub returns : goal.returns
returns c = record { spells = spelled; statements = are_read; names = name_run; reads = reads }
