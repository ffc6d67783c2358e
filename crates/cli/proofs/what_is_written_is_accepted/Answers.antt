use Rattle.cli.proofs.WrittenAccepted.{read_documents_are_no_stop, written_is_accepted}
use Rattle.cli.proofs.what_is_written_is_accepted.Goals as goal

pub returns : goal.returns
returns c = record { accepted = written_is_accepted; read = read_documents_are_no_stop }
