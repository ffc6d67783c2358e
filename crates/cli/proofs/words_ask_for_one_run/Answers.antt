use Rattle.cli.proofs.FilesAccepted.{words_check, words_classify}
use Rattle.cli.proofs.InferredRuns.{words_infer}
use Rattle.cli.proofs.RestrictedRuns.{words_restrict}
use Rattle.cli.proofs.VersionRuns.{words_version}
use Rattle.command_line.proofs.VersionWords.{version_word}
use Rattle.cli.proofs.words_ask_for_one_run.Goals as goal

pub returns : goal.returns
returns c =
    record { check = words_check; classify = words_classify; restrict = words_restrict; infer = words_infer; version = words_version; version_word = version_word }
