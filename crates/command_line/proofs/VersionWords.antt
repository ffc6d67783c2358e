-- Words that ask for the version.
use Rattle.std.proofs.Common.{[], ◌∷◌, refl}
use Rattle.std.specs.Prelude.{codes}
use Rattle.clap.proofs.OnLiterals.{clap_on_literals}
use Rattle.command_line.specs.CommandLine.{AskForVersion}

-- the option alone, in full and by its letter
pub version_word : AskForVersion (codes "elc" ∷ codes "--version" ∷ [])
unfolding clap_on_literals
version_word = refl

pub version_letter : AskForVersion (codes "elc" ∷ codes "-V" ∷ [])
unfolding clap_on_literals
version_letter = refl
