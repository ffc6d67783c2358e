use Rattle.profile.proofs.Versions.{first_in_second}
use Rattle.profile.proofs.first_version_is_in_second.Goals as goal

pub returns : goal.returns
returns c = first_in_second
