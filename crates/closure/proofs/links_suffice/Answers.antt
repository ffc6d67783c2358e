use Rattle.std.proofs.Common.{◌≡◌, true}
use Rattle.closure.proofs.Groups.{along_links}
use Rattle.closure.proofs.links_suffice.Goals as goal

pub returns : goal.returns
returns c = λ o asked has each a b. along_links o asked (λ n. has n ≡ true) each
