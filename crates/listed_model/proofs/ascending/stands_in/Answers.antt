use Rattle.std.proofs.Common.{◌∙◌}
use Rattle.listed_model.proofs.Members.{found_holds}
use Rattle.listed_model.proofs.ascending.stands_in.Goals as goal

pub returns : goal.returns
returns c = c.is_ok.ensures.value ∙ found_holds c.args.list.now c.args.number c.binary_search.result c.requires c.binary_search.ensures.position
