use Rattle.std.proofs.Common.{string_bytes}
use Rattle.axioms.proofs.Clones.{same_views}
use Rattle.axioms.proofs.copies.copied_names.Goals as goal

pub returns : goal.returns
returns c = same_views string_bytes c.args.names.now.keys c.in_ok-copy.field-0.keys c.in_ok-copy.ensures
