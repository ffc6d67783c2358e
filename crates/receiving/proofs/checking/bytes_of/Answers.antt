use Rattle.receiving.proofs.Kept.{all_known}
use Rattle.receiving.proofs.checking.bytes_of.Goals as goal

pub returns-in-Ok-clause-known : goal.returns-in-Ok-clause-known
returns-in-Ok-clause-known g c = all_known (g.S.Source.left c.args.source.now) (g.S.Source.left c.read_all.new.source) c.in-Ok.bytes.items c.in-Ok.ensures.ok c.in-Ok.ensures.end
