use Rattle.std.proofs.Common.{ℕ}
use Rattle.std.specs.Global.{Vec}
use Rattle.receiving.proofs.Certificates.{instances_unread, taxonomy_unread}
use Rattle.receiving.specs.declared.checking.Texts.{Texts}
use Rattle.source_lines.specs.Sources.{source_state}
use Rattle.receiving.proofs.checking.texts_of.Goals as goal

pub returns-in-Err-clause-read : goal.returns-in-Err-clause-read
returns-in-Err-clause-read g c =
    taxonomy_unread (Vec ℕ) Texts c.in-Err.fault (source_state g.T.Source c.args.taxonomy.now) (source_state g.T.Source c.bytes_of.new.source) (source_state g.I.Source c.args.instances.now) c.in-Err.ensures.read

pub returns-in-Err-bytes_of-clause-read : goal.returns-in-Err-bytes_of-clause-read
returns-in-Err-bytes_of-clause-read g c =
    instances_unread (Vec ℕ) Texts c.in-Err-bytes_of.fault (source_state g.T.Source c.args.taxonomy.now) (source_state g.T.Source c.bytes_of.new.source)
    (source_state g.I.Source c.args.instances.now) (source_state g.I.Source c.bytes_of-2.new.source) c.in-Ok.ensures.read c.in-Err-bytes_of.ensures.read
