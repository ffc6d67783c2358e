use Rattle.std.proofs.Common.{refl}
use Rattle.cli.proofs.Filed.{IsOver, conversation_over}
use Rattle.telling.proofs.Told.{untold}
use Rattle.telling.specs.Devices.{seen}
use Rattle.source_lines.specs.Sources.{source_state}
use Rattle.cli.proofs.filing.converse_over_files.Goals as goal

pub returns : goal.returns
returns g c =
    let G = g.F.Files in
    let S = g.E.Sink in
    let first = c.args.service.now in
    let new = c.converse.new.service in
    let known = G.is_known first.files.now in
    let is : IsOver G S known first.told first.document first first = record { known_is = refl; document_is = refl; told_is = refl; files_are = refl; progress = untold first.told (seen S first.err.now); err_is = refl } in
    let both = conversation_over G S known first.told first.document first new (source_state g.S.Source c.args.source.now) (source_state g.S.Source c.converse.new.source)
    (seen g.O.Sink c.args.sink.now) (seen g.O.Sink c.converse.new.sink) c.converse.result is c.converse.ensures in
    record { spoken = both.0; files = both.1.files_are; progress = both.1.progress; err = both.1.err_is }
