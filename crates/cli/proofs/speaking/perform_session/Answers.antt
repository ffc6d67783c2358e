use Rattle.std.proofs.Common.{◌∙◌, ap, inl, inr, refl, rules}
use Rattle.program.specs.Status.{code_of}
use Rattle.source_lines.specs.Sources.{source_state}
use Rattle.telling.specs.Messages.{IsDocumentText}
use Rattle.profile.specs.Messages.{status_of}
use Rattle.cli.proofs.Filed.{same_seen, spoken_over}
use Rattle.telling.proofs.Told.{progress_behind}
use Rattle.telling.proofs.Telling.{nothing_told, told}
use Rattle.telling.specs.Devices.{seen}
use Rattle.telling.specs.Printing.{outputs}
use Rattle.cli.specs.Filing.{Filed}
use Rattle.speech.specs.declared.session_service.SessionService.{SessionService}
use Rattle.cli.proofs.speaking.perform_session.Goals as goal

pub returns-in-Err : goal.returns-in-Err
returns-in-Err g c =
    let limits = c.args.run.now.reading.limits in
    let fault = c.in-Err.fault in
    let old = outputs g.O.Sink g.E.Sink c.args.out.now c.args.err.now in
    let new = outputs g.O.Sink g.E.Sink c.args.out.now c.tell.new.err in
    nothing_told c.args.run.now.progress old _ (inr (inl (record {
      fault = fault;
      refused = c.in-Err.ensures.refused;
      blames = c.in-Err.ensures.blames;
      unprinted = refl;
      told = told old.err new.err c.document_message.result (IsDocumentText c.args.run.now.reading.path.now limits.max_bytes fault) (status_of fault) c.tell.result c.document_message.ensures c.tell.ensures;
      files = record { kept = λ path. refl; unfailed = refl };
    })))

pub returns-in_default : goal.returns-in_default
returns-in_default g c = record {
  begun = outputs g.O.Sink g.E.Sink c.args.out.now c.tell_opened.new.sink;
  unprinted = refl;
  progress = c.tell_opened.ensures.progress;
  holds = inr (inr (record {
    session = c.in-Ok.session;
    opened = record { read = c.in-Ok.ensures.opened; limit = c.in-Ok.ensures.limit; version = c.in-Ok.ensures.version; unserved = c.in-Ok.ensures.unserved; session = c.well_formed-2.ensures.session };
    unprinted = refl;
    told = c.tell_out_of_memory.ensures;
    files = record { kept = λ path. refl; unfailed = refl };
  }));
}

pub returns : goal.returns
returns g c =
    let files = g.F.Files in
    let call = c.converse_over_files in
    let service : SessionService = record { alloc = c.args.run.now.reading.means.alloc; session = c.in-Ok.session; limits = c.args.run.now.reading.limits } in
    let first : Filed = record { service = service; content = files.content c.args.files.now; failed_writes = files.failed_writes c.args.files.now } in
    let before = source_state g.F.In.Source c.in-Ok-source_of.input in
    let after = source_state g.F.In.Source call.new.source in
    record {
      begun = outputs g.O.Sink g.E.Sink c.args.out.now call.new.service.err.now;
      unprinted = refl;
      progress = progress_behind c.args.run.now.progress _ _ _ c.tell_opened.ensures.progress call.ensures.progress;
      holds = inl (record {
        service = service;
        last = call.new.service.service.now;
        opened = record { read = c.in-Ok.ensures.opened; limit = c.in-Ok.ensures.limit; version = c.in-Ok.ensures.version; unserved = c.in-Ok.ensures.unserved; session = c.well_formed-2.ensures.session };
        limits_are = refl;
        before = before;
        after = after;
        input = c.in-Ok-source_of.ensures;
        ending = call.result;
        spoken = spoken_over files (files.is_known c.args.files.now) c.args.run.now.progress c.args.run.now.reading.path first call.new.service.service.now call.new.service.files.now _ before after
            (seen g.O.Sink c.args.out.now) (seen g.O.Sink call.new.sink) call.result (search rules) call.ensures.spoken;
        status_is = c.code.ensures ∙ ap code_of c.status.ensures;
        quiet = same_seen g.E.Sink _ call.new.service.err.now (search rules);
      });
    }
