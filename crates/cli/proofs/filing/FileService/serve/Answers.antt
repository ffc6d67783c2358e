use Rattle.std.proofs.Common.{Bool, refl, subst}
use Rattle.cli.proofs.Filed.{part_told}
use Rattle.cli.specs.Filing.{IsBegunIn, is_run}
use Rattle.telling.proofs.Told.{progress_behind}
use Rattle.telling.specs.Devices.{seen}
use Rattle.telling.specs.Progress.{IsProgress}
use Rattle.cli.proofs.filing.FileService.serve.Goals as goal

pub returns-clause-served : goal.returns-clause-served
returns-clause-served g c =
    let P : Bool → Type 0 = λ slices. IsBegunIn slices c.args.self.now.service.now c.run_slices.new.service in
    record {
      begun = c.run_slices.new.service;
      slices = subst P c.is_told_run-slices.ensures c.run_slices.ensures.begun;
      served = c.answer-reply.ensures;
      content = refl;
      failed_writes = refl;
    }

pub returns-clause-progress : goal.returns-clause-progress
returns-clause-progress g c =
    let told = c.args.self.now.told in
    let old = seen g.E.Sink c.args.self.now.err.now in
    let new = seen g.E.Sink c.tell_drawn.new.sink in
    let P : Bool → Type 0 = λ slices. IsProgress slices old new in
    part_told told (is_run c.args.command) old new (subst P c.is_told_run-slices.ensures (progress_behind c.is_told_run-slices.result _ _ _ c.run_slices.ensures.progress c.tell_drawn.ensures.progress))
