use Rattle.std.proofs.Common.{Bool, true, [], refl, subst, sym}
use Rattle.cli.specs.Filing.{IsBegunIn, IsRunOn}
use Rattle.telling.proofs.Told.{progress_behind}
use Rattle.speech.specs.declared.session_service.SessionService.{SessionService}
use Rattle.cli.proofs.Filed.{kept_on, run_on}
use Rattle.cli.proofs.slicing.run_slices.Goals as goal

pub loop-end-init : goal.loop-end-init
loop-end-init g c = record {
  limits = refl;
  run_on = IsRunOn.unmoved;
  kept = record { prefixes = refl; bytes = refl; most_bytes = refl; version = refl };
  progress = ([], refl);
}

pub returns-then-not-run_slice-clause-begun : goal.returns-then-not-run_slice-clause-begun
returns-then-not-run_slice-clause-begun g c =
    let old = c.args.service.now in
    let is = c.loop-end.invariant in
    let new : SessionService = record { alloc = c.loop-end.service.alloc; session = c.run_slice.new.session; limits = c.loop-end.service.limits } in
    let P : Bool → Type 0 = λ slices. IsBegunIn slices old new in
    subst P (sym c.if-not-slices.false) (is.limits, run_on old.limits new.limits old.session c.loop-end.service.session c.run_slice.new.session c.loop-end.end is.limits is.run_on c.loop-end-test.true c.run_slice.ensures.call c.run_slice.ensures.session)

pub loop-end-preserved : goal.loop-end-preserved
loop-end-preserved g c =
    let old = c.args.service.now in
    let is = c.loop-end.invariant in
    record {
      limits = is.limits;
      run_on = run_on old.limits c.loop-end.service.limits old.session c.loop-end.service.session c.run_slice.new.session c.loop-end.end is.limits is.run_on c.loop-end-test.true c.run_slice.ensures.call c.run_slice.ensures.session;
      kept = kept_on old.session c.loop-end.service.session c.run_slice.new.session c.loop-end.end is.kept c.run_slice.ensures.call;
      progress = progress_behind true _ _ _ is.progress c.tell_drawn.ensures.progress;
    }
