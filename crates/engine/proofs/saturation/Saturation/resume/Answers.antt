use Rattle.std.proofs.lemmas.Result.{on_ok_weaker}
use Rattle.engine.proofs.Saturating.{has_more, is_saturated, still_sound}
use Rattle.engine.proofs.saturation.Saturation.resume.Goals as goal

pub returns-clause-saturates : goal.returns-clause-saturates
returns-clause-saturates c = rw (← c.self.view_is) (λ o h.
    let sound = still_sound o _ _ c.run-ended.new.self h c.run-ended.ensures.extends.problem c.run-ended.ensures.state in
    record {
      sound = sound;
      saturated = on_ok_weaker c.run-ended.result (λ done. is_saturated o c.self.inside.normal c.run-ended.new.self sound done c.well_formed-2.ensures.few) c.run-ended.ensures.done;
      limit = λ e. has_more o _ _ c.args.max_facts h (c.run-ended.ensures.limit e);
    })
