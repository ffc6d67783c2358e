use Rattle.std.proofs.Common.{◌≡◌, ◌≤◌, length, arith}
use Rattle.session.proofs.AtEnd.{read}
use Rattle.telling.proofs.Told.{progress_behind}
use Rattle.session.proofs.classifying.classification_of.Goals as goal

pub returns-in-Ok-made_of-clause-classified : goal.returns-in-Ok-made_of-clause-classified
returns-in-Ok-made_of-clause-classified g c =
    let s = c.in-Ok.session in
    let run = c.in-Ok.ensures.run in
    let made = c.in-Ok-made_of.made in
    let is = c.in-Ok-made_of.ensures in
    let facts : made.summary.facts ≡ length s.saturation.state.facts = is.facts in
    let few : length s.saturation.state.facts ≤ c.args.limits.now.max_facts = c.in-Ok.ensures.within in
    record {
      ontology = s.ontology;
      reads = (read c.args.limits.now _ _ run).reads;
      well_formed = run.taken.well_formed;
      counts = is.counts;
      within = omega (arith, facts, few);
      texts_are = is.texts_are;
      acceptable = is.acceptable;
      right = is.right;
      written = is.written;
    }

pub returns-in-Ok-made_of-clause-progress : goal.returns-in-Ok-made_of-clause-progress
returns-in-Ok-made_of-clause-progress g c = progress_behind c.args.told _ _ _ c.run_telling.ensures.progress c.tell_made.ensures

pub returns-in-Err-made_of-clause-fault : goal.returns-in-Err-made_of-clause-fault
returns-in-Err-made_of-clause-fault g c = (c.in-Ok.session.ontology, read c.args.limits.now _ _ c.in-Ok.ensures.run)
