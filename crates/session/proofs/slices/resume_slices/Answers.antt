use Rattle.std.proofs.Common.{rules, ◌∙◌}
use Rattle.telling.proofs.Told.{progress_behind}
use Rattle.session.proofs.slices.resume_slices.Goals as goal

pub returns-then-end-max_facts-clause-progress : goal.returns-then-end-max_facts-clause-progress
returns-then-end-max_facts-clause-progress g c = progress_behind c.args.told _ _ _ c.loop-end.invariant.progress c.tell_drawn.ensures.progress

pub loop-end-preserved : goal.loop-end-preserved
loop-end-preserved g c =
    let first = c.loop-end.invariant.others in
    let second = c.resume-ended.ensures.others in
    record {
      ontology = c.resume-ended.ensures.ontology ∙ c.loop-end.invariant.ontology;
      others = record {
        prefixes = second.prefixes ∙ first.prefixes;
        bytes = second.bytes ∙ first.bytes;
        most_bytes = second.most_bytes ∙ first.most_bytes;
        version = second.version ∙ first.version;
      };
      within = search rules;
      progress = progress_behind c.args.told _ _ _ c.loop-end.invariant.progress c.tell_drawn.ensures.progress;
    }
