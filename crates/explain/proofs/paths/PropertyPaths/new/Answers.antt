use Rattle.std.proofs.Common.{◌^◌, inl}
use Rattle.explain.proofs.WalkingUp.{leads_within, none_kept}
use Rattle.explain.proofs.paths.PropertyPaths.new.Goals as goal

pub invariant_of-result : goal.invariant_of-result
invariant_of-result c =
    let forms = c.args.problem.now.forms in record {
      few = c.requires.numbers;
      within = leads_within c.args.properties (2 ^ 32) forms c.requires.forms;
      leads = inl c.new-2.ensures;
      kept = none_kept forms c.new-3.result c.new-4.result c.new-3.ensures.empty;
    }
