use Rattle.std.proofs.Common.{◌^◌, List, sym, subst}
use Rattle.std.specs.List.{All}
use Rattle.normal_forms.specs.Properties.{IsPropertyFormOf}
use Rattle.normal_forms.specs.declared.forms.Form.{Form}
use Rattle.engine_tests.proofs.paths.problem.Goals as goal

pub returns : goal.returns
returns c = subst (λ (forms : List Form). All (IsPropertyFormOf 4 (2 ^ 32)) forms) (sym c.in_ok-problem.ensures.forms) c.in_ok-forms.ensures
