use Rattle.std.proofs.Common.{refl}
use Rattle.axioms.specs.View.{ind_numbers}
use Rattle.normal_forms.specs.Forms.{N10}
use Rattle.normalise.proofs.Giving.{next_adds}
use Rattle.normalise.proofs.made.Made.next_in_list.Goals as goal

pub returns : goal.returns
returns c = next_adds c.args.origin N10 (ind_numbers c.args.individuals.now) c.args.k c.individual_at-this.result.0 c.individual_at-next.result.0 c.individual_at-this.ensures c.individual_at-next.ensures (c.in_ok-add.ensures.forms (N10 c.individual_at-this.result.0 c.individual_at-next.result.0) refl)
