use Rattle.normalise.proofs.Giving.{n10_first, next_once}
use Rattle.std.proofs.Common.{◌+◌, arith}
use Rattle.std.proofs.lemmas.List.{length-map}
use Rattle.axioms.specs.View.{ind_numbers}
use Rattle.std.proofs.lemmas.Option.{slice_get_within}
use Rattle.normal_forms.specs.Forms.{N10}
use Rattle.normal_forms.specs.Origins.{NextGives}
use Rattle.normalise.proofs.Adding.{below_none, below_more, below_all}
use Rattle.normalise.proofs.made.Made.same.Goals as goal

pub loop-k-init : goal.loop-k-init
loop-k-init c = below_none _ _ _

pub loop-k-preserved : goal.loop-k-preserved
loop-k-preserved c = below_more _ _ _ (next_once N10 n10_first (ind_numbers c.args.individuals.now) c.requires) c.loop-k.invariant c.in_ok-next_in_list.ensures

pub returns : goal.returns
returns c = below_all c.args.origin (NextGives N10 (ind_numbers c.args.individuals.now)) c.loop-k.k (λ n g h. omega (arith, slice_get_within (ind_numbers c.args.individuals.now) (n + 1) h.1 h.3, length-map c.args.individuals.now (λ e. e.0), c.loop-k-test.false)) c.loop-k.invariant
