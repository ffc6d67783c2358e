use Rattle.normalise.proofs.Giving.{chain_once}
use Rattle.std.proofs.Common.{arith}
use Rattle.std.proofs.lemmas.List.{length-map}
use Rattle.axioms.specs.View.{prop_numbers}
use Rattle.std.proofs.lemmas.Option.{slice_get_within}
use Rattle.normal_forms.specs.Origins.{ChainGives}
use Rattle.normalise.proofs.Adding.{from_none, below_more, below_all}
use Rattle.normalise.proofs.FreshNames.{names_begun, names_more}
use Rattle.normalise.proofs.Giving.{take_first}
use Rattle.normalise.proofs.made.Made.chain.Goals as goal

pub loop-k-init : goal.loop-k-init
loop-k-init c = (λ l. take_first (prop_numbers c.args.steps.now) c.prop_at.result.0 c.prop_at.ensures, from_none c.args.self.now c.args.origin _ (λ g h. omega (arith, h.1, h.2.1)), names_begun c.args.self.now.steps (prop_numbers c.args.steps.now))

pub loop-k-preserved : goal.loop-k-preserved
loop-k-preserved c =
    (λ l. c.in_ok-shorter.ensures.starts (omega (arith, l, length-map c.args.steps.now (λ e. e.0))), below_more _ _ _ (chain_once (prop_numbers c.args.steps.now) c.args.whole.0) c.loop-k.invariant.1 c.in_ok-shorter.ensures.adds, names_more _ _ _ (prop_numbers c.args.steps.now) c.loop-k.k (omega arith) (omega (arith, length-map c.args.steps.now (λ e. e.0))) c.loop-k.invariant.2 c.in_ok-shorter.ensures.names)

pub returns-clause-forms : goal.returns-clause-forms
returns-clause-forms c = below_all c.args.origin (ChainGives (prop_numbers c.args.steps.now) c.args.whole.0) c.loop-k.k (λ n g h. omega (arith, slice_get_within (prop_numbers c.args.steps.now) n h.0 h.2, length-map c.args.steps.now (λ e. e.0), c.loop-k-test.false)) c.loop-k.invariant.1

pub returns-clause-names : goal.returns-clause-names
returns-clause-names c = c.loop-k.invariant.2.all (omega (arith, length-map c.args.steps.now (λ e. e.0), c.loop-k-test.false))
