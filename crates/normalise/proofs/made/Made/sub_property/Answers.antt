use Rattle.std.proofs.Common.{refl, sym, ◌∙◌}
use Rattle.std.proofs.lemmas.List.{length-map}
use Rattle.axioms.specs.View.{prop_numbers}
use Rattle.normal_forms.specs.Forms.{N5}
use Rattle.std.proofs.Common.{arith}
use Rattle.normalise.proofs.FreshNames.{none_to_name}
use Rattle.normalise.proofs.Giving.{plain_gives, chain_gives}
use Rattle.normalise.proofs.made.Made.sub_property.Goals as goal

pub returns-clause-forms : goal.returns-clause-forms
returns-clause-forms c = chain_gives c.args.origin (prop_numbers c.args.steps.now) c.args.whole.0 (λ e. c.if-steps-eq1.false (sym (length-map c.args.steps.now (λ p. p.0)) ∙ e)) c.in_ok-chain.ensures.forms

pub returns-then-steps-eq1-clause-forms : goal.returns-then-steps-eq1-clause-forms
returns-then-steps-eq1-clause-forms c = plain_gives c.args.origin (prop_numbers c.args.steps.now) c.prop_at.result.0 c.args.whole.0 (length-map c.args.steps.now (λ p. p.0) ∙ c.if-steps-eq1.true) c.prop_at.ensures (c.in_ok-add.ensures.forms (N5 c.prop_at.result.0 c.args.whole.0) refl)

pub returns-then-steps-eq1-clause-names : goal.returns-then-steps-eq1-clause-names
returns-then-steps-eq1-clause-names c = none_to_name c.args.self.now.steps c.add.new.self.steps (prop_numbers c.args.steps.now) (omega (arith, length-map c.args.steps.now (λ p. p.0), c.if-steps-eq1.true)) c.in_ok-add.ensures.steps
