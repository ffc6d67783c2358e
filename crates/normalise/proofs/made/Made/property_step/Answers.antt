use Rattle.std.proofs.Common.{length, refl}
use Rattle.std.proofs.lemmas.List.{length-map}
use Rattle.axioms.specs.View.{prop_numbers}
use Rattle.normal_forms.specs.Forms.{N5}
use Rattle.normalise.proofs.Giving.{circle_adds}
use Rattle.normalise.proofs.made.Made.property_step.Goals as goal

pub returns : goal.returns
returns c = circle_adds c.args.origin N5 (prop_numbers c.args.props.now) (length c.args.props.now) c.args.k c.next_in_circle.result c.prop_at-this.result.0 c.prop_at-next.result.0 (length-map c.args.props.now (λ e. e.0)) c.prop_at-this.ensures c.prop_at-next.ensures c.next_in_circle.ensures.next (c.in_ok-add.ensures.forms (N5 c.prop_at-this.result.0 c.prop_at-next.result.0) refl)
