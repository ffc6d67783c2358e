use Rattle.std.proofs.Common.{◌∙◌, subst, IfSome}
use Rattle.explain.proofs.SameLines.{kept_says}
use Rattle.explain.specs.SameLines.{SaysSame}
use Rattle.explain.proofs.derivation.Derivation.same.Goals as goal

pub returns : goal.returns
returns g c =
    subst (λ lines. IfSome c.copied.result (λ n. SaysSame lines n c.args.first c.args.second)) c.self.view_is
    (kept_says (g.L.LineSink.lines c.self.inside.sink) c.self.inside.same c.args.first c.args.second c.key_of.result c.self.invariant c.key_of.ensures.first c.key_of.ensures.second c.copied.result
    (c.copied.ensures ∙ c.get.ensures.value))
