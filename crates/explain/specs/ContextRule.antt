-- The rules by which contexts lie in classes.
use Rattle.std.specs.Prelude.{◌==◌, if◌then◌else◌}
use Rattle.certificate.specs.declared.line.Rule.{Rule}
use Rattle.certificate.specs.declared.line.Rule.TheVariants.{K1, K2}
use Rattle.facts.specs.declared.contexts.Fact.{Fact}
use Rattle.facts.specs.declared.contexts.Fact.TheVariants.{In, Edge}
use Rattle.normal_forms.specs.declared.forms.Class2.TheVariants.{Expr, Partial}

-- in owl:Thing, or an expression in itself
abbrev pub context_rule : Fact → Rule
context_rule (In (Expr e) x) = if e.0 == 0 then K2 else K1
context_rule (In (Partial n) x) = K1
context_rule (Edge x r y) = K1
