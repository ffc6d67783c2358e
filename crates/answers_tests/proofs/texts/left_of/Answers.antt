use Rattle.std.proofs.Common.{length, subst, sym, ap, arith}
use Rattle.std.proofs.lemmas.List.{length-map}
use Rattle.axioms.specs.Examples.{one_subclass}
use Rattle.certificate.specs.View.{line_of}
use Rattle.cert_check.specs.Derivation.{IsDerivation}
use Rattle.answers_tests.proofs.Derivation.{derivation}
use Rattle.answers_tests.proofs.texts.left_of.Goals as goal

pub trimmed-requires-clause-derivation : goal.trimmed-requires-clause-derivation
trimmed-requires-clause-derivation c = (one_subclass, subst (IsDerivation one_subclass) (sym c.requires) derivation)

pub trimmed-requires-clause-there : goal.trimmed-requires-clause-there
trimmed-requires-clause-there c = omega (arith, length-map c.args.lines.now line_of, ap length c.requires)
