-- The seven lines of the certificate of SubClassOf(A B).
use Rattle.std.specs.Prelude.{ℕ, List, [], ◌∷◌, Some, None}
use Rattle.std.specs.declared.option.Option.{Option}
use Rattle.certificate.specs.Certificate.{Expression, Sub, Line}
use Rattle.certificate.specs.declared.line.Rule.{Rule}
use Rattle.certificate.specs.declared.line.Rule.TheVariants.{K1, K2, K4}

-- the expression e lies in the expression f, by the rule
abbrev pub sub_line : ℕ → ℕ → Rule → Option ℕ → List ℕ → Line
sub_line e f rule number premises = record { conclusion = Sub (Expression e) f; rule = rule; axiom' = number; premises = premises }

abbrev pub seven_lines : List Line
seven_lines =
    sub_line 0 0 K1 None []
    ∷ sub_line 1 1 K1 None []
    ∷ sub_line 2 2 K1 None []
    ∷ sub_line 2 0 K2 None []
    ∷ sub_line 2 3 K4 (Some 1) (3 ∷ [])
    ∷ sub_line 3 3 K1 None []
    ∷ sub_line 3 0 K2 None []
    ∷ []
