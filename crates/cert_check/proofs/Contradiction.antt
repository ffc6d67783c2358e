-- The certificate of a contradiction by an individual is acceptable.
use Rattle.std.proofs.Common.{zero, suc, ◌<◌, ◌≤◌, List, [], ◌∷◌, take, Some, None, All, refl, subst, arith, ◌^◌}
use Rattle.std.specs.Fmt.{digits}
use Rattle.std.proofs.lemmas.Option.{none-some, same_Some}
use Rattle.std.proofs.lemmas.List.Elements.{All-nil, All-from_recursion}
use Rattle.cert_check.proofs.Places.{All-from_test}
use Rattle.certificate.specs.Certificate.{Individual, Sub, Line, Certificate}
use Rattle.certificate.specs.declared.format.Format.TheVariants.{One}
use Rattle.certificate.specs.declared.line.Rule.TheVariants.{K7, K15}
use Rattle.certificate.specs.Writability.{certificate_numbers, IsLineOf, HasText}
use Rattle.cert_check.specs.Derivation.{IsDerived, IsDerivation}
use Rattle.cert_check.specs.Acceptance.{of_individual}
use Rattle.cert_check.specs.Examples.{ContradictionIsAccepted}
use Rattle.axioms.specs.Examples.{contradiction}

abbrev lines : List Line
lines =
    record { conclusion = Sub (Individual 0) 2; rule = K15; axiom' = Some 2; premises = [] }
    ∷ record { conclusion = Sub (Individual 0) 3; rule = K15; axiom' = Some 3; premises = [] }
    ∷ record { conclusion = Sub (Individual 0) 1; rule = K7; axiom' = Some 1; premises = 1 ∷ 2 ∷ [] }
    ∷ []

derivation : IsDerivation contradiction lines
derivation zero line g = subst (IsDerived contradiction (take 0 lines)) (same_Some _ line g) (record { within = record { conclusion = omega arith; axiom' = omega arith }; premises = []; premises_at = refl; follows = (refl, refl) })
derivation (suc zero) line g = subst (IsDerived contradiction (take 1 lines)) (same_Some _ line g) (record { within = record { conclusion = omega arith; axiom' = omega arith }; premises = []; premises_at = refl; follows = (refl, refl) })
derivation (suc (suc zero)) line g = subst (IsDerived contradiction (take 2 lines)) (same_Some _ line g) (record { within = record { conclusion = omega arith; axiom' = omega arith }; premises = Sub (Individual 0) 2 ∷ Sub (Individual 0) 3 ∷ []; premises_at = refl; follows = (refl, refl, (0, 1, λ e. omega arith, refl, refl), refl) })
derivation (suc (suc (suc n))) line g = absurd (none-some line g)

abbrev certificate : Certificate
certificate = record { lines = lines; listed = None }

has_text : HasText contradiction One certificate
has_text = record {
  lines = All-from_recursion (IsLineOf contradiction) lines (
    record { conclusion = omega arith; axiom' = omega arith },
    (record { conclusion = omega arith; axiom' = omega arith }, (record { conclusion = omega arith; axiom' = omega arith }, tt)),
  );
  premises = All-from_recursion (λ line. All (λ n. (1 ≤ n) × (n < 2 ^ 64)) line.premises) lines (
    All-nil (λ n. (1 ≤ n) × (n < 2 ^ 64)),
    (All-nil (λ n. (1 ≤ n) × (n < 2 ^ 64)), (All-from_recursion (λ n. (1 ≤ n) × (n < 2 ^ 64)) (1 ∷ 2 ∷ []) (omega arith, (omega arith, tt)), tt)),
  );
  numbers = All-from_test (2 ^ 32) (certificate_numbers certificate) refl;
  listed = tt;
  written = tt;
}

pub contradiction_is_accepted : ContradictionIsAccepted
unfolding digits
contradiction_is_accepted = record {
  certificate = certificate;
  text_is = (One, record { has_text = has_text; spelled = refl });
  derivation = derivation;
  shows = record { subject = Individual 0; top = of_individual; line = (2, _, refl, refl); taxonomy_is = refl; instances_is = refl };
}
