-- Two certificates with individuals that are one are acceptable.
use Rattle.std.proofs.Common.{zero, suc, ◌<◌, ◌≤◌, List, [], ◌∷◌, take, Some, None, All, refl, subst, arith, ◌^◌, inr}
use Rattle.std.specs.Fmt.{digits}
use Rattle.std.proofs.lemmas.Option.{none-some, same_Some}
use Rattle.std.proofs.lemmas.List.Elements.{All-nil, All-from_recursion}
use Rattle.cert_check.proofs.Places.{All-from_test}
use Rattle.axioms.specs.Examples.{same_and_different, denied_by_way_of_same}
use Rattle.certificate.specs.Certificate.{Individual, Sub, Edge, Same, Line, Certificate}
use Rattle.certificate.specs.declared.format.Format.TheVariants.{One}
use Rattle.certificate.specs.declared.line.Rule.TheVariants.{K12, K16, K17, K19, K20}
use Rattle.certificate.specs.Writability.{certificate_numbers, IsLineOf, HasText}
use Rattle.cert_check.specs.Derivation.{IsDerived, IsDerivation}
use Rattle.cert_check.specs.Acceptance.{of_individual}
use Rattle.cert_check.specs.Examples.{SameAndDifferentIsAccepted, DeniedIsAccepted}

-- ---- one individual, and two

abbrev same_lines : List Line
same_lines =
    record { conclusion = Same 0 1; rule = K17; axiom' = Some 1; premises = [] }
    ∷ record { conclusion = Sub (Individual 0) 1; rule = K20; axiom' = Some 2; premises = 1 ∷ [] }
    ∷ []

same_derivation : IsDerivation same_and_different same_lines
same_derivation zero line g = subst (IsDerived same_and_different (take 0 same_lines)) (same_Some _ line g) (record { within = record { conclusion = omega arith; axiom' = omega arith }; premises = []; premises_at = refl; follows = (0, 1, λ e. omega arith, refl, refl) })
same_derivation (suc zero) line g = subst (IsDerived same_and_different (take 1 same_lines)) (same_Some _ line g) (record { within = record { conclusion = omega arith; axiom' = omega arith }; premises = Same 0 1 ∷ []; premises_at = refl; follows = ((1, 0, λ e. omega arith, refl, refl), refl, refl) })
same_derivation (suc (suc n)) line g = absurd (none-some line g)

abbrev same_certificate : Certificate
same_certificate = record { lines = same_lines; listed = None }

same_text : HasText same_and_different One same_certificate
same_text = record {
  lines = All-from_recursion (IsLineOf same_and_different) same_lines (record { conclusion = omega arith; axiom' = omega arith }, (record { conclusion = omega arith; axiom' = omega arith }, tt));
  premises = All-from_recursion (λ line. All (λ n. (1 ≤ n) × (n < 2 ^ 64)) line.premises) same_lines (All-nil (λ n. (1 ≤ n) × (n < 2 ^ 64)), (All-from_recursion (λ n. (1 ≤ n) × (n < 2 ^ 64)) (1 ∷ []) (omega arith, tt), tt));
  numbers = All-from_test (2 ^ 32) (certificate_numbers same_certificate) refl;
  listed = tt;
  written = tt;
}

pub same_is_accepted : SameAndDifferentIsAccepted
unfolding digits
same_is_accepted = record {
  certificate = same_certificate;
  text_is = (One, record { has_text = same_text; spelled = refl });
  derivation = same_derivation;
  shows = record { subject = Individual 0; top = of_individual; line = (1, _, refl, refl); taxonomy_is = refl; instances_is = refl };
}

-- ---- a pair that is denied

abbrev denied_lines : List Line
denied_lines =
    record { conclusion = Edge (Individual 2) 0 (Individual 0); rule = K16; axiom' = Some 2; premises = [] }
    ∷ record { conclusion = Same 1 0; rule = K17; axiom' = Some 1; premises = [] }
    ∷ record { conclusion = Edge (Individual 2) 0 (Individual 1); rule = K19; axiom' = None; premises = 2 ∷ 1 ∷ [] }
    ∷ record { conclusion = Edge (Individual 2) 1 (Individual 1); rule = K12; axiom' = Some 3; premises = 3 ∷ [] }
    ∷ record { conclusion = Sub (Individual 2) 1; rule = K20; axiom' = Some 4; premises = 4 ∷ [] }
    ∷ []

denied_derivation : IsDerivation denied_by_way_of_same denied_lines
denied_derivation zero line g = subst (IsDerived denied_by_way_of_same (take 0 denied_lines)) (same_Some _ line g) (record { within = record { conclusion = omega arith; axiom' = omega arith }; premises = []; premises_at = refl; follows = (refl, refl, refl) })
denied_derivation (suc zero) line g = subst (IsDerived denied_by_way_of_same (take 1 denied_lines)) (same_Some _ line g) (record { within = record { conclusion = omega arith; axiom' = omega arith }; premises = []; premises_at = refl; follows = (1, 0, λ e. omega arith, refl, refl) })
denied_derivation (suc (suc zero)) line g = subst (IsDerived denied_by_way_of_same (take 2 denied_lines)) (same_Some _ line g) (record { within = record { conclusion = omega arith; axiom' = tt }; premises = Same 1 0 ∷ Edge (Individual 2) 0 (Individual 0) ∷ []; premises_at = refl; follows = (refl, inr (refl, refl, refl)) })
denied_derivation (suc (suc (suc zero))) line g = subst (IsDerived denied_by_way_of_same (take 3 denied_lines)) (same_Some _ line g) (record { within = record { conclusion = omega arith; axiom' = omega arith }; premises = Edge (Individual 2) 0 (Individual 1) ∷ []; premises_at = refl; follows = (refl, refl, refl, refl) })
denied_derivation (suc (suc (suc (suc zero)))) line g = subst (IsDerived denied_by_way_of_same (take 4 denied_lines)) (same_Some _ line g) (record { within = record { conclusion = omega arith; axiom' = omega arith }; premises = Edge (Individual 2) 1 (Individual 1) ∷ []; premises_at = refl; follows = (refl, refl, refl, refl, refl) })
denied_derivation (suc (suc (suc (suc (suc n))))) line g = absurd (none-some line g)

abbrev denied_certificate : Certificate
denied_certificate = record { lines = denied_lines; listed = None }

denied_text : HasText denied_by_way_of_same One denied_certificate
denied_text = record {
  lines = All-from_recursion (IsLineOf denied_by_way_of_same) denied_lines (record { conclusion = omega arith; axiom' = omega arith }, (record { conclusion = omega arith; axiom' = omega arith }, (record { conclusion = omega arith; axiom' = tt }, (record { conclusion = omega arith; axiom' = omega arith }, (record { conclusion = omega arith; axiom' = omega arith }, tt)))));
  premises = All-from_recursion (λ line. All (λ n. (1 ≤ n) × (n < 2 ^ 64)) line.premises) denied_lines (All-nil (λ n. (1 ≤ n) × (n < 2 ^ 64)), (All-nil (λ n. (1 ≤ n) × (n < 2 ^ 64)), (All-from_recursion (λ n. (1 ≤ n) × (n < 2 ^ 64)) (2 ∷ 1 ∷ []) (omega arith, (omega arith, tt)), (All-from_recursion (λ n. (1 ≤ n) × (n < 2 ^ 64)) (3 ∷ []) (omega arith, tt), (All-from_recursion (λ n. (1 ≤ n) × (n < 2 ^ 64)) (4 ∷ []) (omega arith, tt), tt)))));
  numbers = All-from_test (2 ^ 32) (certificate_numbers denied_certificate) refl;
  listed = tt;
  written = tt;
}

pub denied_is_accepted : DeniedIsAccepted
unfolding digits
denied_is_accepted = record {
  certificate = denied_certificate;
  text_is = (One, record { has_text = denied_text; spelled = refl });
  derivation = denied_derivation;
  shows = record { subject = Individual 2; top = of_individual; line = (4, _, refl, refl); taxonomy_is = refl; instances_is = refl };
}
