-- The texts of the code's lines and claims are those of the lines and claims of the definitions.
use Rattle.std.proofs.Common.{◌≡◌, ℕ, List, ◌++◌, map, refl, sym}
use Rattle.std.specs.Prelude.{codes}
use Rattle.std.specs.List.{flat_map}
use Rattle.std.proofs.lemmas.List.Folds.{flat_map-map}
use Rattle.certificate.specs.Certificate.{Line}
use Rattle.certificate.specs.declared.format.Format.{Format}
use Rattle.certificate.specs.declared.format.Format.TheVariants.{One, Two}
use Rattle.certificate.specs.Text.{rule_number, lettered_number, spaced_numbers, conclusion_text, axiom_text, line_text, line_feed, claim_text, written_premises, written}
use Rattle.certificate.specs.View.{claim_of}
use Rattle.certificate.specs.declared.listed.Claim.{Claim}

pub written_line_text : (format : Format) (n : ℕ) (line : Line) → conclusion_text line.conclusion ++ lettered_number (codes " K") (rule_number line.rule)
    ++ axiom_text line.axiom' ++ spaced_numbers (written_premises format n line.premises) ++ line_feed ≡ line_text (written format n line)
written_line_text One n line = refl
written_line_text Two n line = refl

pub seen_claims : (claims : List Claim) → flat_map (λ claim. claim_text (claim_of claim)) claims ≡ flat_map claim_text (map claim_of claims)
seen_claims claims = sym (flat_map-map claim_text claim_of claims)
