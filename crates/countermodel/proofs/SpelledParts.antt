-- How the parts of a text are spelled.
use Rattle.std.proofs.Common.{◌≡◌, ℕ, List, ◌++◌, Some, true, append_assoc}
use Rattle.std.specs.Prelude.{codes}
use Rattle.std.specs.List.{flat_map, enumerate_from}
use Rattle.certificate.specs.Certificate.{Line, Listed}
use Rattle.certificate.specs.declared.format.Format.{Format}
use Rattle.certificate.specs.Text.{certificate_text, first_text, line_feed, lines_text, lettered_number, class_text, pairs_text, individual_text, claim_text}
use Rattle.certificate_text.specs.LineText.{text_to_domain}

regrouped : (h ls d cs ps is ks e f : List ℕ) → (((h ++ ls) ++ ((((d ++ cs) ++ ps) ++ is) ++ ks)) ++ e) ++ f ≡ (((((h ++ ls) ++ d) ++ cs) ++ ps) ++ is) ++ ks ++ (e ++ f)
regrouped h ls d cs ps is ks e f = simp append_assoc

-- the whole of them
pub in_parts : (format : Format) (lines : List Line) (l : Listed) → certificate_text format (record { lines = lines; listed = Some l })
    ≡ text_to_domain format lines l.domain ++ flat_map (class_text format) l.classes ++ flat_map (pairs_text format) l.pairs ++ flat_map individual_text (enumerate_from 0 l.individuals) ++ flat_map claim_text l.claims ++ codes "end\n"
in_parts format lines l =
    regrouped (first_text format true) (lines_text format 1 lines) (lettered_number (codes "domain ") l.domain ++ line_feed) (flat_map (class_text format) l.classes) (flat_map (pairs_text format) l.pairs)
    (flat_map individual_text (enumerate_from 0 l.individuals)) (flat_map claim_text l.claims) (codes "end") line_feed
