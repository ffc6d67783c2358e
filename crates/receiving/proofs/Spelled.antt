-- The text of a certificate is not empty.
use Rattle.std.proofs.Common.{◌≡◌, ℕ, List, ◌++◌, Bool, true, false, sym, subst}
use Rattle.std.specs.Prelude.{codes}
use Rattle.certificate.specs.Text.{certificate_text, first_text, is_listed, lines_text, listed_text, line_feed}
use Rattle.certificate.specs.Certificate.{Certificate}
use Rattle.certificate.specs.declared.format.Format.{Format}
use Rattle.certificate.specs.declared.format.Format.TheVariants.{One, Two}
use Rattle.receiving.proofs.Stored.{IsSome}

pub some : (text given : List ℕ) → given ≡ text → IsSome text → IsSome given
some text given is h = let P : List ℕ → Type 0 = IsSome in subst P (sym is) h

begins : (format : Format) (is_consistent : Bool) (lines listed : List ℕ) → IsSome (first_text format is_consistent ++ lines ++ listed ++ codes "end" ++ line_feed)
begins One true lines listed = tt
begins One false lines listed = tt
begins Two true lines listed = tt
begins Two false lines listed = tt

pub spelled : (format : Format) (c : Certificate) → IsSome (certificate_text format c)
spelled format c = begins format (is_listed c.listed) (lines_text format 1 c.lines) (listed_text format c.listed)
