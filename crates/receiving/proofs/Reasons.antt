-- Texts that are printed piece by piece.
use Rattle.std.specs.Prelude.{codes}
use Rattle.std.proofs.Common.{◌≡◌, ℕ, List, ◌++◌, sym, subst}
use Rattle.telling.specs.Devices.{Device}
use Rattle.telling.specs.Printing.{IsPrinted}
use Rattle.receiving.specs.Messages.{reason_text, rejected_text}
use Rattle.axioms.specs.Ontology.{Ontology}
use Rattle.cert_check.specs.declared.verdict.Reason.{Reason}
use Rattle.program.specs.declared.status.Status.TheVariants as statuses

-- what is printed is the text of this reason
pub reason_printed : (o : Ontology) (reason is : Reason) (old new : Device) (answered : ℕ) → reason ≡ is → IsPrinted old new (rejected_text (reason_text o is)) statuses.Rejected answered → IsPrinted old new (rejected_text (reason_text o reason)) statuses.Rejected answered
reason_printed o reason is old new answered same printed = let P : Reason → Type 0 = λ r. IsPrinted old new (rejected_text (reason_text o r)) statuses.Rejected answered in subst P (sym same) printed

-- what is printed is the text of a reason by this name
pub named_printed : (word given name : List ℕ) (old new : Device) (answered : ℕ) → given ≡ name → IsPrinted old new (rejected_text (word ++ (given ++ codes ">"))) statuses.Rejected answered → IsPrinted old new (rejected_text (word ++ (name ++ codes ">"))) statuses.Rejected answered
named_printed word given name old new answered same printed = let P : List ℕ → Type 0 = λ n. IsPrinted old new (rejected_text (word ++ (n ++ codes ">"))) statuses.Rejected answered in subst P same printed
