-- What is told of faults, and the status that goes with it.
use Rattle.std.specs.Prelude.{◌≡◌, ◌++◌, ℕ, List, codes}
use Rattle.std.specs.Fmt.{decimal}
use Rattle.profile.specs.Messages.{fault_text}
use Rattle.profile.specs.declared.fault.DocumentFault.{DocumentFault}
use Rattle.profile.specs.declared.fault.DocumentFault.TheVariants.{TooLarge, Io, TooManyNames}

abbrev pub out_of_memory : List ℕ
out_of_memory = codes "out of memory\n"

abbrev pub cannot_write : (path : List ℕ) → List ℕ
cannot_write path = codes "cannot write " ++ (path ++ codes "\n")

abbrev pub cannot_read : (path : List ℕ) → List ℕ
cannot_read path = codes "cannot read " ++ (path ++ codes "\n")

abbrev pub more_bytes : ℕ → List ℕ
more_bytes most = codes "limit: more than " ++ (decimal most ++ codes " bytes\n")

-- the text is told of the fault of the document at the path: what is said of a limit or a file, or how the fault is printed
abbrev pub IsDocumentText : (path : List ℕ) → (most : ℕ) → DocumentFault → List ℕ → Type 0
IsDocumentText path most TooLarge text = text ≡ more_bytes most
IsDocumentText path most TooManyNames text = text ≡ codes "limit: more than 1000000 names\n"
IsDocumentText path most Io text = text ≡ cannot_read path
IsDocumentText path most fault text = text ≡ fault_text fault ++ codes "\n"
