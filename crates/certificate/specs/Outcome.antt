-- What a call answers, beside what it reads.
use Rattle.std.specs.Prelude.{◌≡◌, ℕ, List, Option, Some, None, Result, Ok, Err}
use Rattle.axioms.specs.Ontology.{Ontology}
use Rattle.certificate.specs.Prefixes.{IsNoText}
use Rattle.certificate.specs.declared.fault.ReadFault.{ReadFault}
use Rattle.certificate.specs.declared.fault.ReadFault.TheVariants as faults
use Rattle.certificate.specs.declared.fault.CertFault.{CertFault}
use Rattle.certificate.specs.declared.fault.CertFault.TheVariants as cert_faults

-- reading stopped where there is nothing to read, unless memory was refused
abbrev pub Stops : {Y : Type 0} → ReadFault → Option Y → Type 0
Stops faults.Memory read = Unit {0}
Stops (faults.Text left) read = read ≡ None

-- what a function returned, seen by view, is what reading gives, unless memory was refused
abbrev pub Gives : {X Y : Type 0} → (X → Y) → Result X ReadFault → Option Y → Type 0
Gives view (Ok x) read = read ≡ Some (view x)
Gives view (Err e) read = Stops e read

-- the bytes are the text of no certificate of the ontology, and the first line that cannot follow those before it begins at that
-- place; or memory was refused
abbrev pub IsRefused : CertFault → Ontology → List ℕ → Type 0
IsRefused cert_faults.Memory o bytes = Unit {0}
IsRefused (cert_faults.BadText at) o bytes = IsNoText o bytes at
