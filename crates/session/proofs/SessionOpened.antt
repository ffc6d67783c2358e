-- What is said of a session that was opened, and of one that was run.
use Rattle.std.proofs.Common.{◌≡◌, ℕ, List, [], Option, Some, None, Result, Ok, Err, IfOk, IfErr, OnOk, sym, ◌∙◌, subst}
use Rattle.std.specs.Prelude.{IsErrOf}
use Rattle.profile.specs.Documents.{IsTaken}
use Rattle.profile.specs.Faults.{OpensKnown, RefusesKnown}
use Rattle.profile.specs.declared.fault.DocumentFault.{DocumentFault}
use Rattle.profile.specs.declared.fault.DocumentFault.TheVariants.{Io, Memory, TooLarge}
use Rattle.profile.specs.declared.opened.Opened as reading
use Rattle.program.specs.declared.limits.Limits.{Limits}
use Rattle.program.specs.declared.version.Version.{Version}
use Rattle.entailment.specs.FactCounts.{HasNoMoreFactsThan}
use Rattle.session.specs.Sessions.{KeepsText, Opened, as_read}
use Rattle.session.specs.TextAnswers.{IsRunAs}

-- what holds of all that was read holds of its session
pub of_read : {E : Type 0} (P : reading.Opened → Type 0) (d : reading.Opened) (r : Result Opened E) → P d → IfOk r (λ s. as_read s ≡ d) → IfOk r (λ s. P (as_read s))
of_read P d (Ok s) holds same = subst P (sym same) holds
of_read P d (Err e) holds same = tt

-- a session that is not made for want of memory refuses nothing of the document
pub for_memory : (version : Version) (left : Option (List ℕ)) (most : ℕ) (r : Result Opened DocumentFault) → IfErr r (λ e. e ≡ Memory) → IfErr r (RefusesKnown version left most)
for_memory version left most (Ok s) is = tt
for_memory version None most (Err e) is = tt
for_memory version (Some bytes) most (Err e) is = let P : DocumentFault → Type 0 = λ f. RefusesKnown version (Some bytes) most f in subst P (sym is) tt

pub on_ok : {A E : Type 0} (r : Result A E) (X : Type 0) → X → OnOk r X
on_ok (Ok a) X x = x
on_ok (Err e) X x = tt

-- a session that is not made for want of memory is not told as a failure of its source
pub not_io : (r : Result Opened DocumentFault) → IfErr r (λ e. e ≡ Memory) → IsErrOf r Io → ⊥
not_io (Ok s) is told = cc
not_io (Err e) is told = let same : e ≡ Memory = is in cc

-- a session that is not made for want of memory is not told as a document that is too large
pub not_too_large : (r : Result Opened DocumentFault) → IfErr r (λ e. e ≡ Memory) → IsErrOf r TooLarge → ⊥
not_too_large (Ok s) is told = cc
not_too_large (Err e) is told = let same : e ≡ Memory = is in cc

-- what was read stays what it is while the session is run
pub runs_as : (limits : Limits) (document : Option (List ℕ)) (old new : Opened) → OpensKnown limits.version document limits.max_bytes (as_read old) → old.version ≡ limits.version → IsTaken old.ontology
    → new.ontology ≡ old.ontology → KeepsText old new → HasNoMoreFactsThan new.ontology [] limits.max_facts → IsRunAs limits document (as_read new)
runs_as limits document old new opens read_in taken ontology kept few =
    let prefixes = kept.prefixes in
    let bytes = kept.bytes in
    let version = kept.version in
    let same : as_read old ≡ as_read new = cc in
    record { opens = subst (OpensKnown limits.version document limits.max_bytes) same opens; read_in = version ∙ read_in; taken = subst IsTaken (sym ontology) taken; few = few }
