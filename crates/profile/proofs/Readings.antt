-- What a document reads as, from what its parts are.
use Rattle.std.proofs.Common.{◌≡◌, ℕ, ◌++◌, ◌≤◌, List, length, Some, None, Option, Result, Ok, Err, IfOk, IfErr, refl, sym, ap, ◌∙◌, subst, arith}
use Rattle.std.proofs.lemmas.List.{append-nil}
use Rattle.std.specs.Io.KnownBytes.{Consumes, IsAtEnd}
use Rattle.std.specs.Str.{IsUtf8}
use Rattle.axioms.specs.Ontology.{Ontology}
use Rattle.axioms.specs.WellFormedness.{IsOntology}
use Rattle.fs_lexer.specs.Spelling.{Token, Spells}
use Rattle.fs_parser.specs.Document.{Document, IsDocument, prefixes_of}
use Rattle.fs_parser.specs.Name.{Prefixes}
use Rattle.fs_parser.specs.Faults.{IsPlaced}
use Rattle.fs_parser.specs.State as parser
use Rattle.fs_parser.specs.declared.fault.ParseFault.{ParseFault}
use Rattle.fs_parser.specs.declared.fault.ParseFault.TheVariants as parsing
use Rattle.program.specs.declared.version.Version.{Version}
use Rattle.profile.specs.declared.fault.DocumentFault.{DocumentFault}
use Rattle.profile.specs.declared.opened.Opened.{Opened}
use Rattle.profile.specs.declared.fault.DocumentFault.TheVariants as faults
use Rattle.profile.specs.Documents.{AreTextOf, IsTaken, OpensAs, ReadsAs}
use Rattle.profile.specs.Reading.{AreReadAs}
use Rattle.profile.specs.Statements.{statements}
use Rattle.profile.specs.Faults.{AreNoDocument, IsOfForms, OpensKnown, ReadsKnown, Refuses, RefusesKnown, of_parsing}
use Rattle.profile.proofs.Bounds.{axioms_take_bytes}
use Rattle.profile.proofs.Sayable.{read_sayable}

module _ (text : List ℕ) (tokens : List Token) (utf8 : IsUtf8 text) (spelled : Spells text tokens) where
  -- tokens that are no document
  no_document :
      (f : ParseFault) → parser.IsRefusal f → (parser.IsRefusal f → (d : Document) → IsDocument d tokens → ⊥) → IsPlaced tokens f → AreNoDocument text f
  no_document f refusal none placed =
      record { refusal = refusal; utf8 = utf8; tokens = tokens; spelled = spelled; none = none refusal; placed = placed }

  pub parse_fault : (version : Version) (f : ParseFault) → (parser.IsRefusal f → (d : Document) → IsDocument d tokens → ⊥) → IsPlaced tokens f → Refuses version (of_parsing f) text
  parse_fault version (parsing.Unexpected at) none placed = no_document (parsing.Unexpected at) tt none placed
  parse_fault version (parsing.UnexpectedEnd at) none placed = no_document (parsing.UnexpectedEnd at) tt none placed
  parse_fault version (parsing.UnknownPrefix at) none placed = no_document (parsing.UnknownPrefix at) tt none placed
  parse_fault version (parsing.PrefixTwice at) none placed = no_document (parsing.PrefixTwice at) tt none placed
  parse_fault version (parsing.StandardPrefixChanged at) none placed = no_document (parsing.StandardPrefixChanged at) tt none placed
  parse_fault version (parsing.TooDeep at) none placed = no_document (parsing.TooDeep at) tt none placed
  parse_fault version parsing.Memory none placed = tt

pub of_forms : (f : ParseFault) → IsOfForms (of_parsing f)
of_forms (parsing.Unexpected at) = tt
of_forms (parsing.UnexpectedEnd at) = tt
of_forms (parsing.UnknownPrefix at) = tt
of_forms (parsing.PrefixTwice at) = tt
of_forms (parsing.StandardPrefixChanged at) = tt
of_forms (parsing.TooDeep at) = tt
of_forms parsing.Memory = tt

-- a document that was read from its trees
pub listed_opens : (version : Version) (text : List ℕ) (document : Document) → AreTextOf text document → (o : Ontology) → AreReadAs version document.trees o → IsOntology o
    → (prefixes : Prefixes) → prefixes ≡ prefixes_of document → OpensAs version text (record { ontology = o; prefixes = prefixes; version = version; bytes = length text })
listed_opens version text document is o read whole prefixes are =
    let reads : ReadsAs version text o = record { document = document; text = is; read = read; well_formed = whole } in
    record { reads = record { reads = reads; prefixes_are = are }; number = refl; read_in = refl }

pub listed_taken : (version : Version) (text : List ℕ) (document : Document) → AreTextOf text document → (o : Ontology) → AreReadAs version document.trees o → IsOntology o → IsTaken o
listed_taken version text document is o read whole = record {
  statements = statements version document.trees;
  numbered = read.ontology;
  few_names = read.few_names;
  well_formed = whole;
  sayable = read_sayable version text document o is read;
}

-- a document has room for its axioms
pub axioms_fit : (version : Version) (r : Result Opened DocumentFault) (text : List ℕ) → IfOk r (OpensAs version text) → IfOk r (λ d. length d.ontology.axioms ≤ d.bytes)
axioms_fit version (Err e) text h = tt
axioms_fit version (Ok d) text h = omega (arith, axioms_take_bytes version text d.ontology h.reads.reads, h.number)

-- what was opened names its version
pub version_kept : (version : Version) (r : Result Opened DocumentFault) (text : List ℕ) → IfOk r (OpensAs version text) → IfOk r (λ d. d.version ≡ version)
version_kept version (Err e) text h = tt
version_kept version (Ok d) text h = h.read_in

-- ---- all the bytes of a source

not_read : (version : Version) (xs : List ℕ) (most : ℕ) (e : DocumentFault) → Refuses version e xs → length xs ≤ most → RefusesKnown version (Some xs) most e
not_read version xs most (faults.NotUtf8 at) h fit = (h, fit)
not_read version xs most (faults.Lex f) h fit = (h, fit)
not_read version xs most (faults.Parse f) h fit = (h, fit)
not_read version xs most (faults.Faults found) h fit = (h, fit)
not_read version xs most faults.TooManyNames h fit = (h, fit)
not_read version xs most faults.Memory h fit = tt
not_read version xs most faults.TooLarge h fit = absurd h
not_read version xs most faults.Io h fit = absurd h

-- what was consumed to the end is all that there was
all_consumed : (xs ys bytes : List ℕ) → Consumes (Some xs) (Some ys) bytes → IsAtEnd (Some ys) → bytes ≡ xs
all_consumed xs ys bytes all end = sym (all ∙ ap (λ zs. bytes ++ zs) end ∙ append-nil bytes)

known_refused :
    (version : Version) (left rest : Option (List ℕ)) (bytes : List ℕ) (most : ℕ) (e : DocumentFault) → Consumes left rest bytes → IsAtEnd rest → Refuses version e bytes → length bytes ≤ most → RefusesKnown version left most e
known_refused version None rest bytes most e all end h fit = tt
known_refused version (Some xs) None bytes most e all end h fit = absurd all
known_refused version (Some xs) (Some ys) bytes most e all end h fit =
    let same = all_consumed xs ys bytes all end in
    let P : List ℕ → Type 0 = Refuses version e in not_read version xs most e (subst P same h) (omega (arith, ap length same, fit))

pub answer_refused :
    (version : Version) (r : Result Opened DocumentFault) (left rest : Option (List ℕ)) (bytes text : List ℕ) (most : ℕ) → Consumes left rest bytes → IsAtEnd rest → length bytes ≤ most → text ≡ bytes →
    IfErr r (λ e. Refuses version e text) → IfErr r (RefusesKnown version left most)
answer_refused version (Ok o) left rest bytes text most all end fit same h = tt
answer_refused version (Err e) left rest bytes text most all end fit same h =
    let P : List ℕ → Type 0 = Refuses version e in known_refused version left rest bytes most e all end (subst P same h) fit

known_opened : (version : Version) (left rest : Option (List ℕ)) (bytes : List ℕ) (most : ℕ) (d : Opened) → Consumes left rest bytes → IsAtEnd rest → OpensAs version bytes d → length bytes ≤ most → OpensKnown version left most d
known_opened version None rest bytes most d all end h fit = tt
known_opened version (Some xs) None bytes most d all end h fit = absurd all
known_opened version (Some xs) (Some ys) bytes most d all end h fit =
    let same = all_consumed xs ys bytes all end in
    (subst (λ zs. OpensAs version zs d) same h, omega (arith, ap length same, fit))

pub answer_opened :
    (version : Version) (r : Result Opened DocumentFault) (left rest : Option (List ℕ)) (bytes text : List ℕ) (most : ℕ) → Consumes left rest bytes → IsAtEnd rest → length bytes ≤ most → text ≡ bytes →
    IfOk r (OpensAs version text) → IfOk r (OpensKnown version left most)
answer_opened version (Err e) left rest bytes text most all end fit same h = tt
answer_opened version (Ok d) left rest bytes text most all end fit same h =
    known_opened version left rest bytes most d all end (subst (λ zs. OpensAs version zs d) same h) fit

-- what was opened is read
pub opened_read : (version : Version) (left : Option (List ℕ)) (most : ℕ) (d : Opened) → OpensKnown version left most d → ReadsKnown version left most d.ontology
opened_read version None most d h = tt
opened_read version (Some bytes) most d h = (h.0.reads.reads, h.1)
