-- What is read of a text whose trees are taken one by one.
use Rattle.std.proofs.Common.{◌≡◌, ℕ, List, [], ◌∷◌, ◌++◌, length, Result, Ok, Err, refl, sym, subst, append_assoc}
use Rattle.std.proofs.lemmas.List.{append-nil}
use Rattle.std.specs.Result.{IfErr, IfOk}
use Rattle.std.specs.Str.{IsUtf8}
use Rattle.axioms.specs.Ontology.{Ontology}
use Rattle.axioms.specs.WellFormedness.{IsOntology}
use Rattle.fs_parser.specs.Document.{Document}
use Rattle.fs_parser.specs.Name.{Prefixes, standard_prefixes}
use Rattle.fs_parser.specs.Tree.{Tree}
use Rattle.fs_parser.specs.Rest.{AreLeft, IsFirst, IsStartOf, TextLeft}
use Rattle.fs_parser.specs.View.{trees_from}
use Rattle.profile.specs.Reading.{AreReadAs}
use Rattle.profile.specs.Reading as profile
use Rattle.profile.specs.Intake.{AreTaken, AreTakenBehind, Taken, of_document}
use Rattle.program.specs.declared.version.Version.{Version}
use Rattle.profile.specs.declared.acceptance.Refusal.{Refusal}
use Rattle.profile.specs.declared.acceptance.Refusal.TheVariants as refusing
use Rattle.profile.specs.Documents.{AreTextOf, IsTaken, OpensAs, ReadsAs}
use Rattle.profile.specs.Faults.{Refuses, of_refusal}
use Rattle.profile.specs.Streams.{AllTaken, IsAnswerTo}
use Rattle.profile.proofs.Sayable.{read_sayable}

-- ---- trees, one after another

-- these trees were taken, and those that are left now follow them
pub record AreTakenSoFar (start left : TextLeft) (old now : Taken) : Type 0 where
  pub trees : List Tree
  pub left_are : (more : List Tree) → AreLeft left more → AreLeft start (trees ++ more)
  pub taken : AreTakenBehind trees old now

pub one_more_taken : (start left next : TextLeft) (old now new : Taken) (tree : Tree) → AreTakenSoFar start left old now → IsFirst left tree next
    → AreTakenBehind (tree ∷ []) now new → AreTakenSoFar start next old new
one_more_taken start left next old now new tree h first more =
    record {
      trees = h.trees ++ tree ∷ [];
      left_are = λ others k. subst (AreLeft start) (sym (append_assoc h.trees (tree ∷ []) others)) (h.left_are (tree ∷ others) (first.others others k));
      taken = λ from before k. subst (λ (ts : List Tree). AreTaken from ts new) (append_assoc before h.trees (tree ∷ [])) (more from (before ++ h.trees) (h.taken from before k));
    }

pub all_so_far : (start left : TextLeft) (old now : Taken) → AreTakenSoFar start left old now → AreLeft left [] → AllTaken start old now
all_so_far start left old now h none =
    record { trees = h.trees; left_are = subst (AreLeft start) (append-nil h.trees) (h.left_are [] none); taken = h.taken }

-- ---- the answer

pub answered : (version : Version) (left : TextLeft) (old now : Taken) (answer : Result Ontology Refusal) → AreTaken (of_document version) [] old → AllTaken left old now
    → IfOk answer (λ o. (v : Version) (trees : List Tree) → AreTaken (of_document v) trees now → AreReadAs v (trees_from trees) o)
    → IfErr answer (λ r. (v : Version) (trees : List Tree) → AreTaken (of_document v) trees now → profile.Refuses v r (trees_from trees)) → IsAnswerTo version left answer
answered version left old now (Ok o) none h read refused = record { trees = h.trees; left_are = h.left_are; read = read version h.trees (h.taken (of_document version) [] none); refused = tt }
answered version left old now (Err r) none h read refused = record { trees = h.trees; left_are = h.left_are; read = tt; refused = refused version h.trees (h.taken (of_document version) [] none) }

module _ (version : Version) (text : List ℕ) (utf8 : IsUtf8 text) (left : TextLeft) (start : IsStartOf text left) where
  abbrev the_document : List Tree → Document
  the_document trees = record { declared = left.declared; trees = trees_from trees }

  text_of : (trees : List Tree) → AreLeft left trees → AreTextOf text (the_document trees)
  text_of trees h = let forms = start trees h in record { utf8 = utf8; tokens = forms.tokens; spelled = forms.spelled; written = forms.written }

  pub streamed_opens : (o : Ontology) (prefixes : Prefixes) (n : ℕ) → prefixes ≡ standard_prefixes ++ left.declared → n ≡ length text → IsAnswerTo version left (Ok o) → IsOntology o
      → OpensAs version text (record { ontology = o; prefixes = prefixes; version = version; bytes = n })
  streamed_opens o prefixes n are many h whole =
      let reads : ReadsAs version text o = record { document = the_document h.trees; text = text_of h.trees h.left_are; read = h.read; well_formed = whole } in
      record { reads = record { reads = reads; prefixes_are = are }; number = many; read_in = refl }

  pub streamed_taken : (o : Ontology) → IsAnswerTo version left (Ok o) → IsOntology o → IsTaken o
  streamed_taken o h whole = record {
    statements = _;
    numbered = h.read.ontology;
    few_names = h.read.few_names;
    well_formed = whole;
    sayable = read_sayable version text (the_document h.trees) o (text_of h.trees h.left_are) h.read;
  }

  pub streamed_refused : (r : Refusal) → IsAnswerTo version left (Err r) → Refuses version (of_refusal r) text
  streamed_refused (refusing.Faults found) h = record { document = the_document h.trees; text = text_of h.trees h.left_are; all = h.refused.0; some = h.refused.1 }
  streamed_refused refusing.TooManyNames h = record { document = the_document h.trees; text = text_of h.trees h.left_are; faultless = h.refused.0; many = h.refused.1 }
  streamed_refused refusing.Memory h = tt
