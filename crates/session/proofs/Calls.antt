-- What calls leave: what one document states.
use Rattle.std.proofs.Common.{◌≡◌, ◌+◌, ℕ, List, [], ◌∷◌, ◌++◌, Ok, Err, length, refl, sym, ap, ap₂, ◌∙◌, subst, arith, append_assoc}
use Rattle.std.proofs.lemmas.List.{append-nil}
use Rattle.axioms.proofs.Unique.{statements_determine}
use Rattle.axioms.specs.Numbering.{Statement, IsOntologyOf}
use Rattle.axioms.specs.WellFormedness.{IsOntology}
use Rattle.fs_lexer.proofs.Whole.{one_spelling}
use Rattle.fs_lexer.specs.Spelling.{Token}
use Rattle.fs_parser.proofs.Complete.{one_reading}
use Rattle.fs_parser.proofs.Documents.{document_prefixes}
use Rattle.fs_parser.specs.Document.{Document, prefixes_of}
use Rattle.fs_parser.specs.Name.{Prefixes, StandForOne}
use Rattle.fs_parser.specs.Tree.{Trees, AreShallow}
use Rattle.profile.proofs.OneReading.{one_document}
use Rattle.profile.specs.AddedTexts.{AreStatementsOf, IsAddedText}
use Rattle.profile.specs.Statements.{statements}
use Rattle.program.specs.declared.version.Version.{Version}
use Rattle.shapes.specs.Faults.{axiom_faults, document_faults}
use Rattle.session.proofs.AnyVersion.{document_states, texts_state}
use Rattle.session.specs.Additions.{IsAddition}
use Rattle.session.specs.Edits.{Call, Add, Resume, Ask, Query, Entail, Decide, Write, Infer, Reply, Added, Resumed, Answered, Found, Entailed, Decided, Written, Inferred, IsCall, AreCalls, IsSessionOver, IsOneDocument, AreStatedBy, HasAccepted, AreEditedAlike, accepted, added, bytes_of, EditsAreOneDocument, AcceptedAlikeEndAlike}
use Rattle.session.specs.Sessions.{IsSession, KeepsText, Opened}

-- ---- texts one behind the other

-- one text more states its statements behind the others
stated_more : (version : Version) (prefixes : Prefixes) (texts : List (List ℕ)) (stated : List Statement) (text : List ℕ) (trees : Trees) →
    AreStatedBy version prefixes texts stated → AreStatementsOf prefixes text trees → axiom_faults version trees ≡ [] →
    AreStatedBy version prefixes (texts ++ text ∷ []) (stated ++ statements version trees)
stated_more version prefixes [] stated text trees are is faultless =
    (trees, [], is, faultless, refl, ap (λ (ss : List Statement). ss ++ statements version trees) are ∙ sym (append-nil (statements version trees)))
stated_more version prefixes (first ∷ texts) stated text trees (first_trees, later, first_is, first_faultless, later_are, same) is faultless = (
  first_trees,
  later ++ statements version trees,
  first_is,
  first_faultless,
  stated_more version prefixes texts later text trees later_are is faultless,
  ap (λ (ss : List Statement). ss ++ statements version trees) same ∙ append_assoc (statements version first_trees) later (statements version trees),
)

-- and its bytes count
bytes_more : (texts : List (List ℕ)) (text : List ℕ) → bytes_of (texts ++ text ∷ []) ≡ bytes_of texts + length text
bytes_more [] text = omega arith
bytes_more (first ∷ texts) text = let later = bytes_more texts text in omega (arith, later)

-- a text is at most one list of trees
one_list : (prefixes : Prefixes) → StandForOne prefixes → (text : List ℕ) (a b : Trees) → AreStatementsOf prefixes text a → AreStatementsOf prefixes text b → a ≡ b
one_list prefixes one text a b h k =
    let P : List Token → Type 0 = AreShallow 64 prefixes a in
    let same = one_spelling text h.tokens k.tokens h.spelled k.spelled in
    one_reading prefixes one k.tokens a b (subst P same h.are).are_trees k.are.are_trees

-- and texts state one list, in whatever versions
stated_once : (version other : Version) (prefixes : Prefixes) → StandForOne prefixes → (texts : List (List ℕ)) (xs ys : List Statement) → AreStatedBy version prefixes texts xs → AreStatedBy other prefixes texts ys → xs ≡ ys
stated_once version other prefixes one [] xs ys h k = h ∙ sym k
stated_once version other prefixes one (text ∷ texts) xs ys (a, xs', is_a, faultless, later, same) (b, ys', is_b, faultless', later', same') =
    let trees : a ≡ b = one_list prefixes one text a b is_a is_b in
    let P : Trees → Type 0 = λ t. axiom_faults version t ≡ [] in
    let stated : statements version a ≡ statements other b = ap (statements version) trees ∙ texts_state version other b (subst P trees faultless) faultless' in
    same ∙ ap₂ (λ (ss ts : List Statement). ss ++ ts) stated (stated_once version other prefixes one texts xs' ys' later later') ∙ sym same'

-- ---- one call

-- the same ontology, prefixes and bytes are what the same document states
same_document : (version : Version) (bytes : List ℕ) (texts : List (List ℕ)) (old new : Opened) → new.ontology ≡ old.ontology → KeepsText old new → IsOneDocument version bytes texts old → IsOneDocument version bytes texts new
same_document version bytes texts old new ontology kept h = record {
  read_in = kept.version ∙ h.read_in;
  document = h.document;
  text = h.text;
  faultless = h.faultless;
  prefixes = kept.prefixes ∙ h.prefixes;
  stated = h.stated;
  are = subst (λ (p : Prefixes). AreStatedBy version p texts h.stated) (sym kept.prefixes) h.are;
  ontology = subst (IsOntologyOf (statements version h.document.trees ++ h.stated)) (sym ontology) h.ontology;
  well_formed = subst IsOntology (sym ontology) h.well_formed;
  number = kept.bytes ∙ h.number;
}

one_more : (version : Version) (bytes : List ℕ) (texts : List (List ℕ)) (old new : Opened) (text : List ℕ) → IsOneDocument version bytes texts old → IsAddition old text new → IsOntology new.ontology → IsOneDocument version bytes (texts ++ text ∷ []) new
one_more version bytes texts old new text h is well_formed =
    let text_is : IsAddedText version old.prefixes text old.ontology new.ontology = subst (λ (v : Version). IsAddedText v old.prefixes text old.ontology new.ontology) h.read_in is.text_is in
    let trees = text_is.trees in
    let all : List Statement = statements version h.document.trees in
    record {
      read_in = is.version ∙ h.read_in;
      document = h.document;
      text = h.text;
      faultless = h.faultless;
      prefixes = is.prefixes ∙ h.prefixes;
      stated = h.stated ++ statements version trees;
      are = subst (λ (p : Prefixes). AreStatedBy version p (texts ++ text ∷ []) (h.stated ++ statements version trees)) (sym is.prefixes) (stated_more version old.prefixes texts h.stated text trees h.are text_is.text_is text_is.added.faultless);
      ontology = subst (λ (ss : List Statement). IsOntologyOf ss new.ontology) (append_assoc all h.stated (statements version trees)) (text_is.added.ontology (all ++ h.stated) h.ontology);
      well_formed = well_formed;
      number = (let more = bytes_more texts text in omega (arith, more, is.bytes, h.number));
    }

-- a session that stays as it is
stays : (version : Version) (bytes : List ℕ) (texts : List (List ℕ)) (old new : Opened) → IsOneDocument version bytes texts old → new ≡ old → IsOneDocument version bytes (texts ++ []) new
stays version bytes texts old new h same =
    subst (λ (ts : List (List ℕ)). IsOneDocument version bytes ts new) (sym (append-nil texts)) (subst (IsOneDocument version bytes texts) (sym same) h)

one_call : (version : Version) (bytes : List ℕ) (texts : List (List ℕ)) (old : Opened) (call : Call) (reply : Reply) (new : Opened) → IsOneDocument version bytes texts old → IsCall old call reply new → IsSession new → IsOneDocument version bytes (texts ++ added call reply) new
one_call version bytes texts old (Add text) (Added (Ok _)) new h is session = one_more version bytes texts old new text h is session.whole.taken.well_formed
one_call version bytes texts old (Add text) (Added (Err fault)) new h is session = stays version bytes texts old new h is.1
one_call version bytes texts old (Resume most) (Resumed answer) new h is session =
    subst (λ (ts : List (List ℕ)). IsOneDocument version bytes ts new) (sym (append-nil texts)) (same_document version bytes texts old new is.0 is.1 h)
one_call version bytes texts old (Ask question) (Answered (Ok answer)) new h is session = stays version bytes texts old new h is.2
one_call version bytes texts old (Ask question) (Answered (Err fault)) new h is session = stays version bytes texts old new h is.1
one_call version bytes texts old (Query text most) (Found (Ok found)) new h is session = stays version bytes texts old new h is.1
one_call version bytes texts old (Query text most) (Found (Err fault)) new h is session = stays version bytes texts old new h is.1
one_call version bytes texts old (Entail text most) (Entailed (Ok entailed)) new h is session = stays version bytes texts old new h is.1
one_call version bytes texts old (Entail text most) (Entailed (Err fault)) new h is session = stays version bytes texts old new h is.1
one_call version bytes texts old Decide (Decided answer) new h is session = stays version bytes texts old new h is.1
one_call version bytes texts old (Write format before) (Written after answer) new h is session = stays version bytes texts old new h is.1
one_call version bytes texts old Infer (Inferred (Ok (summary, text))) new h is session = stays version bytes texts old new h is.2
one_call version bytes texts old Infer (Inferred (Err fault)) new h is session = stays version bytes texts old new h is.1
one_call version bytes texts old call reply new h is session = absurd is

-- ---- all calls

all_calls : (version : Version) (bytes : List ℕ) (texts : List (List ℕ)) (old new : Opened) (calls : List Call) (replies : List Reply) → IsOneDocument version bytes texts old → AreCalls old calls replies new → IsOneDocument version bytes (texts ++ accepted calls replies) new
all_calls version bytes texts old new [] [] h same = stays version bytes texts old new h same
all_calls version bytes texts old new (call ∷ calls) (reply ∷ replies) h (mid, is, session, later) =
    subst (λ (ts : List (List ℕ)). IsOneDocument version bytes ts new) (append_assoc texts (added call reply) (accepted calls replies))
    (all_calls version bytes (texts ++ added call reply) mid new calls replies (one_call version bytes texts old call reply mid h is session) later)
all_calls version bytes texts old new [] (reply ∷ replies) h are = absurd are
all_calls version bytes texts old new (call ∷ calls) [] h are = absurd are

-- a session that was opened, and nothing more
begun : (version : Version) (bytes : List ℕ) (s : Opened) → IsSessionOver version bytes s → IsOneDocument version bytes [] s
begun version bytes s h =
    let reads = h.read.reads.reads in
    record {
      read_in = h.read.read_in;
      document = reads.document;
      text = reads.text;
      faultless = reads.read.faultless;
      prefixes = h.read.reads.prefixes_are;
      stated = [];
      are = refl;
      ontology = subst (λ (ss : List Statement). IsOntologyOf ss s.ontology) (sym (append-nil (statements version reads.document.trees))) reads.read.ontology;
      well_formed = reads.well_formed;
      number = (let number = h.read.number in omega (arith, number));
    }

pub edits_are_one_document : EditsAreOneDocument
edits_are_one_document version bytes old new calls replies h are = all_calls version bytes [] old new calls replies (begun version bytes old h) are

-- ---- the same texts

pub accepted_alike : AcceptedAlikeEndAlike
accepted_alike version other bytes texts s t h k =
    let document : h.document ≡ k.document = one_document bytes h.document k.document h.text k.text in
    let prefixes : s.prefixes ≡ t.prefixes = h.prefixes ∙ ap prefixes_of document ∙ sym k.prefixes in
    let one : StandForOne t.prefixes = subst StandForOne (sym k.prefixes) (document_prefixes k.document k.text.tokens k.text.written) in
    let stated : h.stated ≡ k.stated = stated_once version other t.prefixes one texts h.stated k.stated (subst (λ (p : Prefixes). AreStatedBy version p texts h.stated) prefixes h.are) k.are in
    let P : Document → Type 0 = λ d. document_faults version d.trees ≡ [] in
    let states : statements version h.document.trees ≡ statements other k.document.trees =
    ap (λ (d : Document). statements version d.trees) document ∙ document_states version other k.document.trees (subst P document h.faultless) k.faultless in
    let all : statements version h.document.trees ++ h.stated ≡ statements other k.document.trees ++ k.stated = ap₂ (λ (ss ts : List Statement). ss ++ ts) states stated in
    let ontology : s.ontology ≡ t.ontology = statements_determine (statements other k.document.trees ++ k.stated) s.ontology t.ontology h.well_formed k.well_formed
    (subst (λ (ss : List Statement). IsOntologyOf ss s.ontology) all h.ontology) k.ontology in
    (ontology, prefixes, h.number ∙ sym k.number)

-- ---- the end

last_session : (old new : Opened) (calls : List Call) (replies : List Reply) → IsSession old → AreCalls old calls replies new → IsSession new
last_session old new [] [] h same = subst IsSession (sym same) h
last_session old new (call ∷ calls) (reply ∷ replies) h (mid, is, session, later) = last_session mid new calls replies session later
last_session old new [] (reply ∷ replies) h are = absurd are
last_session old new (call ∷ calls) [] h are = absurd are

pub is_session : (version : Version) (bytes : List ℕ) (texts : List (List ℕ)) (s : Opened) → HasAccepted version bytes texts s → IsSession s
is_session version bytes texts s h = last_session h.opened s h.calls h.replies h.over.session h.are

one_stated : (version : Version) (bytes : List ℕ) (texts : List (List ℕ)) (s : Opened) → HasAccepted version bytes texts s → IsOneDocument version bytes texts s
one_stated version bytes texts s h =
    subst (λ (ts : List (List ℕ)). IsOneDocument version bytes ts s) h.texts_are (edits_are_one_document version bytes h.opened s h.calls h.replies h.over h.are)

pub alike : (s t : Opened) → AreEditedAlike s t → s.ontology ≡ t.ontology
alike s t h = (accepted_alike h.version h.other h.bytes h.texts s t (one_stated h.version h.bytes h.texts s h.first) (one_stated h.other h.bytes h.texts t h.second)).0
