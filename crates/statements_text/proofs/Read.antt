-- The text of statements reads as their ontology.
use Rattle.std.proofs.Common.{◌≡◌, ℕ, ◌+◌, false, List, [], ◌∷◌, length, refl, sym, subst}
use Rattle.std.specs.Prelude as prelude
use Rattle.std.specs.Str.{IsUtf8}
use Rattle.axioms.specs.Axiom.{SubClassOf, EquivalentClasses, DisjointClasses, SubPropertyOf, EquivalentProperties, SameIndividuals, DifferentIndividuals}
use Rattle.axioms.specs.Numbering.{Statement, IsOntologyOf, States}
use Rattle.fs_lexer.specs.Spelling.{Spells}
use Rattle.program.specs.declared.version.Version.{Version}
use Rattle.shapes.specs.Faults.{document_faults, each_faults, is_annotation, is_name}
use Rattle.shapes.specs.declared.expected.Expected.TheVariants as expecting
use Rattle.statements_text.specs.Terms.{AllSpelled, AllShallow, AllWritable, HasOperands, line_text, lines_trees, term_tree, document_tokens, statement_term, statement_terms}
use Rattle.statements_text.specs.Sound.{AllSayable, IsSoundStatement}
use Rattle.statements_text.specs.Theorems.{StatementsAreRead, StatementsReadBack}
use Rattle.statements_text.proofs.SoundStatements.{sound_statement}
use Rattle.statements_text.proofs.Bytes.{utf8_document}
use Rattle.statements_text.proofs.Spelled.{spelled}
use Rattle.statements_text.proofs.Stated.{all_stated}
use Rattle.statements_text.proofs.Texts.{same_text}
use Rattle.statements_text.proofs.Trees.{is_document, written}

all_spelled : (version : Version) (ss : List Statement) → AllWritable version ss → AllSpelled (statement_terms ss)
all_spelled version [] h = tt
all_spelled version (s ∷ ss) h = (h.0.spelled, all_spelled version ss h.1)

all_shallow : (version : Version) (ss : List Statement) → AllWritable version ss → AllShallow 64 (statement_terms ss)
all_shallow version [] h = tt
all_shallow version (s ∷ ss) h = (h.0.shallow, all_shallow version ss h.1)

-- ---- faults

plain : (s : Statement) (at : ℕ) → (is_name (term_tree at (statement_term s)) ≡ false) × (is_annotation (term_tree at (statement_term s)) ≡ false)
plain (States (SubClassOf c d)) at = (refl, refl)
plain _ at = (refl, refl)

none_in_lines : (version : Version) (ss : List Statement) (at : ℕ) → AllWritable version ss → each_faults version prelude.None expecting.Axiom (lines_trees at (statement_terms ss)) ≡ []
none_in_lines version [] at h = refl
none_in_lines version (s ∷ ss) at h =
    let a = h.0.faultless at in
    let b = none_in_lines version ss (at + length (line_text (statement_term s))) h.1 in
    rw (a, b) refl

faultless : (version : Version) (ss : List Statement) (at : ℕ) → AllWritable version ss → document_faults version (lines_trees at (statement_terms ss)) ≡ []
faultless version [] at h = refl
faultless version (s ∷ ss) at h = let p = plain s at in rw (p.0, p.1) (none_in_lines version (s ∷ ss) at h)

-- ---- the whole

with_operands : (s : Statement) → IsSoundStatement s → HasOperands s
with_operands (States (EquivalentClasses cs)) h = h.0
with_operands (States (DisjointClasses cs)) h = h.0
with_operands (States (SubPropertyOf rs s)) h = h.0
with_operands (States (EquivalentProperties rs)) h = h.0
with_operands (States (SameIndividuals xs)) h = h.0
with_operands (States (DifferentIndividuals xs)) h = h.0
with_operands _ h = tt

all_writable : (version : Version) (ss : List Statement) → AllSayable version ss → AllWritable version ss
all_writable version [] h = tt
all_writable version (s ∷ ss) h = (
  record {
    spelled = h.0.spelled;
    taken = h.0.taken;
    operands = with_operands s h.0.sound;
    faultless = sound_statement version s h.0.taken h.0.sound;
    shallow = h.0.shallow;
  },
  all_writable version ss h.1,
)

pub are_read : StatementsAreRead
are_read version ss sayable =
    let h = all_writable version ss sayable in
    let ts = statement_terms ss in
    let sp = all_spelled version ss h in
    let same = sym (same_text ss) in
    record {
      document = written ts;
      text = record {
        utf8 = subst IsUtf8 same (utf8_document ts sp);
        tokens = document_tokens ts;
        spelled = subst (λ text. Spells text (document_tokens ts)) same (spelled ts sp);
        written = is_document ts (all_shallow version ss h);
      };
      faultless = faultless version ss 10 h;
      stated = all_stated version ss 10 h;
    }

pub reads : StatementsReadBack
reads version ss o h numbered few well =
    let r = are_read version ss h in
    record {
      document = r.document;
      text = r.text;
      read = record { faultless = r.faultless; ontology = subst (λ rs. IsOntologyOf rs o) (sym r.stated) numbered; few_names = few };
      well_formed = well;
    }
