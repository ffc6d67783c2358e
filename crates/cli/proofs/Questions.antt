-- What is answered of a source's bytes is answered of those of its file.
use Rattle.std.proofs.Common.{ℕ, List, Option, Result, Ok, Err, IfOk, IfErr}
use Rattle.std.specs.Global.{Vec}
use Rattle.std.specs.Io.KnownBytes.{Keeps}
use Rattle.axioms.specs.Expression.{Iri}
use Rattle.axioms.specs.Ontology.{Ontology}
use Rattle.axioms.specs.declared.terms.Kind.{Kind}
use Rattle.cli.proofs.Kept.{opens_file}
use Rattle.receiving.proofs.Kept.{reads_file, refuses_file}
use Rattle.profile.specs.declared.opened.Opened.{Opened}
use Rattle.program.specs.declared.limits.Limits.{Limits}
use Rattle.program.specs.declared.question.Spelling.{Spelling}
use Rattle.program.specs.declared.version.Version.{Version}
use Rattle.session.specs.TextAnswers.{AnswersQuery, IsFaultOf, IsReadAs, IsRunAs}
use Rattle.session.specs.declared.question_fault.QuestionFault.{QuestionFault}
use Rattle.session.specs.declared.question_fault.QuestionFault.TheVariants.{Document, Limit, UnknownName, Expression, Memory}

pub read_as_file : (version : Version) (file left : Option (List ℕ)) (most : ℕ) (o : Ontology) → Keeps file left → IsReadAs version most left o → IsReadAs version most file o
read_as_file version file left most o kept is = record { reads = reads_file version file left most o kept is.reads; taken = is.taken }

run_as_file : (file left : Option (List ℕ)) (limits : Limits) (d : Opened) → Keeps file left → IsRunAs limits left d → IsRunAs limits file d
run_as_file file left limits d kept is = record { opens = opens_file limits.version file left limits.max_bytes d kept is.opens; read_in = is.read_in; taken = is.taken; few = is.few }

pub question_fault_of_file : (file left : Option (List ℕ)) (limits : Limits) (names : List (Kind × Iri)) (fault : QuestionFault) → Keeps file left → IsFaultOf limits left names fault → IsFaultOf limits file names fault
question_fault_of_file file left limits names (Document fault) kept is = refuses_file limits.version file left limits.max_bytes fault kept is
question_fault_of_file file left limits names Limit kept is = (is.0, read_as_file limits.version file left limits.max_bytes is.0 kept is.1, is.2)
question_fault_of_file file left limits names (UnknownName name) kept is = (is.0, read_as_file limits.version file left limits.max_bytes is.0 kept is.1, is.2, is.3)
question_fault_of_file file left limits names (Expression fault) kept is = absurd is
question_fault_of_file file left limits names Memory kept is = (is.0, read_as_file limits.version file left limits.max_bytes is.0 kept is.1)

-- ---- queries

query_of_file : (file left : Option (List ℕ)) (limits : Limits) (text : List ℕ) (spelling : Spelling) (out : List ℕ) → Keeps file left → AnswersQuery limits left text spelling out → AnswersQuery limits file text spelling out
query_of_file file left limits text spelling out kept is = (is.0, run_as_file file left limits is.0 kept is.1, is.2)

-- ---- whole answers about a source's bytes are about those of its file

pub fault_in_file : (answer : Result (Vec ℕ) QuestionFault) (file left : Option (List ℕ)) (limits : Limits) (names : List (Kind × Iri)) → Keeps file left → IfErr answer (IsFaultOf limits left names) → IfErr answer (IsFaultOf limits file names)
fault_in_file (Ok v) file left limits names kept is = tt
fault_in_file (Err fault) file left limits names kept is = question_fault_of_file file left limits names fault kept is

pub query_in_file : (answer : Result (Vec ℕ) QuestionFault) (file left : Option (List ℕ)) (limits : Limits) (text : List ℕ) (spelling : Spelling) → Keeps file left → IfOk answer (λ v. AnswersQuery limits left text spelling v.items) → IfOk answer (λ v. AnswersQuery limits file text spelling v.items)
query_in_file (Ok v) file left limits text spelling kept is = query_of_file file left limits text spelling v.items kept is
query_in_file (Err fault) file left limits text spelling kept is = tt
