-- Calls of a session, and what is told of them.
use Rattle.std.proofs.Common.{◌≡◌, ◌∙◌, ◌⊎◌, [], ap, sym, ℕ, Bool, List, Result, Ok, Err, refl, subst, inl, inr, ⊎_elim, IfOk, IfErr}
use Rattle.std.specs.Str.{IsUtf8, IsValidUpTo}
use Rattle.answers.specs.declared.answer.Answer.{Answer}
use Rattle.profile.specs.declared.fault.DocumentFault.TheVariants.{NotUtf8}
use Rattle.inference.specs.declared.known_facts.Stop.{Stop}
use Rattle.program.specs.declared.limits.Limits.{Limits}
use Rattle.program.specs.declared.question.Question.{Question}
use Rattle.program.specs.declared.question.Spelling.{Spelling}
use Rattle.program.specs.declared.status.Status.{Status}
use Rattle.session.specs.Edits as edits
use Rattle.session.specs.Edits.{Answered, Ask, Call, Entail, Entailed, Found, IsCall, Query, Resume, Resumed, added}
use Rattle.session.specs.Entailments.{IsEntailment, IsEntailmentRefusal}
use Rattle.session.specs.Queries.{IsQueryAnswer, IsQueryRefusal, names_in as names_found}
use Rattle.session.specs.Sessions.{Opened}
use Rattle.session.specs.declared.entails_fault.EntailsFault.{EntailsFault}
use Rattle.session.specs.declared.fault.AskFault.{AskFault}
use Rattle.session.specs.declared.query_fault.QueryFault.{QueryFault}
use Rattle.session.specs.declared.querying.Answers.{Answers}
use Rattle.session.specs.declared.question_fault.QuestionFault.TheVariants as faults
use Rattle.speech.specs.Answers.{IsAnswerTold, IsAnsweredTold, IsAsked, IsCalled, IsFaultTold, IsRunTo, IsRunTold, IsSaid, IsTextCalled, Tells, found}
use Rattle.speech.specs.Replies.{Told, out_of_memory, told, told_by}
use Rattle.speech.specs.declared.reply.Reply.{Reply}

pub told_or : {X : Type 0} (P : Told → Type 0) (r : Result Reply X) → Tells P r → P (told_by r) ⊎ (told_by r ≡ out_of_memory)
told_or P (Ok reply) h = inl h
told_or P (Err refused) h = inr refl

-- what is told of a call that adds nothing
pub called : {X : Type 0} (limits : Limits) (call : Call) (old new : Opened) (answer : edits.Reply) (r : Result Reply X) → IsCall old call answer new → added call answer ≡ []
    → Tells (IsAnswerTold limits answer) r → IsCalled limits call old (told_by r) new
called limits call old new answer r h none tells = record { reply = answer; called = h; answer = ⊎_elim (λ t. inl t) (λ e. inr (none, e)) (told_or (IsAnswerTold limits answer) r tells) }

-- and of one for whose reply there was memory
pub called_ok : (limits : Limits) (call : Call) (old new : Opened) (answer : edits.Reply) (t : Told) → IsCall old call answer new → IsAnswerTold limits answer t
    → IsCalled limits call old t new
called_ok limits call old new answer t h tells = record { reply = answer; called = h; answer = inl tells }

pub said : {X : Type 0} (P : Told → Type 0) (s : Opened) (r : Result Reply X) → Tells P r → IsSaid P s (told_by r) s
said P s r tells = (refl, told_or P r tells)

-- a run to so many facts, and what is told of it
pub run_to : (limits : Limits) (end : ℕ) (old new : Opened) (result : Result (Unit {0}) Stop) (t : Told) → IsCall old (Resume end) (Resumed result) new
    → IsRunTold limits end new result t ⊎ (t ≡ out_of_memory) → IsRunTo limits end old t new
run_to limits end old new result t h tells = record { result = result; called = h; answer = tells }

-- a query, and its answer
pub query_call : (s : Opened) (text : List ℕ) (most : ℕ) (r : Result Answers QueryFault) → IfOk r (λ a. IsQueryAnswer s text most (names_found a)) → IfErr r (IsQueryRefusal s text most)
    → IsCall s (Query text most) (Found (found r)) s
query_call s text most (Ok answers) exact refused = (exact, refl)
query_call s text most (Err fault) exact refused = (refused, refl)

-- axioms that may follow, and whether they do
pub entail_call : (s : Opened) (text : List ℕ) (most : ℕ) (r : Result Bool EntailsFault) → IfOk r (IsEntailment s text most) → IfErr r (IsEntailmentRefusal s text most)
    → IsCall s (Entail text most) (Entailed r) s
entail_call s text most (Ok entailed) exact refused = (exact, refl)
entail_call s text most (Err fault) exact refused = (refused, refl)

-- a question, and what is told of its answer
pub asked : {X : Type 0} (limits : Limits) (s : Opened) (question : Question) (spelling : Spelling) (result : Result Answer AskFault) (r : Result Reply X) → IsCall s (Ask question) (Answered result) s
    → Tells (IsAnsweredTold limits s question spelling result) r → IsAsked limits question spelling s (told_by r) s
asked limits s question spelling result r h tells = record { result = result; called = h; answer = told_or (IsAnsweredTold limits s question spelling result) r tells }

-- bytes that are no text
pub no_text_said : {X : Type 0} (limits : Limits) (call : List ℕ → Call) (payload : List ℕ) (s : Opened) (at n : ℕ) (r : Result Reply X) → (IsUtf8 payload → ⊥) → IsValidUpTo payload n → at ≡ n
    → Tells (IsFaultTold limits (faults.Expression (NotUtf8 at))) r → IsTextCalled limits call payload s (told_by r) s
no_text_said limits call payload s at n r none valid same tells =
    inr (at, none, subst (IsValidUpTo payload) (sym same) valid, said (IsFaultTold limits (faults.Expression (NotUtf8 at))) s r tells)

-- bytes that are the text
pub text_called : {X : Type 0} (limits : Limits) (call : List ℕ → Call) (payload text : List ℕ) (old new : Opened) (answer : edits.Reply) (r : Result Reply X) → text ≡ payload
    → IsCall old (call text) answer new → added (call payload) answer ≡ [] → Tells (IsAnswerTold limits answer) r → IsTextCalled limits call payload old (told_by r) new
text_called limits call payload text old new answer r same h none tells =
    inl (called limits (call payload) old new answer r (subst (λ (bytes : List ℕ). IsCall old (call bytes) answer new) same h) none tells)

pub text_added : (limits : Limits) (payload text : List ℕ) (old new : Opened) (made : Unit {0}) (t : Told) → text ≡ payload → IsCall old (edits.Add text) (edits.Added (Ok made)) new
    → IsAnswerTold limits (edits.Added (Ok made)) t → IsTextCalled limits edits.Add payload old t new
text_added limits payload text old new made t same h tells =
    inl (called_ok limits (edits.Add payload) old new (edits.Added (Ok made)) t (subst (λ (bytes : List ℕ). IsCall old (edits.Add bytes) (edits.Added (Ok made)) new) same h) tells)

pub told_same : (s u : Status) (a b : List ℕ) → s ≡ u → a ≡ b → told s a ≡ told u b
told_same s u a b same equal = ap (λ (x : Status). told x a) same ∙ ap (told u) equal
