-- What a run of `session` was asked and what it left.
use Rattle.std.proofs.Common.{◌≡◌, ◌∙◌, ◌++◌, ◌∷◌, [], ℕ, List, Option, Some, None, ap, inl, inr, refl, sym, subst, append_assoc}
use Rattle.std.specs.List.{flat_map}
use Rattle.std.specs.Io.KnownBytes.{Consumes, IsAtEnd, Keeps}
use Rattle.cli.proofs.Filed.{calls_of, one_document}
use Rattle.cli.specs.Filing.{Filed, filing_service}
use Rattle.cli.specs.SpokenSessions.{AreRepliesTold, SpokenSessionsAreAnswered}
use Rattle.profile.specs.Faults.{OpensKnown}
use Rattle.telling.specs.Devices.{Device}
use Rattle.session.specs.Edits.{IsSessionOver}
use Rattle.session.specs.Sessions.{as_read}
use Rattle.source_lines.specs.Sources.{SourceState}
use Rattle.speech.proofs.Exchanging.{exchanged}
use Rattle.speech.specs.Conversations.{Exchange, IsLast, text_asked}
use Rattle.speech.specs.Wholes.{IsEndBehind, IsExchanged}
use Rattle.speech.specs.declared.conversation.Ending.{Ending}
use Rattle.speech.specs.declared.conversation.Ending.TheVariants as endings

-- ---- what was asked

-- the bytes that come from a source that has this left stand at its front; behind them is what was read ahead, and what is left in the source
left_behind : (input : List ℕ) (left left' : Option (List ℕ)) (read : List ℕ) → left ≡ Some input → Consumes left left' read → (rest : List ℕ) × (left' ≡ Some rest) × (input ≡ read ++ rest)
left_behind input None left' read is consumed = absurd (cc)
left_behind input (Some xs) None read is consumed = absurd consumed
left_behind input (Some xs) (Some ys) read is consumed = (ys, refl, sym (same_some xs input is) ∙ consumed)
  where
    same_some : (a b : List ℕ) → Some a ≡ Some b → a ≡ b
    same_some a b e = cc

kept_left : (input : List ℕ) (left : Option (List ℕ)) → Keeps (Some input) left → left ≡ Some input
kept_left input None kept = absurd kept
kept_left input (Some xs) kept = ap Some kept

-- ---- nothing is left at the end

no_front : (xs ys : List ℕ) → xs ++ ys ≡ [] → xs ≡ []
no_front [] ys none = refl
no_front (x ∷ xs) ys none = absurd (cc)

nothing_left : (rest : List ℕ) (left' : Option (List ℕ)) (read : List ℕ) → Consumes (Some rest) left' read → read ≡ [] → IsAtEnd left' → rest ≡ []
nothing_left rest None read consumed none end = absurd consumed
nothing_left rest (Some ys) read consumed none end = consumed ∙ ap (λ (front : List ℕ). front ++ ys) none ∙ end

no_back : (xs ys : List ℕ) → xs ++ ys ≡ [] → ys ≡ []
no_back [] ys none = none
no_back (x ∷ xs) ys none = absurd (cc)

all_asked : (ahead rest : List ℕ) (then after : SourceState) → then.left ≡ Some rest → IsLast ahead then after [] → ahead ++ rest ≡ []
all_asked ahead rest then after is last =
    let comes = last.comes in
    let none : ahead ++ comes.read ≡ [] = comes.in_order in
    let P : Option (List ℕ) → Type 0 = λ left. Consumes left after.left comes.read in
    let gone = nothing_left rest after.left comes.read (subst P is comes.given.consumed) (no_back ahead comes.read none) last.end in
    ap (λ (front : List ℕ). front ++ rest) (no_front ahead comes.read none) ∙ gone

told_behind : (xs : List Exchange) (ahead rest : List ℕ) (then after : SourceState) (sink sink' : Device) (ending : Ending) → then.left ≡ Some rest → IsEndBehind xs ahead then after sink sink' ending → AreRepliesTold xs (ahead ++ rest) sink sink' ending
told_behind xs ahead rest then after sink sink' endings.End is (last, takes) = (all_asked ahead rest then after is last, takes)
told_behind xs ahead rest then after sink sink' (endings.Refused fault) is (refused, takes) = takes
told_behind xs ahead rest then after sink sink' endings.Unwritten is (inl (same, fails)) = inl fails
told_behind xs ahead rest then after sink sink' endings.Unwritten is (inr (fault, refused, fails)) = inr (fault, fails)

-- ---- the law

pub sessions_are_answered : SpokenSessionsAreAnswered
sessions_are_answered told document limits s content content' old new status bytes input holds hears is =
    let service = filing_service s.is_known told document in
    let before : Filed = record { service = is.service; content = content; failed_writes = s.failed_before } in
    let behind : Filed = record { service = is.last; content = content'; failed_writes = s.failed_behind } in
    let e : IsExchanged service before behind is.before is.after old.out new.out is.ending = exchanged service before behind is.before is.after old.out new.out is.ending is.spoken in
    let Left : Option (List ℕ) → Type 0 = λ held. Keeps held is.before.left in
    let there = left_behind input is.before.left e.then.left e.read.read (kept_left input is.before.left (subst Left hears is.input.left)) e.read.given.consumed in
    let Opens : Option (List ℕ) → Type 0 = λ held. OpensKnown limits.version held limits.max_bytes (as_read is.service.session) in
    let over : IsSessionOver limits.version bytes is.service.session = record { read = (subst Opens holds is.opened.read).0; session = is.opened.session } in
    record {
      first = is.service.session;
      last = is.last.session;
      opened = over;
      unserved = is.opened.unserved;
      xs = e.xs;
      rest = e.ahead ++ there.0;
      asked = there.2 ∙ ap (λ (front : List ℕ). front ++ there.0) e.read.in_order ∙ append_assoc (flat_map text_asked e.xs) e.ahead there.0;
      calls = calls_of s.is_known told document before behind e.xs e.run;
      document = one_document s.is_known told document limits.version bytes before behind e.xs over e.run;
      ending = is.ending;
      told = told_behind e.xs e.ahead there.0 e.then is.after old.out new.out is.ending there.1 e.end;
      status_is = is.status_is;
    }
