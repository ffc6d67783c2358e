-- Reading trees up to the parenthesis that closes them.
use Rattle.std.proofs.Common.{◌≡◌, ℕ, List, [], ◌∷◌, ◌++◌, Bool, true, false, Option, Some, None, Result, Ok, Err, refl, sym, ap, ◌∙◌}
use Rattle.std.specs.Result.{IfOk}
use Rattle.std.proofs.lemmas.Bool.{false≢true}
use Rattle.std.proofs.lemmas.Option.{none-some, same_Some}
use Rattle.fs_lexer.specs.declared.token.Kind.{Kind}
use Rattle.fs_lexer.specs.declared.token.Kind.TheVariants.{Closing}
use Rattle.fs_lexer.specs.Spelling.{Token}
use Rattle.fs_parser.specs.Name.{Prefixes, StandForOne}
use Rattle.fs_parser.specs.Tree.{Tree, Trees, AreClosed}
use Rattle.fs_parser.specs.View.{trees_from}
use Rattle.fs_parser.specs.Machine.{Pending, Nothing, Word, Text, Typed, Frame, State, step_at, step, ends_at, ends, finish_at, finish, finish_before, start}
use Rattle.fs_parser.specs.State.{Gives, Fails}
use Rattle.fs_parser.specs.declared.fault.ParseFault.{ParseFault}
use Rattle.fs_parser.specs.declared.fault.ParseFault.TheVariants as faults
use Rattle.fs_parser.proofs.Names.{name_of}
use Rattle.fs_parser.proofs.Run.{then_run, run, closed_or, inside}
use Rattle.fs_parser.proofs.Complete.{list_from, back, all_read}
use Rattle.fs_parser.proofs.Sound.{read_is}

-- ---- the closing parenthesis

pub ends_closing : (frames : List Frame) (pending : Pending) (kind : Kind) → ends_at frames pending kind ≡ true → kind ≡ Closing
ends_closing [] Nothing Closing e = refl
ends_closing [] (Text at text) Closing e = refl
ends_closing _ _ _ e = absurd (false≢true e)

-- no tree goes on with it
ends_stuck : (limit : ℕ) (name : Option (List ℕ)) (frames : List Frame) (done : List Tree) (pending : Pending) (kind : Kind) (t : Token)
    → ends_at frames pending kind ≡ true → step_at limit name frames done pending kind t ≡ None
ends_stuck limit name [] done Nothing Closing t e = refl
ends_stuck limit name [] done (Text at text) Closing t e = refl
ends_stuck limit name _ done _ _ t e = absurd (false≢true e)

then_none : (limit : ℕ) (prefixes : Prefixes) (o : Option State) → then_run o (inside limit prefixes []) ≡ None
then_none limit prefixes None = refl
then_none limit prefixes (Some s) = refl

then_same : (o : Option State) (f g : State → Option (List Tree)) → ((s : State) → f s ≡ g s) → then_run o f ≡ then_run o g
then_same None f g same = refl
then_same (Some s) f g same = same s

-- the last token closes the trees, or none are whole before it
last_closes : (frames : List Frame) (done : List Tree) (pending : Pending) (s : State) (other : Option (List Tree)) → finish s ≡ finish_at frames done pending → other ≡ None
    → closed_or (ends_at frames pending Closing) [] s other ≡ finish_at frames done pending
last_closes [] done Nothing s other e none = e
last_closes [] done (Text at text) s other e none = e
last_closes [] done (Word at text) s other e none = none
last_closes [] done (Typed at text) s other e none = none
last_closes (f ∷ frames) done pending s other e none = none

none_closed : (inner : List Token) (c : Token) (s : State) (other : Option (List Tree)) → closed_or true (inner ++ c ∷ []) s other ≡ None
none_closed [] c s other = refl
none_closed (t ∷ inner) c s other = refl

-- what is read before the last token, which closes
pub inside_run : (limit : ℕ) (prefixes : Prefixes) (inner : List Token) (c : Token) → c.kind ≡ Closing → (s : State) → inside limit prefixes (inner ++ c ∷ []) s ≡ run limit prefixes inner s
inside_run limit prefixes [] c closes s =
    let none = then_none limit prefixes (step limit (name_of prefixes c) s c) in
    ap (λ (kind : Kind). closed_or (ends_at s.frames s.pending kind) [] s (then_run (step limit (name_of prefixes c) s c) (inside limit prefixes []))) closes
    ∙ last_closes s.frames s.done s.pending s (then_run (step limit (name_of prefixes c) s c) (inside limit prefixes [])) refl none
inside_run limit prefixes (t ∷ inner) c closes s = go (λ next. inside_run limit prefixes inner c closes next) (ends s t) refl
  where
    go : ((next : State) → inside limit prefixes (inner ++ c ∷ []) next ≡ run limit prefixes inner next) → (b : Bool) → ends s t ≡ b
        → closed_or b (inner ++ c ∷ []) s (then_run (step limit (name_of prefixes t) s t) (inside limit prefixes (inner ++ c ∷ []))) ≡ then_run (step limit (name_of prefixes t) s t) (run limit prefixes inner)
    go later true e =
        none_closed inner c s (then_run (step limit (name_of prefixes t) s t) (inside limit prefixes (inner ++ c ∷ [])))
        ∙ sym (ap (λ (o : Option State). then_run o (run limit prefixes inner)) (ends_stuck limit (name_of prefixes t) s.frames s.done s.pending t.kind t e))
    go later false e = then_same (step limit (name_of prefixes t) s t) (inside limit prefixes (inner ++ c ∷ [])) (run limit prefixes inner) later

-- ---- and back

pub record IsInside (limit : ℕ) (prefixes : Prefixes) (tokens : List Token) (s : State) (trees : List Tree) : Type 0 where
  pub inner : List Token
  pub closing : Token
  pub tokens_are : tokens ≡ inner ++ closing ∷ []
  pub closes : closing.kind ≡ Closing
  pub runs : run limit prefixes inner s ≡ Some trees

inside_split : (limit : ℕ) (prefixes : Prefixes) (tokens : List Token) (s : State) (trees : List Tree) → inside limit prefixes tokens s ≡ Some trees → IsInside limit prefixes tokens s trees
inside_split limit prefixes [] s trees e = absurd (none-some trees e)
inside_split limit prefixes (t ∷ ts) s trees e = go (λ next k. inside_split limit prefixes ts next trees k) ts refl (ends s t) refl e
  where
    stepped : ((next : State) → inside limit prefixes ts next ≡ Some trees → IsInside limit prefixes ts next trees)
        → (o : Option State) → step limit (name_of prefixes t) s t ≡ o → then_run o (inside limit prefixes ts) ≡ Some trees → IsInside limit prefixes (t ∷ ts) s trees
    stepped later None k x = absurd (none-some trees x)
    stepped later (Some next) k x =
        let r = later next x in
        record {
          inner = t ∷ r.inner;
          closing = r.closing;
          tokens_are = ap (λ (z : List Token). t ∷ z) r.tokens_are;
          closes = r.closes;
          runs = ap (λ (o : Option State). then_run o (run limit prefixes r.inner)) k ∙ r.runs;
        }

    go : ((next : State) → inside limit prefixes ts next ≡ Some trees → IsInside limit prefixes ts next trees)
        → (us : List Token) → us ≡ ts → (b : Bool) → ends s t ≡ b → closed_or b us s (then_run (step limit (name_of prefixes t) s t) (inside limit prefixes ts)) ≡ Some trees → IsInside limit prefixes (t ∷ ts) s trees
    go later [] same true k x = record { inner = []; closing = t; tokens_are = ap (λ (z : List Token). t ∷ z) (sym same); closes = ends_closing s.frames s.pending t.kind k; runs = x }
    go later (u ∷ us) same true k x = absurd (none-some trees x)
    go later us same false k x = stepped later (step limit (name_of prefixes t) s t) refl x

pub inside_is : (limit : ℕ) (prefixes : Prefixes) (tokens : List Token) (trees : List Tree) → inside limit prefixes tokens start ≡ Some trees → AreClosed limit prefixes (trees_from trees) tokens
inside_is limit prefixes tokens trees e =
    let r = inside_split limit prefixes tokens start trees e in
    let k = read_is limit prefixes r.inner trees r.runs in
    record { inner = r.inner; closing = r.closing; tokens_are = r.tokens_are; closes = r.closes; are_trees = k.0; shallow = k.1 }

pub all_inside : (limit : ℕ) (prefixes : Prefixes) → StandForOne prefixes → (trees : Trees) (tokens : List Token) → AreClosed limit prefixes trees tokens → inside limit prefixes tokens start ≡ Some (list_from trees)
all_inside limit prefixes are trees tokens h =
    ap (λ (ts : List Token). inside limit prefixes ts start) h.tokens_are
    ∙ inside_run limit prefixes h.inner h.closing h.closes start
    ∙ all_read limit prefixes are trees h.inner h.are_trees h.shallow

-- ---- what the code gives

-- a refusal stays one where there is nothing else
pub fails_by : {X Y : Type 0} (e : ParseFault) (o : Option X) (p : Option Y) → (o ≡ None → p ≡ None) → Fails e o → Fails e p
fails_by faults.Memory o p f h = tt
fails_by (faults.Unexpected at) o p f h = f h
fails_by (faults.UnexpectedEnd at) o p f h = f h
fails_by (faults.UnknownPrefix at) o p f h = f h
fails_by (faults.PrefixTwice at) o p f h = f h
fails_by (faults.StandardPrefixChanged at) o p f h = f h
fails_by (faults.TooDeep at) o p f h = f h

pub found_by : {X : Type 0} (view : X → List Tree) (r : Result X ParseFault) (limit : ℕ) (prefixes : Prefixes) (tokens : List Token) → Gives view r (inside limit prefixes tokens start)
    → IfOk r (λ v. AreClosed limit prefixes (trees_from (view v)) tokens)
found_by view (Ok v) limit prefixes tokens h = inside_is limit prefixes tokens (view v) h
found_by view (Err e) limit prefixes tokens h = tt

pub only_by : {X : Type 0} (view : X → List Tree) (r : Result X ParseFault) (limit : ℕ) (prefixes : Prefixes) → StandForOne prefixes → (tokens : List Token) → Gives view r (inside limit prefixes tokens start)
    → (ts : Trees) → AreClosed limit prefixes ts tokens → Gives (λ v. trees_from (view v)) r (Some ts)
only_by {X} view r limit prefixes are tokens h ts k = go r h
  where
    found : inside limit prefixes tokens start ≡ Some (list_from ts)
    found = all_inside limit prefixes are ts tokens k

    none : inside limit prefixes tokens start ≡ None → Some ts ≡ None
    none h = absurd (none-some (list_from ts) (sym h ∙ found))

    go : (r : Result X ParseFault) → Gives view r (inside limit prefixes tokens start) → Gives (λ v. trees_from (view v)) r (Some ts)
    go (Ok v) h = ap Some (sym (back ts) ∙ ap trees_from (same_Some (list_from ts) (view v) (sym found ∙ h)))
    go (Err e) h = fails_by e (inside limit prefixes tokens start) (Some ts) none h

-- ---- one step

pub goes_on : (limit : ℕ) (prefixes : Prefixes) (t : Token) (ts : List Token) (s next : State) (name : Option (List ℕ)) (total : Option (List Tree))
    → name ≡ name_of prefixes t → ends s t ≡ false → step limit name s t ≡ Some next → inside limit prefixes (t ∷ ts) s ≡ total → inside limit prefixes ts next ≡ total
goes_on limit prefixes t ts s next name total same e h so_far =
    let k : step limit (name_of prefixes t) s t ≡ Some next = ap (λ (n : Option (List ℕ)). step limit n s t) (sym same) ∙ h in
    sym (ap (λ (o : Option State). then_run o (inside limit prefixes ts)) k)
    ∙ sym (ap (λ (b : Bool). closed_or b ts s (then_run (step limit (name_of prefixes t) s t) (inside limit prefixes ts))) e) ∙ so_far

pub stops : (limit : ℕ) (prefixes : Prefixes) (t : Token) (ts : List Token) (s : State) (name : Option (List ℕ)) (total : Option (List Tree)) (e : ParseFault)
    → name ≡ name_of prefixes t → ends s t ≡ false → Fails e (step limit name s t) → inside limit prefixes (t ∷ ts) s ≡ total → Fails e total
stops limit prefixes t ts s name total e same k h so_far =
    fails_by e (step limit name s t) total
    (λ none. sym so_far ∙ ap (λ (b : Bool). closed_or b ts s (then_run (step limit (name_of prefixes t) s t) (inside limit prefixes ts))) k
    ∙ ap (λ (o : Option State). then_run o (inside limit prefixes ts)) (ap (λ (n : Option (List ℕ)). step limit n s t) (sym same) ∙ none)) h

pub is_ended : (limit : ℕ) (prefixes : Prefixes) (t : Token) (ts : List Token) (s : State) (total : Option (List Tree))
    → ends s t ≡ true → inside limit prefixes (t ∷ ts) s ≡ total → finish_before ts s ≡ total
is_ended limit prefixes t ts s total e so_far =
    before ts s (then_run (step limit (name_of prefixes t) s t) (inside limit prefixes ts))
    ∙ sym (ap (λ (b : Bool). closed_or b ts s (then_run (step limit (name_of prefixes t) s t) (inside limit prefixes ts))) e) ∙ so_far
  where
    before : (ts : List Token) (s : State) (other : Option (List Tree)) → finish_before ts s ≡ closed_or true ts s other
    before [] s other = refl
    before (t ∷ ts) s other = refl
