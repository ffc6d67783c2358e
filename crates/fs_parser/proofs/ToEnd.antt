-- Reading trees, or just one, to the end of the tokens.
use Rattle.std.proofs.Common.{◌≡◌, ℕ, ◌+◌, ◌-◌, ◌≤◌, List, [], ◌∷◌, ◌++◌, Bool, true, false, Option, Some, None, Result, Ok, Err, length, take, drop, refl, sym, ap, ◌∙◌, arith, nat_lt}
use Rattle.std.specs.Option.{IfSome, IfNone}
use Rattle.std.specs.Result.{IfErr, IfOk}
use Rattle.std.proofs.lemmas.Bool.{false≢true}
use Rattle.std.proofs.lemmas.List.{append-nil, length-append}
use Rattle.std.proofs.lemmas.Option.{none-some, same_Some}
use Rattle.fs_lexer.specs.Spelling.{Token}
use Rattle.fs_lexer.specs.Views.{token_of}
use Rattle.fs_lexer.specs.declared.token.Kind.{Kind}
use Rattle.fs_lexer.specs.declared.token.Kind.TheVariants.{Opening, Closing, Equals, Carets, FullIri, Quoted, LanguageTag, Keyword, Integer, PrefixName, ShortName, NodeLabel}
use Rattle.fs_lexer.specs.declared.token.Token as lexer
use Rattle.fs_parser.specs.Machine.{Pending, Nothing, Word, Text, Typed, Frame, State, if_named, enter_if, enter, whole, leave, plain, behind_text, behind_word, begins_second_at, begins_second, step_at, step, finish_at, finish, only_one, start}
use Rattle.fs_parser.specs.Name.{Prefixes, StandForOne, IsNameOf}
use Rattle.fs_parser.specs.State.{Gives, Fails, IsRefusal, name_of_code}
use Rattle.fs_parser.specs.Tree.{Tree, Trees, Name, PlainLiteral, TypedLiteral, Empty, Then, AreShallow, IsShallow}
use Rattle.fs_parser.specs.View.{tokens_of, trees_from, iri_of}
use Rattle.fs_parser.specs.declared.fault.ParseFault.{ParseFault}
use Rattle.fs_parser.specs.declared.iri.Iri as code_iri
use Rattle.fs_parser.proofs.Complete.{list_from, back, all_read}
use Rattle.fs_parser.proofs.Documents.{refusal_fails}
use Rattle.fs_parser.proofs.Inside.{fails_by}
use Rattle.fs_parser.proofs.Names.{name_of}
use Rattle.fs_parser.proofs.Run.{then_run, run}
use Rattle.fs_parser.proofs.Sound.{read_is}
use Rattle.fs_parser.proofs.Steps.{IsFirst, name_same, tokens_front}

-- ---- the trees

read_shallow : (limit : ℕ) (prefixes : Prefixes) (tokens : List Token) (trees : List Tree) → run limit prefixes tokens start ≡ Some trees → AreShallow limit prefixes (trees_from trees) tokens
read_shallow limit prefixes tokens trees e = let k = read_is limit prefixes tokens trees e in record { are_trees = k.0; shallow = k.1 }

shallow_read : (limit : ℕ) (prefixes : Prefixes) → StandForOne prefixes → (trees : Trees) (tokens : List Token) → AreShallow limit prefixes trees tokens → run limit prefixes tokens start ≡ Some (list_from trees)
shallow_read limit prefixes are trees tokens h = all_read limit prefixes are trees tokens h.are_trees h.shallow

pub trees_found : {X : Type 0} (view : X → List Tree) (r : Result X ParseFault) (limit : ℕ) (prefixes : Prefixes) (tokens : List Token) → Gives view r (run limit prefixes tokens start)
    → IfOk r (λ v. AreShallow limit prefixes (trees_from (view v)) tokens)
trees_found view (Ok v) limit prefixes tokens h = read_shallow limit prefixes tokens (view v) h
trees_found view (Err e) limit prefixes tokens h = tt

pub trees_only : {X : Type 0} (view : X → List Tree) (r : Result X ParseFault) (limit : ℕ) (prefixes : Prefixes) → StandForOne prefixes → (tokens : List Token) → Gives view r (run limit prefixes tokens start)
    → (ts : Trees) → AreShallow limit prefixes ts tokens → Gives (λ v. trees_from (view v)) r (Some ts)
trees_only {X} view r limit prefixes are tokens h ts k = go r h
  where
    found : run limit prefixes tokens start ≡ Some (list_from ts)
    found = shallow_read limit prefixes are ts tokens k

    go : (r : Result X ParseFault) → Gives view r (run limit prefixes tokens start) → Gives (λ v. trees_from (view v)) r (Some ts)
    go (Ok v) h = ap Some (sym (back ts) ∙ ap trees_from (same_Some (list_from ts) (view v) (sym found ∙ h)))
    go (Err e) h = fails_by e (run limit prefixes tokens start) (Some ts) (λ none. absurd (none-some (list_from ts) (sym none ∙ found))) h

-- ---- the one tree

one_shallow : (limit : ℕ) (prefixes : Prefixes) (tree : Tree) (tokens : List Token) → AreShallow limit prefixes (Then tree Empty) tokens → IsShallow limit prefixes tree tokens
one_shallow limit prefixes tree tokens h =
    let p = h.are_trees in
    let l = h.shallow in
    let same : p.0 ≡ tokens = sym (p.2 ∙ ap (λ (z : List Token). p.0 ++ z) p.4 ∙ append-nil p.0) in
    record { is_tree = rw (← same) p.3; shallow = omega arith }

shallow_one : (limit : ℕ) (prefixes : Prefixes) (tree : Tree) (tokens : List Token) → IsShallow limit prefixes tree tokens → AreShallow limit prefixes (Then tree Empty) tokens
shallow_one limit prefixes tree tokens h =
    let l = h.shallow in
    record { are_trees = (tokens, [], sym (append-nil tokens), h.is_tree, refl); shallow = omega arith }

tree_read : (limit : ℕ) (prefixes : Prefixes) → StandForOne prefixes → (tree : Tree) (tokens : List Token) → IsShallow limit prefixes tree tokens → run limit prefixes tokens start ≡ Some (tree ∷ [])
tree_read limit prefixes are tree tokens h = shallow_read limit prefixes are (Then tree Empty) tokens (shallow_one limit prefixes tree tokens h)

just_one : (o : Option (List Tree)) (tree : Tree) → only_one o ≡ Some tree → o ≡ Some (tree ∷ [])
just_one None tree e = absurd (none-some tree e)
just_one (Some []) tree e = absurd (none-some tree e)
just_one (Some (t ∷ [])) tree e = ap (λ (z : Tree). Some (z ∷ [])) (same_Some t tree e)
just_one (Some (t ∷ u ∷ ts)) tree e = absurd (none-some tree e)

pub tree_found : {X : Type 0} (view : X → Tree) (r : Result X ParseFault) (limit : ℕ) (prefixes : Prefixes) (tokens : List Token) → Gives view r (only_one (run limit prefixes tokens start))
    → IfOk r (λ v. IsShallow limit prefixes (view v) tokens)
tree_found view (Ok v) limit prefixes tokens h =
    one_shallow limit prefixes (view v) tokens (read_shallow limit prefixes tokens (view v ∷ []) (just_one (run limit prefixes tokens start) (view v) h))
tree_found view (Err e) limit prefixes tokens h = tt

pub tree_only : {X : Type 0} (view : X → Tree) (r : Result X ParseFault) (limit : ℕ) (prefixes : Prefixes) → StandForOne prefixes → (tokens : List Token) → Gives view r (only_one (run limit prefixes tokens start))
    → (t : Tree) → IsShallow limit prefixes t tokens → Gives view r (Some t)
tree_only {X} view r limit prefixes are tokens h t k = go r h
  where
    found : only_one (run limit prefixes tokens start) ≡ Some t
    found = ap only_one (tree_read limit prefixes are t tokens k)

    go : (r : Result X ParseFault) → Gives view r (only_one (run limit prefixes tokens start)) → Gives view r (Some t)
    go (Ok v) h = sym found ∙ h
    go (Err e) h = fails_by e (only_one (run limit prefixes tokens start)) (Some t) (λ none. absurd (none-some t (sym none ∙ found))) h

-- ---- one step

pub run_goes_on : (limit : ℕ) (prefixes : Prefixes) → StandForOne prefixes → (ts : List lexer.Token) (d : lexer.Token) (s next : State) (r : Option code_iri.Iri) (total : Option (List Tree)) → IsFirst ts d
    → IfSome r (λ i. IsNameOf prefixes (token_of d) (iri_of i)) → IfNone r ((iri : List ℕ) → IsNameOf prefixes (token_of d) iri → ⊥)
    → step limit (name_of_code r) s (token_of d) ≡ Some next → run limit prefixes (tokens_of ts) s ≡ total
    → run limit prefixes (tokens_of (take (length ts - 1) (drop 1 ts))) next ≡ total
run_goes_on limit prefixes are ts d s next r total l some none h so_far =
    let t = token_of d in
    let rest = tokens_of (take (length ts - 1) (drop 1 ts)) in
    let k : step limit (name_of prefixes t) s t ≡ Some next = ap (λ (n : Option (List ℕ)). step limit n s t) (sym (name_same prefixes are t r some none)) ∙ h in
    sym (ap (λ (o : Option State). then_run o (run limit prefixes rest)) k) ∙ ap (λ (z : List Token). run limit prefixes z s) (sym (tokens_front ts d l)) ∙ so_far

run_stops : (limit : ℕ) (prefixes : Prefixes) → StandForOne prefixes → (ts : List lexer.Token) (d : lexer.Token) (s : State) (r : Option code_iri.Iri) (total : Option (List Tree)) (e : ParseFault) → IsFirst ts d
    → IfSome r (λ i. IsNameOf prefixes (token_of d) (iri_of i)) → IfNone r ((iri : List ℕ) → IsNameOf prefixes (token_of d) iri → ⊥)
    → Fails e (step limit (name_of_code r) s (token_of d)) → run limit prefixes (tokens_of ts) s ≡ total → Fails e total
run_stops limit prefixes are ts d s r total e l some none h so_far =
    let t = token_of d in
    let rest = tokens_of (take (length ts - 1) (drop 1 ts)) in
    fails_by e (step limit (name_of_code r) s t) total
    (λ stuck. sym so_far ∙ ap (λ (z : List Token). run limit prefixes z s) (tokens_front ts d l)
    ∙ ap (λ (o : Option State). then_run o (run limit prefixes rest)) (ap (λ (n : Option (List ℕ)). step limit n s t) (sym (name_same prefixes are t r some none)) ∙ stuck)) h

pub trees_stop : (limit : ℕ) (prefixes : Prefixes) → StandForOne prefixes → (ts : List lexer.Token) (d : lexer.Token) (s : State) (r : Option code_iri.Iri) (all : List Token) (e : ParseFault) → IsFirst ts d
    → IfSome r (λ i. IsNameOf prefixes (token_of d) (iri_of i)) → IfNone r ((iri : List ℕ) → IsNameOf prefixes (token_of d) iri → ⊥)
    → Fails e (step limit (name_of_code r) s (token_of d)) → run limit prefixes (tokens_of ts) s ≡ run limit prefixes all start
    → (trees : Trees) → AreShallow limit prefixes trees all → Fails e (Some trees)
trees_stop limit prefixes are ts d s r all e l some none h so_far trees k =
    fails_by e (run limit prefixes all start) (Some trees) (λ gone. absurd (none-some (list_from trees) (sym gone ∙ shallow_read limit prefixes are trees all k)))
    (run_stops limit prefixes are ts d s r (run limit prefixes all start) e l some none h so_far)

pub tree_stops : (limit : ℕ) (prefixes : Prefixes) → StandForOne prefixes → (ts : List lexer.Token) (d : lexer.Token) (s : State) (r : Option code_iri.Iri) (all : List Token) (e : ParseFault) → IsFirst ts d
    → IfSome r (λ i. IsNameOf prefixes (token_of d) (iri_of i)) → IfNone r ((iri : List ℕ) → IsNameOf prefixes (token_of d) iri → ⊥)
    → Fails e (step limit (name_of_code r) s (token_of d)) → run limit prefixes (tokens_of ts) s ≡ run limit prefixes all start
    → (tree : Tree) → IsShallow limit prefixes tree all → Fails e (Some tree)
tree_stops limit prefixes are ts d s r all e l some none h so_far tree k =
    fails_by e (run limit prefixes all start) (Some tree) (λ gone. absurd (none-some (tree ∷ []) (sym gone ∙ tree_read limit prefixes are tree all k)))
    (run_stops limit prefixes are ts d s r (run limit prefixes all start) e l some none h so_far)

-- where no token is left, the run gives what the state finishes with
pub run_ends : (limit : ℕ) (prefixes : Prefixes) (ts : List lexer.Token) (s : State) (total : Option (List Tree)) → length ts ≡ 0 → run limit prefixes (tokens_of ts) s ≡ total → finish s ≡ total
run_ends limit prefixes [] s total l so_far = so_far
run_ends limit prefixes (t ∷ ts) s total l so_far = absurd (omega arith)

-- ---- a second tree

-- how many trees are whole outside of all parentheses
abbrev whole_outside : List Frame → List Tree → ℕ
whole_outside [] done = length done
whole_outside (f ∷ frames) done = whole_outside frames f.before

abbrev waiting : Pending → ℕ
waiting Nothing = 0
waiting _ = 1

-- how many trees are whole or begun outside of all parentheses
abbrev begun_outside : List Frame → List Tree → Pending → ℕ
begun_outside [] done pending = length done + waiting pending
begun_outside (f ∷ frames) done pending = whole_outside frames f.before + 1

-- after a token one more is begun than was whole
abbrev Begins : ℕ → Option State → Type 0
Begins n None = Unit {0}
Begins n (Some s) = n + 1 ≤ begun_outside s.frames s.done s.pending

outside_more : (frames : List Frame) (done : List Tree) (tree : Tree) → whole_outside frames done ≤ whole_outside frames (done ++ tree ∷ [])
outside_more [] done tree = omega (arith, length-append done (tree ∷ []))
outside_more (f ∷ frames) done tree = omega arith

at_most_begun : (frames : List Frame) (done : List Tree) (pending : Pending) → begun_outside frames done pending ≤ whole_outside frames done + 1
at_most_begun [] done Nothing = omega arith
at_most_begun [] done (Word at keyword) = omega arith
at_most_begun [] done (Text at text) = omega arith
at_most_begun [] done (Typed at text) = omega arith
at_most_begun (f ∷ frames) done pending = omega arith

add_begins : (frames : List Frame) (done : List Tree) (tree : Tree) → whole_outside frames done + 1 ≤ begun_outside frames (done ++ tree ∷ []) Nothing
add_begins [] done tree = omega (arith, length-append done (tree ∷ []))
add_begins (f ∷ frames) done tree = omega arith

named_begins : (name : Option (List ℕ)) (frames : List Frame) (done : List Tree) (tree : List ℕ → Tree) → Begins (whole_outside frames done) (if_named name frames done tree)
named_begins None frames done tree = tt
named_begins (Some iri) frames done tree = add_begins frames done (tree iri)

enter_begins : (limit : ℕ) (frames : List Frame) (done : List Tree) (at : ℕ) (keyword : Option (List ℕ)) → Begins (whole_outside frames done) (enter limit frames done at keyword)
enter_begins limit frames done at keyword = go (nat_lt (length frames) limit)
  where
    go : (b : Bool) → Begins (whole_outside frames done) (enter_if b frames done at keyword)
    go true = omega arith
    go false = tt

leave_begins : (frames : List Frame) (done : List Tree) → Begins (whole_outside frames done) (leave frames done)
leave_begins [] done = tt
leave_begins (f ∷ frames) done = add_begins frames f.before (whole f.at f.keyword done)

pending_begins : (frames : List Frame) (done : List Tree) (pending : Pending) → waiting pending ≡ 1 → whole_outside frames done + 1 ≤ begun_outside frames done pending
pending_begins [] done pending e = omega (arith, e)
pending_begins (f ∷ frames) done pending e = omega arith

plain_begins : (limit : ℕ) (name : Option (List ℕ)) (frames : List Frame) (done : List Tree) (kind : Kind) (t : Token) → Begins (whole_outside frames done) (plain limit name frames done kind t)
plain_begins limit name frames done Opening t = enter_begins limit frames done t.at None
plain_begins limit name frames done Closing t = leave_begins frames done
plain_begins limit name frames done Equals t = tt
plain_begins limit name frames done Carets t = tt
plain_begins limit name frames done FullIri t = named_begins name frames done (Name t.at)
plain_begins limit name frames done Quoted t = pending_begins frames done (Text t.at t.text) refl
plain_begins limit name frames done LanguageTag t = tt
plain_begins limit name frames done Keyword t = pending_begins frames done (Word t.at t.text) refl
plain_begins limit name frames done Integer t = add_begins frames done _
plain_begins limit name frames done PrefixName t = tt
plain_begins limit name frames done ShortName t = named_begins name frames done (Name t.at)
plain_begins limit name frames done NodeLabel t = add_begins frames done _

begins_less : (m n : ℕ) (o : Option State) → m ≤ n → Begins n o → Begins m o
begins_less m n None l h = tt
begins_less m n (Some s) l h = omega (arith, h)

text_begins : (limit : ℕ) (name : Option (List ℕ)) (frames : List Frame) (done : List Tree) (at : ℕ) (text : List ℕ) (kind : Kind) (t : Token)
    → Begins (whole_outside frames done) (behind_text limit name frames done at text kind t)
text_begins limit name frames done at text LanguageTag t = add_begins frames done _
text_begins limit name frames done at text Carets t = pending_begins frames done (Typed at text) refl
text_begins limit name frames done at text kind t =
    begins_less (whole_outside frames done) (whole_outside frames (done ++ PlainLiteral at text ∷ [])) (plain limit name frames (done ++ PlainLiteral at text ∷ []) kind t)
    (outside_more frames done (PlainLiteral at text)) (plain_begins limit name frames (done ++ PlainLiteral at text ∷ []) kind t)

word_begins : (limit : ℕ) (frames : List Frame) (done : List Tree) (at : ℕ) (keyword : List ℕ) (kind : Kind) → Begins (whole_outside frames done) (behind_word limit frames done at keyword kind)
word_begins limit frames done at keyword Opening = enter_begins limit frames done at (Some keyword)
word_begins limit frames done at keyword _ = tt

step_begins : (limit : ℕ) (name : Option (List ℕ)) (frames : List Frame) (done : List Tree) (pending : Pending) (kind : Kind) (t : Token)
    → Begins (whole_outside frames done) (step_at limit name frames done pending kind t)
step_begins limit name frames done Nothing kind t = plain_begins limit name frames done kind t
step_begins limit name frames done (Word at keyword) kind t = word_begins limit frames done at keyword kind
step_begins limit name frames done (Text at text) kind t = text_begins limit name frames done at text kind t
step_begins limit name frames done (Typed at text) kind t = named_begins name frames done (TypedLiteral at text)

-- after a token behind a whole tree, outside of all parentheses, a second tree is begun
second_begins : (limit : ℕ) (name : Option (List ℕ)) (frames : List Frame) (done : List Tree) (pending : Pending) (kind : Kind) (t : Token)
    → begins_second_at frames done pending kind ≡ true → Begins 1 (step_at limit name frames done pending kind t)
second_begins limit name (f ∷ frames) done pending kind t e = absurd (false≢true e)
second_begins limit name [] [] Nothing kind t e = absurd (false≢true e)
second_begins limit name [] (d ∷ done) Nothing kind t e =
    begins_less 1 (length (d ∷ done)) (plain limit name [] (d ∷ done) kind t) (omega arith) (plain_begins limit name [] (d ∷ done) kind t)
second_begins limit name [] done (Word at keyword) kind t e = absurd (false≢true e)
second_begins limit name [] done (Typed at text) kind t e = absurd (false≢true e)
second_begins limit name [] done (Text at text) LanguageTag t e = absurd (false≢true e)
second_begins limit name [] done (Text at text) Carets t e = absurd (false≢true e)
second_begins limit name [] done (Text at text) kind t e =
    begins_less 1 (length (done ++ PlainLiteral at text ∷ [])) (plain limit name [] (done ++ PlainLiteral at text ∷ []) kind t)
    (omega (arith, length-append done (PlainLiteral at text ∷ []))) (plain_begins limit name [] (done ++ PlainLiteral at text ∷ []) kind t)

-- what is begun is whole at the end
finish_counts : (frames : List Frame) (done : List Tree) (pending : Pending) (trees : List Tree) → finish_at frames done pending ≡ Some trees → begun_outside frames done pending ≤ length trees
finish_counts [] done Nothing trees e = let same : length done ≡ length trees = ap length (same_Some done trees e) in omega arith
finish_counts [] done (Text at text) trees e =
    let same : length (done ++ PlainLiteral at text ∷ []) ≡ length trees = ap length (same_Some (done ++ PlainLiteral at text ∷ []) trees e) in
    omega (arith, length-append done (PlainLiteral at text ∷ []))
finish_counts [] done (Word at keyword) trees e = absurd (none-some trees e)
finish_counts [] done (Typed at text) trees e = absurd (none-some trees e)
finish_counts (f ∷ frames) done pending trees e = absurd (none-some trees e)

run_counts : (limit : ℕ) (prefixes : Prefixes) (ts : List Token) (s : State) (trees : List Tree) → run limit prefixes ts s ≡ Some trees → begun_outside s.frames s.done s.pending ≤ length trees
run_counts limit prefixes [] s trees e = finish_counts s.frames s.done s.pending trees e
run_counts limit prefixes (t ∷ ts) s trees e =
    go (λ next k. run_counts limit prefixes ts next trees k) (step limit (name_of prefixes t) s t) (step_begins limit (name_of prefixes t) s.frames s.done s.pending t.kind t) e
  where
    go : ((next : State) → run limit prefixes ts next ≡ Some trees → begun_outside next.frames next.done next.pending ≤ length trees)
        → (o : Option State) → Begins (whole_outside s.frames s.done) o → then_run o (run limit prefixes ts) ≡ Some trees → begun_outside s.frames s.done s.pending ≤ length trees
    go later None h x = absurd (none-some trees x)
    go later (Some next) h x = let k = later next x in omega (arith, h, at_most_begun s.frames s.done s.pending)

second_counts : (limit : ℕ) (prefixes : Prefixes) (t : Token) (ts : List Token) (s : State) (trees : List Tree) → begins_second s t ≡ true → run limit prefixes (t ∷ ts) s ≡ Some trees → 2 ≤ length trees
second_counts limit prefixes t ts s trees second e = go (step limit (name_of prefixes t) s t) (second_begins limit (name_of prefixes t) s.frames s.done s.pending t.kind t second) e
  where
    go : (o : Option State) → Begins 1 o → then_run o (run limit prefixes ts) ≡ Some trees → 2 ≤ length trees
    go None h x = absurd (none-some trees x)
    go (Some next) h x = let k = run_counts limit prefixes ts next trees x in omega (arith, h)

-- and then the tokens are no one tree
pub no_second : (limit : ℕ) (prefixes : Prefixes) → StandForOne prefixes → (ts : List lexer.Token) (d : lexer.Token) (s : State) (all : List Token) → IsFirst ts d
    → begins_second s (token_of d) ≡ true → run limit prefixes (tokens_of ts) s ≡ run limit prefixes all start
    → (tree : Tree) → IsShallow limit prefixes tree all → ⊥
no_second limit prefixes are ts d s all l second so_far tree k =
    let e = ap (λ (z : List Token). run limit prefixes z s) (sym (tokens_front ts d l)) ∙ so_far ∙ tree_read limit prefixes are tree all k in
    let n = second_counts limit prefixes (token_of d) (tokens_of (take (length ts - 1) (drop 1 ts))) s (tree ∷ []) second e in
    absurd (omega (arith, n))

-- ---- what a refusal says

pub refused_by : {X Y : Type 0} (view : X → Y) (r : Result X ParseFault) (P : Y → Type 0) → ((y : Y) → P y → Gives view r (Some y)) → IfErr r (λ e. IsRefusal e → (y : Y) → P y → ⊥)
refused_by view (Ok x) P only = tt
refused_by view (Err e) P only = λ refusal y p. refusal_fails e y refusal (only y p)
