-- What stands at the place of a fault.
use Rattle.std.proofs.Common.{◌≡◌, ℕ, zero, suc, ◌+◌, ◌-◌, ◌≤◌, List, [], ◌∷◌, ◌++◌, Bool, true, false, Option, Some, None, Result, Ok, Err, IfErr, length, take, drop, refl, sym, ap, ◌∙◌, subst, ◌⊎◌, inl, inr, arith, nat_lt, append_assoc}
use Rattle.std.specs.List.{Contains, slice_get}
use Rattle.std.specs.Prelude.{codes}
use Rattle.std.specs.Option.{IfSome, IfNone}
use Rattle.std.proofs.lemmas.List.{append-nil}
use Rattle.std.proofs.lemmas.List.Elements.{Contains-append_right, Contains-append_cases}
use Rattle.std.proofs.lemmas.Option.{none-some, same_Some}
use Rattle.lemmas.proofs.Members.{Contains-first, Contains-later}
use Rattle.fs_lexer.proofs.State.{spelled_slices}
use Rattle.fs_lexer.specs.Spelling.{Token, AreSlicesFrom}
use Rattle.fs_lexer.specs.declared.token.Token as lexer
use Rattle.fs_lexer.specs.declared.token.Kind.{Kind}
use Rattle.fs_lexer.specs.declared.token.Kind.TheVariants.{Opening, Closing, Equals, Carets, FullIri, Quoted, LanguageTag, Keyword, Integer, PrefixName, ShortName, NodeLabel}
use Rattle.fs_lexer.specs.Views.{token_of}
use Rattle.fs_parser.specs.Document.{AreDeclarations}
use Rattle.fs_parser.specs.Faults.{IsStart, end_of, last_place, opens, closes, opened, closed, IsTooMany, IsUnended, BeginsDeclaration, IsPlaced}
use Rattle.fs_parser.specs.Front.{BeginsWith, IsTaken}
use Rattle.fs_parser.specs.Laws.{TokensEndInText}
use Rattle.fs_parser.specs.Machine.{Pending, Nothing, Word, Text, Typed, Frame, State, ends, ends_at, finish_at, finish_before, if_named, enter_if, enter, leave, plain, behind_text, behind_word, step_at, step}
use Rattle.fs_parser.specs.Name.{Prefixes, standard_prefixes, IsNameOf, IsShort}
use Rattle.fs_parser.specs.FaultMeanings.{IsEnd, IsSaid, IsSaidOfTrees, IsSaidOfToken, IsSaidOfName, IsSaidOfIri, IsPlain}
use Rattle.fs_parser.specs.State.{Fails, Gives, frames_of, name_of_code}
use Rattle.fs_parser.specs.Tree.{Tree, Name, PlainLiteral, TypedLiteral}
use Rattle.fs_parser.specs.View.{tokens_of, iri_of}
use Rattle.fs_parser.specs.declared.fault.ParseFault.{ParseFault}
use Rattle.fs_parser.specs.declared.fault.ParseFault.TheVariants as faults
use Rattle.fs_parser.specs.declared.iri.Iri as code_iri
use Rattle.fs_parser.specs.declared.reader.Frame as code_frame
use Rattle.fs_parser.proofs.Documents.{HasRead, from_there, tokens_from}
use Rattle.fs_parser.proofs.Steps.{IsFirst, frames_length, tokens_front}

-- a full IRI or a short name
abbrev IsNameKind : Kind → Type 0
IsNameKind kind = (kind ≡ FullIri) ⊎ (kind ≡ ShortName)

-- ---- how many parentheses are open

-- the state after a token of the kind, before which so many were open
abbrev Counts : ℕ → Kind → Option State → Type 0
Counts n kind None = Unit {0}
Counts n kind (Some next) = length next.frames + closes kind ≡ n + opens kind

abbrev OnlyNames : Option (List ℕ) → Kind → Type 0
OnlyNames name kind = (iri : List ℕ) → name ≡ Some iri → IsNameKind kind

named_counts : (name : Option (List ℕ)) (frames : List Frame) (done : List Tree) (f : List ℕ → Tree) (kind : Kind) → OnlyNames name kind → Counts (length frames) kind (if_named name frames done f)
named_counts None frames done f kind is = tt
named_counts (Some iri) frames done f kind is =
    elim (is iri refl) [
      | inl e ↦ let a : opens kind ≡ 0 = ap opens e in let b : closes kind ≡ 0 = ap closes e in omega arith
      | inr e ↦ let a : opens kind ≡ 0 = ap opens e in let b : closes kind ≡ 0 = ap closes e in omega arith
    ]

enter_counts : (limit : ℕ) (frames : List Frame) (done : List Tree) (at : ℕ) (keyword : Option (List ℕ)) → Counts (length frames) Opening (enter limit frames done at keyword)
enter_counts limit frames done at keyword = go (nat_lt (length frames) limit)
  where
    go : (b : Bool) → Counts (length frames) Opening (enter_if b frames done at keyword)
    go true = omega arith
    go false = tt

leave_counts : (frames : List Frame) (done : List Tree) → Counts (length frames) Closing (leave frames done)
leave_counts [] done = tt
leave_counts (f ∷ frames) done = omega arith

plain_counts : (limit : ℕ) (name : Option (List ℕ)) (frames : List Frame) (done : List Tree) (kind : Kind) (t : Token) → OnlyNames name kind → Counts (length frames) kind (plain limit name frames done kind t)
plain_counts limit name frames done Opening t is = enter_counts limit frames done t.at None
plain_counts limit name frames done Closing t is = leave_counts frames done
plain_counts limit name frames done Equals t is = tt
plain_counts limit name frames done Carets t is = tt
plain_counts limit name frames done FullIri t is = named_counts name frames done (Name t.at) FullIri is
plain_counts limit name frames done Quoted t is = refl
plain_counts limit name frames done LanguageTag t is = tt
plain_counts limit name frames done Keyword t is = refl
plain_counts limit name frames done Integer t is = refl
plain_counts limit name frames done PrefixName t is = tt
plain_counts limit name frames done ShortName t is = named_counts name frames done (Name t.at) ShortName is
plain_counts limit name frames done NodeLabel t is = refl

text_counts : (limit : ℕ) (name : Option (List ℕ)) (frames : List Frame) (done : List Tree) (at : ℕ) (text : List ℕ) (kind : Kind) (t : Token) → OnlyNames name kind
    → Counts (length frames) kind (behind_text limit name frames done at text kind t)
text_counts limit name frames done at text LanguageTag t is = refl
text_counts limit name frames done at text Carets t is = refl
text_counts limit name frames done at text Opening t is = plain_counts limit name frames (done ++ PlainLiteral at text ∷ []) Opening t is
text_counts limit name frames done at text Closing t is = plain_counts limit name frames (done ++ PlainLiteral at text ∷ []) Closing t is
text_counts limit name frames done at text Equals t is = tt
text_counts limit name frames done at text FullIri t is = plain_counts limit name frames (done ++ PlainLiteral at text ∷ []) FullIri t is
text_counts limit name frames done at text Quoted t is = refl
text_counts limit name frames done at text Keyword t is = refl
text_counts limit name frames done at text Integer t is = refl
text_counts limit name frames done at text PrefixName t is = tt
text_counts limit name frames done at text ShortName t is = plain_counts limit name frames (done ++ PlainLiteral at text ∷ []) ShortName t is
text_counts limit name frames done at text NodeLabel t is = refl

word_counts : (limit : ℕ) (frames : List Frame) (done : List Tree) (at : ℕ) (keyword : List ℕ) (kind : Kind) → Counts (length frames) kind (behind_word limit frames done at keyword kind)
word_counts limit frames done at keyword Opening = enter_counts limit frames done at (Some keyword)
word_counts limit frames done at keyword Closing = tt
word_counts limit frames done at keyword Equals = tt
word_counts limit frames done at keyword Carets = tt
word_counts limit frames done at keyword FullIri = tt
word_counts limit frames done at keyword Quoted = tt
word_counts limit frames done at keyword LanguageTag = tt
word_counts limit frames done at keyword Keyword = tt
word_counts limit frames done at keyword Integer = tt
word_counts limit frames done at keyword PrefixName = tt
word_counts limit frames done at keyword ShortName = tt
word_counts limit frames done at keyword NodeLabel = tt

at_counts : (limit : ℕ) (name : Option (List ℕ)) (frames : List Frame) (done : List Tree) (pending : Pending) (kind : Kind) (t : Token) → OnlyNames name kind
    → Counts (length frames) kind (step_at limit name frames done pending kind t)
at_counts limit name frames done Nothing kind t is = plain_counts limit name frames done kind t is
at_counts limit name frames done (Word at keyword) kind t is = word_counts limit frames done at keyword kind
at_counts limit name frames done (Text at text) kind t is = text_counts limit name frames done at text kind t is
at_counts limit name frames done (Typed at text) kind t is = named_counts name frames done (TypedLiteral at text) kind is

counted : (limit : ℕ) (name : Option (List ℕ)) (s next : State) (t : Token) → OnlyNames name t.kind → step limit name s t ≡ Some next → length next.frames + closes t.kind ≡ length s.frames + opens t.kind
counted limit name s next t is e = subst (Counts (length s.frames) t.kind) e (at_counts limit name s.frames s.done s.pending t.kind t is)

opened_push : (ts : List Token) (t : Token) → opened (ts ++ t ∷ []) ≡ opened ts + opens t.kind
opened_push [] t = omega arith
opened_push (u ∷ ts) t = let h = opened_push ts t in omega (arith, h)

closed_push : (ts : List Token) (t : Token) → closed (ts ++ t ∷ []) ≡ closed ts + closes t.kind
closed_push [] t = omega arith
closed_push (u ∷ ts) t = let h = closed_push ts t in omega (arith, h)

-- so many parentheses are open where the rest begins
pub record IsReadTo (all rest : List Token) (n : ℕ) : Type 0 where
  pub before : List Token
  pub tokens_are : all ≡ before ++ rest
  pub open_there : opened before ≡ closed before + n

only_names : (prefixes : Prefixes) (t : Token) (r : Option code_iri.Iri) → IfSome r (λ i. IsNameOf prefixes t (iri_of i)) → OnlyNames (name_of_code r) t.kind
only_names prefixes t None some iri e = absurd (none-some iri e)
only_names prefixes t (Some i) some iri e = elim some [ inl a ↦ inl a.0 | inr b ↦ inr b.0 ]

pub reads_on : (limit : ℕ) (prefixes : Prefixes) (all : List Token) (ts : List lexer.Token) (d : lexer.Token) (s next : State) (r : Option code_iri.Iri) → IsFirst ts d
    → IfSome r (λ i. IsNameOf prefixes (token_of d) (iri_of i)) → step limit (name_of_code r) s (token_of d) ≡ Some next
    → IsReadTo all (tokens_of ts) (length s.frames) → IsReadTo all (tokens_of (take (length ts - 1) (drop 1 ts))) (length next.frames)
reads_on limit prefixes all ts d s next r l some e h =
    let t = token_of d in
    let rest = tokens_of (take (length ts - 1) (drop 1 ts)) in
    let k = counted limit (name_of_code r) s next t (only_names prefixes t r some) e in
    record {
      before = h.before ++ t ∷ [];
      tokens_are = h.tokens_are ∙ ap (λ (z : List Token). h.before ++ z) (tokens_front ts d l) ∙ sym (append_assoc h.before (t ∷ []) rest);
      open_there = omega (arith, h.open_there, opened_push h.before t, closed_push h.before t, k);
    }

-- ---- places

pub start_behind : (at : ℕ) (before rest : List Token) → IsStart at rest → IsStart at (before ++ rest)
start_behind at before rest s = (s.0, Contains-append_right before rest s.0 s.1, s.2)

pub starts_there : (before : List Token) (t : Token) (rest all : List Token) (at : ℕ) → all ≡ before ++ t ∷ rest → t.at ≡ at → IsStart at all
starts_there before t rest all at e s = subst (IsStart at) (sym e) (start_behind at before (t ∷ rest) (t, Contains-first t rest, s))

start_dropped : (at i : ℕ) (ts : List Token) → IsStart at (drop i ts) → IsStart at ts
start_dropped at zero ts s = s
start_dropped at (suc i) [] s = s
start_dropped at (suc i) (t ∷ ts) s = let r = start_dropped at i ts s in (r.0, Contains-later t r.0 ts r.1, r.2)

pub first_starts : (ts : List lexer.Token) (d : lexer.Token) → IsFirst ts d → IsStart d.at (tokens_of ts)
first_starts ts d l = starts_there [] (token_of d) (tokens_of (take (length ts - 1) (drop 1 ts))) (tokens_of ts) d.at (tokens_front ts d l) refl

ends_inside : (at : ℕ) (text : List ℕ) (tokens : List Token) → AreSlicesFrom at text tokens → end_of tokens ≤ length text
ends_inside at text [] s = omega arith
ends_inside at text (t ∷ []) s = s.1
ends_inside at text (t ∷ u ∷ ts) s = ends_inside (t.at + length t.text) text (u ∷ ts) s.3

pub tokens_end_inside : TokensEndInText
tokens_end_inside text tokens s = ends_inside 0 text tokens (spelled_slices text tokens s)

pub end_at_last : (ts : List lexer.Token) (t : lexer.Token) → Some t ≡ slice_get ts (length ts - 1) → end_of (tokens_of ts) ≡ t.at + length t.text.now
end_at_last [] t e = absurd (none-some t (sym e))
end_at_last (u ∷ []) t e = ap (λ (z : lexer.Token). z.at + length z.text.now) (sym (same_Some t u e))
end_at_last (u ∷ v ∷ ts) t e =
    let n : length (u ∷ v ∷ ts) - 1 ≡ suc (length (v ∷ ts) - 1) = omega arith in
    end_at_last (v ∷ ts) t (e ∙ ap (slice_get (u ∷ v ∷ ts)) n)

-- ---- faults of the parts as faults of the whole

abbrev pub IsEnded : ParseFault → Type 0
IsEnded (faults.UnexpectedEnd at) = Unit {0}
IsEnded _ = ⊥

all_before : (before rest all : List Token) → all ≡ before ++ rest → rest ≡ [] → all ≡ before
all_before before rest all same none = same ∙ ap (λ (z : List Token). before ++ z) none ∙ append-nil before

-- the tokens end where no more of them is closed than was opened
pub plain_trees : (limit here : ℕ) (known : Prefixes) (before rest all : List Token) (e : ParseFault) → all ≡ before ++ rest → (IsEnded e → closed before ≤ opened before) → IsPlain here rest e → IsSaidOfTrees limit here known all e
plain_trees limit here known before rest all faults.Memory same unended s = tt
plain_trees limit here known before rest all (faults.Unexpected at) same unended s = subst (IsStart at) (sym same) (start_behind at before rest s)
plain_trees limit here known before rest all (faults.UnexpectedEnd at) same unended s = (s.0, subst (λ ts. closed ts ≤ opened ts) (sym (all_before before rest all same s.1)) (unended tt))
plain_trees limit here known before rest all (faults.UnknownPrefix at) same unended s = absurd s
plain_trees limit here known before rest all (faults.PrefixTwice at) same unended s = absurd s
plain_trees limit here known before rest all (faults.StandardPrefixChanged at) same unended s = absurd s
plain_trees limit here known before rest all (faults.TooDeep at) same unended s = absurd s

-- the faults behind some of the tokens
pub plain_said : (here : ℕ) (declared : Prefixes) (before rest all : List Token) (e : ParseFault) → all ≡ before ++ rest → IsUnended before → IsPlain here rest e → IsSaid here declared all e
plain_said here declared before rest all faults.Memory same unended s = tt
plain_said here declared before rest all (faults.Unexpected at) same unended s = subst (IsStart at) (sym same) (start_behind at before rest s)
plain_said here declared before rest all (faults.UnexpectedEnd at) same unended s = (s.0, subst IsUnended (sym (all_before before rest all same s.1)) unended)
plain_said here declared before rest all (faults.UnknownPrefix at) same unended s = absurd s
plain_said here declared before rest all (faults.PrefixTwice at) same unended s = absurd s
plain_said here declared before rest all (faults.StandardPrefixChanged at) same unended s = absurd s
plain_said here declared before rest all (faults.TooDeep at) same unended s = absurd s

-- behind the first parenthesis of a declaration, as far as it goes
pub open_behind : (t u : Token) (more : List Token) → t.kind ≡ Keyword → u.kind ≡ Opening → closed more ≡ 0 → IsUnended (t ∷ u ∷ more)
open_behind t u more k o none =
    let a : closes t.kind ≡ 0 = ap closes k in let b : closes u.kind ≡ 0 = ap closes o in let c : opens u.kind ≡ 1 = ap opens o in inl (omega arith)

no_short : (prefixes : Prefixes) (t : Token) (r : Option code_iri.Iri) → t.kind ≡ ShortName → IfNone r ((iri : List ℕ) → IsNameOf prefixes t iri → ⊥) → name_of_code r ≡ None
    → (iri : List ℕ) → IsShort prefixes t.text iri → ⊥
no_short prefixes t None k none e = λ iri h. none iri (inr (k, h))
no_short prefixes t (Some i) k none e = absurd (none-some (iri_of i) (sym e))

pub token_trees : (limit here : ℕ) (prefixes : Prefixes) (all : List Token) (ts : List lexer.Token) (d : lexer.Token) (fs : List code_frame.Frame) (r : Option code_iri.Iri) (e : ParseFault) → IsFirst ts d
    → IfNone r ((iri : List ℕ) → IsNameOf prefixes (token_of d) iri → ⊥) → IsReadTo all (tokens_of ts) (length (frames_of fs))
    → IsSaidOfToken limit (length fs) (name_of_code r) (token_of d) e → IsSaidOfTrees limit here prefixes all e
token_trees limit here prefixes all ts d fs r e l none h = go e
  where
    t : Token
    t = token_of d

    rest : List Token
    rest = tokens_of (take (length ts - 1) (drop 1 ts))

    same : all ≡ h.before ++ t ∷ rest
    same = h.tokens_are ∙ ap (λ (z : List Token). h.before ++ z) (tokens_front ts d l)

    go : (e : ParseFault) → IsSaidOfToken limit (length fs) (name_of_code r) t e → IsSaidOfTrees limit here prefixes all e
    go faults.Memory s = tt
    go (faults.Unexpected at) s = starts_there h.before t rest all at same s
    go (faults.UnexpectedEnd at) s = absurd s
    go (faults.PrefixTwice at) s = absurd s
    go (faults.StandardPrefixChanged at) s = absurd s
    go (faults.UnknownPrefix at) s =
        let there : Contains all t = subst (λ (z : List Token). Contains z t) (sym same) (Contains-append_right h.before (t ∷ rest) t (Contains-first t rest)) in
        record { name = t; there = there; place = s.0; kind = s.1; unknown = no_short prefixes t r s.1 none s.2 }
    go (faults.TooDeep at) s =
        record { before = h.before; parenthesis = t; after = rest; tokens_are = same; place = s.0; kind = s.1; full = omega (arith, h.open_there, frames_length fs, s.2) }

-- trees that end are finished
ended_finished : (frames : List Frame) (done : List Tree) (pending : Pending) (kind : Kind) → ends_at frames pending kind ≡ true → finish_at frames done pending ≡ None → ⊥
ended_finished [] done Nothing kind ends none = cc
ended_finished [] done (Text at text) kind ends none = cc
ended_finished [] done (Word at keyword) kind ends none = cc
ended_finished [] done (Typed at text) kind ends none = cc
ended_finished (f ∷ frames) done pending kind ends none = cc

-- the trees end at a token behind those that were read
pub end_trees : {X : Type 0} (view : X → List Tree) (r : Result X ParseFault) (limit here : ℕ) (prefixes : Prefixes) (all : List Token) (ts : List lexer.Token) (d : lexer.Token) (s : State) → IsFirst ts d → IsReadTo all (tokens_of ts) (length s.frames)
    → ends s (token_of d) ≡ true → Gives view r (finish_before (tokens_of (take (length ts - 1) (drop 1 ts))) s)
    → IfErr r (IsPlain here (tokens_of (take (length ts - 1) (drop 1 ts)))) → IfErr r (IsSaidOfTrees limit here prefixes all)
end_trees view (Ok x) limit here prefixes all ts d s l h ends given said = tt
end_trees view (Err e) limit here prefixes all ts d s l h ends given said =
    plain_trees limit here prefixes (h.before ++ t ∷ []) rest all e same (λ is. absurd (finished e is given said)) said
  where
    t : Token
    t = token_of d

    rest : List Token
    rest = tokens_of (take (length ts - 1) (drop 1 ts))

    same : all ≡ (h.before ++ t ∷ []) ++ rest
    same = h.tokens_are ∙ ap (λ (z : List Token). h.before ++ z) (tokens_front ts d l) ∙ sym (append_assoc h.before (t ∷ []) rest)

    finished : (e : ParseFault) → IsEnded e → Fails e (finish_before rest s) → IsPlain here rest e → ⊥
    finished (faults.UnexpectedEnd at) is given said = ended_finished s.frames s.done s.pending t.kind ends (ap (λ (z : List Token). finish_before z s) (sym said.1) ∙ given)
    finished faults.Memory is given said = is
    finished (faults.Unexpected at) is given said = is
    finished (faults.UnknownPrefix at) is given said = is
    finished (faults.PrefixTwice at) is given said = is
    finished (faults.StandardPrefixChanged at) is given said = is
    finished (faults.TooDeep at) is given said = is

-- where all is read, no more is closed than was opened
pub balanced : (all : List Token) (ts : List lexer.Token) (n : ℕ) → IsReadTo all (tokens_of ts) n → length ts ≡ 0 → closed all ≤ opened all
balanced all [] n h none = subst (λ us. closed us ≤ opened us) (sym (all_before h.before [] all h.tokens_are refl)) (omega (arith, h.open_there))
balanced all (t ∷ ts) n h none = absurd (omega arith)

-- ---- declarations, and what stands behind them

-- a name that is known, and no standard one, was declared
pub name_taken_before : (declared : Prefixes) (name iri : List ℕ) → ((other : List ℕ) → Contains standard_prefixes (name, other) → ⊥) → Contains (standard_prefixes ++ declared) (name, iri) → IsTaken declared name
name_taken_before declared name iri none c =
    elim (Contains-append_cases standard_prefixes declared (name, iri) c) [ inl a ↦ absurd (none iri a) | inr b ↦ ((iri, b), none) ]

pub name_said : (here : ℕ) (declared : Prefixes) (all : List Token) (t u v : Token) (more : List Token) (e : ParseFault) → all ≡ t ∷ u ∷ v ∷ more
    → (t.kind ≡ Keyword) × (t.text ≡ codes "Prefix") → u.kind ≡ Opening → v.kind ≡ PrefixName → IsSaidOfName declared v e → IsSaid here declared all e
name_said here declared all t u v more faults.Memory same w o k s = tt
name_said here declared all t u v more (faults.Unexpected at) same w o k s = starts_there (t ∷ u ∷ []) v more all at same s
name_said here declared all t u v more (faults.UnexpectedEnd at) same w o k s = absurd s
name_said here declared all t u v more (faults.UnknownPrefix at) same w o k s = absurd s
name_said here declared all t u v more (faults.StandardPrefixChanged at) same w o k s = absurd s
name_said here declared all t u v more (faults.TooDeep at) same w o k s = absurd s
name_said here declared all t u v more (faults.PrefixTwice at) same w o k (place, prefix, text, taken) =
    let begins : BeginsDeclaration prefix v all more = record { word = t; opening = u; tokens_are = same; keyword = w; opens = o; name_is = (k, text) } in
    record { prefix = prefix; name = v; behind = more; begins = begins; place = place; taken = taken }

pub iri_said : (here : ℕ) (declared : Prefixes) (all : List Token) (t u v w x : Token) (more : List Token) (prefix : List ℕ) (e : ParseFault) → all ≡ t ∷ u ∷ v ∷ w ∷ x ∷ more
    → (t.kind ≡ Keyword) × (t.text ≡ codes "Prefix") → u.kind ≡ Opening → (v.kind ≡ PrefixName) × (v.text ≡ prefix ++ codes ":") → w.kind ≡ Equals → x.kind ≡ FullIri
    → IsSaidOfIri prefix v.at x e → IsSaid here declared all e
iri_said here declared all t u v w x more prefix faults.Memory same f o n q k s = tt
iri_said here declared all t u v w x more prefix (faults.Unexpected at) same f o n q k s = starts_there (t ∷ u ∷ v ∷ w ∷ []) x more all at same s.0
iri_said here declared all t u v w x more prefix (faults.UnexpectedEnd at) same f o n q k s = absurd s
iri_said here declared all t u v w x more prefix (faults.UnknownPrefix at) same f o n q k s = absurd s
iri_said here declared all t u v w x more prefix (faults.PrefixTwice at) same f o n q k s = absurd s
iri_said here declared all t u v w x more prefix (faults.TooDeep at) same f o n q k s = absurd s
iri_said here declared all t u v w x more prefix (faults.StandardPrefixChanged at) same f o n q k (place, iri, bracketed, changed) =
    let begins : BeginsDeclaration prefix v all (w ∷ x ∷ more) = record { word = t; opening = u; tokens_are = same; keyword = f; opens = o; name_is = n } in
    record { prefix = prefix; iri = iri; name = v; equals = w; full = x; behind = more; begins = begins; place = place; sign = q; iri_is = (k, bracketed); changed = changed }

pub trees_said : (here : ℕ) (declared : Prefixes) (all : List Token) (t u : Token) (inside : List Token) (e : ParseFault) → all ≡ t ∷ u ∷ inside
    → (t.kind ≡ Keyword) × (t.text ≡ codes "Ontology") → u.kind ≡ Opening → IsSaidOfTrees 64 here (standard_prefixes ++ declared) inside e → IsSaid here declared all e
trees_said here declared all t u inside faults.Memory same f o s = tt
trees_said here declared all t u inside (faults.Unexpected at) same f o s = subst (IsStart at) (sym same) (start_behind at (t ∷ u ∷ []) inside s)
trees_said here declared all t u inside (faults.UnexpectedEnd at) same f o s =
    let a : closes t.kind ≡ 0 = ap closes f.0 in let b : closes u.kind ≡ 0 = ap closes o in let c : opens u.kind ≡ 1 = ap opens o in
    (s.0, subst IsUnended (sym same) (inl (omega (arith, s.1))))
trees_said here declared all t u inside (faults.PrefixTwice at) same f o s = absurd s
trees_said here declared all t u inside (faults.StandardPrefixChanged at) same f o s = absurd s
trees_said here declared all t u inside (faults.UnknownPrefix at) same f o s =
    let there : Contains all s.name = subst (λ (z : List Token). Contains z s.name) (sym same) (Contains-append_right (t ∷ u ∷ []) inside s.name s.there) in (
      subst (BeginsWith (codes "Ontology")) (sym same) f,
      record { name = s.name; there = there; place = s.place; kind = s.kind; unknown = s.unknown },
    )
trees_said here declared all t u inside (faults.TooDeep at) same f o s =
    let a : opens u.kind ≡ 1 = ap opens o in
    let b : closes u.kind ≡ 0 = ap closes o in
    let c : closes t.kind ≡ 0 = ap closes f.0 in
    record {
      before = t ∷ u ∷ s.before;
      parenthesis = s.parenthesis;
      after = s.after;
      tokens_are = same ∙ ap (λ (z : List Token). t ∷ u ∷ z) s.tokens_are;
      place = s.place;
      kind = s.kind;
      full = omega (arith, s.full, a, b, c);
    }

-- declarations close what they open
too_many_behind : (limit at : ℕ) (ds : Prefixes) (tokens rest : List Token) → AreDeclarations ds tokens rest → IsTooMany limit at rest → IsTooMany limit at tokens
too_many_behind limit at [] tokens rest h s = subst (IsTooMany limit at) (sym h) s
too_many_behind limit at (d ∷ ds) tokens rest (others, one, more) s =
    let k = too_many_behind limit at ds others rest more s in
    let a : opens one.word.kind ≡ 0 = ap opens one.keyword.0 in
    let a' : closes one.word.kind ≡ 0 = ap closes one.keyword.0 in
    let b : opens one.opening.kind ≡ 1 = ap opens one.signs.0 in
    let b' : closes one.opening.kind ≡ 0 = ap closes one.signs.0 in
    let c : opens one.name.kind ≡ 0 = ap opens one.name_is.0 in
    let c' : closes one.name.kind ≡ 0 = ap closes one.name_is.0 in
    let d : opens one.equals.kind ≡ 0 = ap opens one.signs.1 in
    let d' : closes one.equals.kind ≡ 0 = ap closes one.signs.1 in
    let f : opens one.iri.kind ≡ 0 = ap opens one.iri_is.0 in
    let f' : closes one.iri.kind ≡ 0 = ap closes one.iri_is.0 in
    let g : opens one.closing.kind ≡ 0 = ap opens one.signs.2 in
    let g' : closes one.closing.kind ≡ 1 = ap closes one.signs.2 in
    record {
      before = one.word ∷ one.opening ∷ one.name ∷ one.equals ∷ one.iri ∷ one.closing ∷ k.before;
      parenthesis = k.parenthesis;
      after = k.after;
      tokens_are = one.tokens_are ∙ ap (λ (z : List Token). one.word ∷ one.opening ∷ one.name ∷ one.equals ∷ one.iri ∷ one.closing ∷ z) k.tokens_are;
      place = k.place;
      kind = k.kind;
      full = omega (arith, k.full, a, a', b, b', c, c', d, d', f, f', g, g');
    }

pub placed_there : (ts : List lexer.Token) (i here : ℕ) (ds : Prefixes) (e : ParseFault) → HasRead ts i ds → here ≡ last_place (tokens_of ts) → IsSaid here ds (from_there ts i) e → IsPlaced (tokens_of ts) e
placed_there ts i here ds e h k s = go e (subst (λ (x : List Token). IsSaid here ds x e) (tokens_from ts i) s)
  where
    rest : List Token
    rest = drop i (tokens_of ts)

    go : (e : ParseFault) → IsSaid here ds rest e → IsPlaced (tokens_of ts) e
    go faults.Memory s = tt
    go (faults.Unexpected at) s = start_dropped at i (tokens_of ts) s
    go (faults.UnexpectedEnd at) s = (sym s.0 ∙ k, record { declared = ds; rest = rest; declarations = h.1; allowed = h.2; holds = s.1 })
    go (faults.UnknownPrefix at) s = record { declared = ds; rest = rest; declarations = h.1; allowed = h.2; holds = s }
    go (faults.PrefixTwice at) s = record { declared = ds; rest = rest; declarations = h.1; allowed = h.2; holds = s }
    go (faults.StandardPrefixChanged at) s = record { declared = ds; rest = rest; declarations = h.1; allowed = h.2; holds = s }
    go (faults.TooDeep at) s = too_many_behind 65 at ds (tokens_of ts) rest h.1 s

-- the tokens end before the trees do
pub end_said : (limit here : ℕ) (known : Prefixes) (tokens : List Token) (e : ParseFault) → closed tokens ≤ opened tokens → IsEnd here e → IsSaidOfTrees limit here known tokens e
end_said limit here known tokens faults.Memory unended s = tt
end_said limit here known tokens (faults.Unexpected at) unended s = absurd s
end_said limit here known tokens (faults.UnexpectedEnd at) unended s = (s, unended)
end_said limit here known tokens (faults.UnknownPrefix at) unended s = absurd s
end_said limit here known tokens (faults.PrefixTwice at) unended s = absurd s
end_said limit here known tokens (faults.StandardPrefixChanged at) unended s = absurd s
end_said limit here known tokens (faults.TooDeep at) unended s = absurd s

-- the next token begins where it stands
pub token_starts : (all : List Token) (ts : List lexer.Token) (d : lexer.Token) (n : ℕ) → IsFirst ts d → IsReadTo all (tokens_of ts) n → IsStart d.at all
token_starts all ts d n l h =
    let t = token_of d in
    let rest = tokens_of (take (length ts - 1) (drop 1 ts)) in
    starts_there h.before t rest all t.at (h.tokens_are ∙ ap (λ (z : List Token). h.before ++ z) (tokens_front ts d l)) refl
