-- Reading tokens one after the other, with the open parentheses on a stack.
use Rattle.std.specs.Prelude.{ℕ, nat_lt, List, [], ◌∷◌, ◌++◌, Bool, true, false, not, Option, Some, None, length}
use Rattle.fs_lexer.specs.declared.token.Kind.{Kind}
use Rattle.fs_lexer.specs.declared.token.Kind.TheVariants.{Opening, Closing, Equals, Carets, FullIri, Quoted, LanguageTag, Keyword, Integer, PrefixName, ShortName, NodeLabel}
use Rattle.fs_lexer.specs.Spelling.{Token}
use Rattle.fs_parser.specs.Tree.{Tree, Name, PlainLiteral, TaggedLiteral, TypedLiteral, Anonymous, Number, Group, Form}
use Rattle.fs_parser.specs.View.{trees_from}

-- what was read and is no whole tree yet
pub data Pending : Type 0 where
  Nothing : Pending
  Word : (at : ℕ) (keyword : List ℕ) → Pending
  Text : (at : ℕ) (text : List ℕ) → Pending
  Typed : (at : ℕ) (text : List ℕ) → Pending

-- an open parenthesis: where its tree begins, its keyword, and the trees before it
pub record Frame : Type 0 where
  pub at : ℕ
  pub keyword : Option (List ℕ)
  pub before : List Tree

pub record State : Type 0 where
  pub frames : List Frame
  pub done : List Tree
  pub pending : Pending

abbrev pub state : List Frame → List Tree → Pending → State
state frames done pending = record { frames = frames; done = done; pending = pending }

-- where nothing was read
abbrev pub start : State
start = state [] [] Nothing

abbrev pub add : List Frame → List Tree → Tree → State
add frames done tree = state frames (done ++ tree ∷ []) Nothing

abbrev pub if_named : Option (List ℕ) → List Frame → List Tree → (List ℕ → Tree) → Option State
if_named None frames done tree = None
if_named (Some iri) frames done tree = Some (add frames done (tree iri))

abbrev pub enter_if : Bool → List Frame → List Tree → ℕ → Option (List ℕ) → Option State
enter_if true frames done at keyword = Some (state (record { at = at; keyword = keyword; before = done } ∷ frames) [] Nothing)
enter_if false frames done at keyword = None

abbrev pub enter : ℕ → List Frame → List Tree → ℕ → Option (List ℕ) → Option State
enter limit frames done at keyword = enter_if (nat_lt (length frames) limit) frames done at keyword

abbrev pub whole : ℕ → Option (List ℕ) → List Tree → Tree
whole at None done = Group at (trees_from done)
whole at (Some keyword) done = Form at keyword (trees_from done)

abbrev pub leave : List Frame → List Tree → Option State
leave [] done = None
leave (f ∷ frames) done = Some (add frames f.before (whole f.at f.keyword done))

-- a token where nothing is pending
abbrev pub plain : ℕ → Option (List ℕ) → List Frame → List Tree → Kind → Token → Option State
plain limit name frames done Opening t = enter limit frames done t.at None
plain limit name frames done Closing t = leave frames done
plain limit name frames done Equals t = None
plain limit name frames done Carets t = None
plain limit name frames done FullIri t = if_named name frames done (Name t.at)
plain limit name frames done Quoted t = Some (state frames done (Text t.at t.text))
plain limit name frames done LanguageTag t = None
plain limit name frames done Keyword t = Some (state frames done (Word t.at t.text))
plain limit name frames done Integer t = Some (add frames done (Number t.at t.text))
plain limit name frames done PrefixName t = None
plain limit name frames done ShortName t = if_named name frames done (Name t.at)
plain limit name frames done NodeLabel t = Some (add frames done (Anonymous t.at t.text))

-- the state after a token where nothing is pending
abbrev pub plain_step : ℕ → Option (List ℕ) → State → Token → Option State
plain_step limit name s t = plain limit name s.frames s.done t.kind t

abbrev pub behind_text : ℕ → Option (List ℕ) → List Frame → List Tree → ℕ → List ℕ → Kind → Token → Option State
behind_text limit name frames done at text LanguageTag t = Some (add frames done (TaggedLiteral at text t.text))
behind_text limit name frames done at text Carets t = Some (state frames done (Typed at text))
behind_text limit name frames done at text kind t = plain limit name frames (done ++ PlainLiteral at text ∷ []) kind t

-- the state after a token where this text is pending
abbrev pub text_step : ℕ → Option (List ℕ) → State → ℕ → List ℕ → Token → Option State
text_step limit name s at text t = behind_text limit name s.frames s.done at text t.kind t

abbrev pub behind_word : ℕ → List Frame → List Tree → ℕ → List ℕ → Kind → Option State
behind_word limit frames done at keyword Opening = enter limit frames done at (Some keyword)
behind_word limit frames done at keyword _ = None

-- the state after one more token of the kind
abbrev pub step_at : ℕ → Option (List ℕ) → List Frame → List Tree → Pending → Kind → Token → Option State
step_at limit name frames done Nothing kind t = plain limit name frames done kind t
step_at limit name frames done (Word at keyword) kind t = behind_word limit frames done at keyword kind
step_at limit name frames done (Text at text) kind t = behind_text limit name frames done at text kind t
step_at limit name frames done (Typed at text) kind t = if_named name frames done (TypedLiteral at text)

-- the state after one more token, where it names the IRI, if any
abbrev pub step : ℕ → Option (List ℕ) → State → Token → Option State
step limit name s t = step_at limit name s.frames s.done s.pending t.kind t

-- a parenthesis closes that was open before all of these
abbrev pub ends_at : List Frame → Pending → Kind → Bool
ends_at [] Nothing Closing = true
ends_at [] (Text at text) Closing = true
ends_at _ _ _ = false

abbrev pub ends : State → Token → Bool
ends s t = ends_at s.frames s.pending t.kind

-- the trees, at the end of the tokens
abbrev pub finish_at : List Frame → List Tree → Pending → Option (List Tree)
finish_at [] done Nothing = Some done
finish_at [] done (Text at text) = Some (done ++ PlainLiteral at text ∷ [])
finish_at _ done _ = None

abbrev pub finish : State → Option (List Tree)
finish s = finish_at s.frames s.done s.pending

-- the trees, at the end of the tokens, where none of these follows it
abbrev pub finish_before : List Token → State → Option (List Tree)
finish_before [] s = finish s
finish_before (t ∷ ts) s = None

-- a token of the kind goes on with a string
abbrev pub goes_on_with_text : Kind → Bool
goes_on_with_text LanguageTag = true
goes_on_with_text Carets = true
goes_on_with_text _ = false

-- outside of all parentheses: behind a whole tree a token of the kind begins another
abbrev pub is_behind_tree : Pending → List Tree → Kind → Bool
is_behind_tree Nothing [] kind = false
is_behind_tree Nothing (tree ∷ trees) kind = true
is_behind_tree (Text at text) done kind = not (goes_on_with_text kind)
is_behind_tree _ done kind = false

abbrev pub begins_second_at : List Frame → List Tree → Pending → Kind → Bool
begins_second_at [] done pending kind = is_behind_tree pending done kind
begins_second_at (f ∷ frames) done pending kind = false

abbrev pub begins_second : State → Token → Bool
begins_second s t = begins_second_at s.frames s.done s.pending t.kind

-- the tree, where there is just one
abbrev pub only_one : Option (List Tree) → Option Tree
only_one (Some (tree ∷ [])) = Some tree
only_one _ = None
