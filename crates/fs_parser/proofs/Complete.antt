-- What is a tree is read.
use Rattle.std.proofs.Common.{◌≡◌, ℕ, ◌+◌, ◌≤◌, ◌<◌, max, List, [], ◌∷◌, ◌++◌, Bool, Option, Some, None, length, refl, sym, ap, ◌∙◌, subst, inl, inr, arith, append_assoc}
use Rattle.std.proofs.lemmas.List.{append-nil}
use Rattle.std.proofs.lemmas.Bool.{lt-ltb}
use Rattle.fs_lexer.specs.declared.token.Kind.{Kind}
use Rattle.fs_lexer.specs.declared.token.Kind.TheVariants.{Opening, Closing, Carets, FullIri, Quoted, LanguageTag, Keyword, Integer, ShortName, NodeLabel}
use Rattle.fs_lexer.specs.Spelling.{Token}
use Rattle.fs_parser.specs.Name.{Prefixes, StandForOne, IsNameOf}
use Rattle.fs_parser.specs.Tree.{IsTree, AreTrees, Tree, Trees, Name, PlainLiteral, TaggedLiteral, TypedLiteral, Anonymous, Number, Group, Form, Empty, Then, depth, depth_of}
use Rattle.fs_parser.specs.View.{trees_from}
use Rattle.fs_parser.proofs.Names.{name_of, name_found}
use Rattle.fs_parser.specs.Machine.{Pending, Nothing, Word, Text, Typed, Frame, State, state, add, if_named, enter_if, enter, plain, behind_text, step_at}
use Rattle.fs_parser.proofs.Run.{then_run, run, read}

abbrev pub list_from : Trees → List Tree
list_from Empty = []
list_from (Then t ts) = t ∷ list_from ts

pub back : (ts : Trees) → trees_from (list_from ts) ≡ ts
back Empty = refl
back (Then t ts) = ap (Then t) (back ts)

-- a token of the kind goes on with a string
abbrev pub GoesOn : Kind → Type 0
GoesOn LanguageTag = Unit {0}
GoesOn Carets = Unit {0}
GoesOn _ = ⊥

abbrev pub Stops : List Token → Type 0
Stops [] = Unit {0}
Stops (t ∷ ts) = GoesOn t.kind → ⊥

stops_by : (kind : Kind) (t : Token) (ts : List Token) → t.kind ≡ kind → (GoesOn kind → ⊥) → Stops (t ∷ ts)
stops_by kind t ts e none = subst (λ (k : Kind). GoesOn k → ⊥) (sym e) none

-- a tree begins with a token that goes on with nothing
begins : (prefixes : Prefixes) (tree : Tree) (tokens rest : List Token) → IsTree prefixes tree tokens → Stops (tokens ++ rest)
begins prefixes (Name at iri) tokens rest h = rw h.1 (elim h.3 [
  | inl a ↦ stops_by FullIri h.0 rest a.0 (λ x. x)
  | inr b ↦ stops_by ShortName h.0 rest b.0 (λ x. x)
])
begins prefixes (PlainLiteral at text) tokens rest h = rw h.1 (stops_by Quoted h.0 rest h.2.0 (λ x. x))
begins prefixes (TaggedLiteral at text tag) tokens rest h = rw h.2 (stops_by Quoted h.0 (h.1 ∷ rest) h.3.0 (λ x. x))
begins prefixes (TypedLiteral at text type) tokens rest h = rw h.3 (stops_by Quoted h.0 (h.1 ∷ h.2 ∷ rest) h.4.0 (λ x. x))
begins prefixes (Anonymous at label) tokens rest h = rw h.1 (stops_by NodeLabel h.0 rest h.2.0 (λ x. x))
begins prefixes (Number at digits) tokens rest h = rw h.1 (stops_by Integer h.0 rest h.2.0 (λ x. x))
begins prefixes (Group at trees) tokens rest h = rw h.3 (stops_by Opening h.0 ((h.2 ++ h.1 ∷ []) ++ rest) h.4 (λ x. x))
begins prefixes (Form at keyword trees) tokens rest h = rw h.4 (stops_by Keyword h.0 (h.1 ∷ ((h.3 ++ h.2 ∷ []) ++ rest)) h.5.0 (λ x. x))

all_stop : (prefixes : Prefixes) (trees : Trees) (tokens rest : List Token) → AreTrees prefixes trees tokens → Stops rest → Stops (tokens ++ rest)
all_stop prefixes Empty tokens rest h s = rw h s
all_stop prefixes (Then first more) tokens rest h s = rw (h.2, append_assoc) (begins prefixes first h.0 (h.1 ++ rest) h.3)

-- a string before what goes on with nothing
text_ends : (limit : ℕ) (prefixes : Prefixes) (frames : List Frame) (done : List Tree) (at : ℕ) (text : List ℕ) (rest : List Token) → Stops rest
    → run limit prefixes rest (state frames done (Text at text)) ≡ run limit prefixes rest (add frames done (PlainLiteral at text))
text_ends limit prefixes [] done at text [] s = refl
text_ends limit prefixes (f ∷ frames) done at text [] s = refl
text_ends limit prefixes frames done at text (t ∷ rest) s =
    ap (λ (o : Option State). then_run o (run limit prefixes rest)) (go t.kind s)
  where
    go : (kind : Kind) → (GoesOn kind → ⊥) → behind_text limit (name_of prefixes t) frames done at text kind t ≡ plain limit (name_of prefixes t) frames (done ++ PlainLiteral at text ∷ []) kind t
    go LanguageTag none = absurd (none tt)
    go Carets none = absurd (none tt)
    go _ none = refl

-- one step, where the kind is known
one_step : (limit : ℕ) (prefixes : Prefixes) (frames : List Frame) (done : List Tree) (pending : Pending) (t : Token) (rest : List Token) (kind : Kind) (s : State)
    → t.kind ≡ kind → step_at limit (name_of prefixes t) frames done pending kind t ≡ Some s
    → run limit prefixes (t ∷ rest) (state frames done pending) ≡ run limit prefixes rest s
one_step limit prefixes frames done pending t rest kind s e h =
    ap (λ (o : Option State). then_run o (run limit prefixes rest)) (ap (λ (k : Kind). step_at limit (name_of prefixes t) frames done pending k t) e ∙ h)

enters : (limit : ℕ) (frames : List Frame) (done : List Tree) (at : ℕ) (keyword : Option (List ℕ)) → length frames < limit
    → enter limit frames done at keyword ≡ Some (state (record { at = at; keyword = keyword; before = done } ∷ frames) [] Nothing)
enters limit frames done at keyword l = ap (λ (b : Bool). enter_if b frames done at keyword) (lt-ltb (length frames) limit l)

is_name : (limit : ℕ) (prefixes : Prefixes) (frames : List Frame) (done : List Tree) (t : Token) (iri : List ℕ) → StandForOne prefixes → IsNameOf prefixes t iri
    → step_at limit (name_of prefixes t) frames done Nothing t.kind t ≡ Some (add frames done (Name t.at iri))
is_name limit prefixes frames done t iri are h =
    elim h [
      | inl a ↦ ap (λ (k : Kind). step_at limit (name_of prefixes t) frames done Nothing k t) a.0 ∙ ap (λ (o : Option (List ℕ)). if_named o frames done (Name t.at)) (name_found prefixes are t iri (inl a))
      | inr b ↦ ap (λ (k : Kind). step_at limit (name_of prefixes t) frames done Nothing k t) b.0 ∙ ap (λ (o : Option (List ℕ)). if_named o frames done (Name t.at)) (name_found prefixes are t iri (inr b))
    ]

mutual
  pub tree_is_read : (limit : ℕ) (prefixes : Prefixes) → StandForOne prefixes → (tree : Tree) (tokens : List Token) → IsTree prefixes tree tokens
      → (frames : List Frame) (done : List Tree) (rest : List Token) → length frames + depth tree ≤ limit → Stops rest
      → run limit prefixes (tokens ++ rest) (state frames done Nothing) ≡ run limit prefixes rest (add frames done tree)
  tree_is_read limit prefixes are (Name at iri) tokens h frames done rest l s =
      rw h.1 (one_step limit prefixes frames done Nothing h.0 rest h.0.kind (add frames done (Name at iri)) refl
      (is_name limit prefixes frames done h.0 iri are h.3 ∙ ap (λ (n : ℕ). Some (add frames done (Name n iri))) h.2))
  tree_is_read limit prefixes are (PlainLiteral at text) tokens h frames done rest l s =
      rw h.1 (one_step limit prefixes frames done Nothing h.0 rest Quoted (state frames done (Text at text)) h.2.0 (cc (h.2.1, h.2.2))
      ∙ text_ends limit prefixes frames done at text rest s)
  tree_is_read limit prefixes are (TaggedLiteral at text tag) tokens h frames done rest l s =
      rw h.2 (one_step limit prefixes frames done Nothing h.0 (h.1 ∷ rest) Quoted (state frames done (Text at text)) h.3.0 (cc (h.3.1, h.3.2))
      ∙ one_step limit prefixes frames done (Text at text) h.1 rest LanguageTag (add frames done (TaggedLiteral at text tag)) h.4 (cc (h.5)))
  tree_is_read limit prefixes are (TypedLiteral at text type) tokens h frames done rest l s =
      rw h.3 (one_step limit prefixes frames done Nothing h.0 (h.1 ∷ h.2 ∷ rest) Quoted (state frames done (Text at text)) h.4.0 (cc (h.4.1, h.4.2))
      ∙ one_step limit prefixes frames done (Text at text) h.1 (h.2 ∷ rest) Carets (state frames done (Typed at text)) h.5 refl
      ∙ one_step limit prefixes frames done (Typed at text) h.2 rest h.2.kind (add frames done (TypedLiteral at text type)) refl
      (ap (λ (o : Option (List ℕ)). if_named o frames done (TypedLiteral at text)) (name_found prefixes are h.2 type h.6)))
  tree_is_read limit prefixes are (Anonymous at label) tokens h frames done rest l s =
      rw h.1 (one_step limit prefixes frames done Nothing h.0 rest NodeLabel (add frames done (Anonymous at label)) h.2.0 (cc (h.2.1, h.2.2)))
  tree_is_read limit prefixes are (Number at digits) tokens h frames done rest l s =
      rw h.1 (one_step limit prefixes frames done Nothing h.0 rest Integer (add frames done (Number at digits)) h.2.0 (cc (h.2.1, h.2.2)))
  tree_is_read limit prefixes are (Group at trees) tokens h frames done rest l s =
      let frame : Frame = record { at = at; keyword = None; before = done } in
      let first = one_step limit prefixes frames done Nothing h.0 (h.2 ++ h.1 ∷ rest) Opening (state (frame ∷ frames) [] Nothing) h.4
      (ap (λ (n : ℕ). enter limit frames done n None) h.5 ∙ enters limit frames done at None (omega arith)) in
      let inside = trees_are_read limit prefixes are trees h.2 h.7 (frame ∷ frames) [] (h.1 ∷ rest) (omega arith) (stops_by Closing h.1 rest h.6 (λ x. x)) in
      let last = one_step limit prefixes (frame ∷ frames) (list_from trees) Nothing h.1 rest Closing (add frames done (Group at trees)) h.6
      (ap (λ (ts : Trees). Some (add frames done (Group at ts))) (back trees)) in
      rw h.3 (ap (λ (ts : List Token). run limit prefixes (h.0 ∷ ts) (state frames done Nothing)) (append_assoc h.2 (h.1 ∷ []) rest) ∙ first ∙ inside ∙ last)
  tree_is_read limit prefixes are (Form at keyword trees) tokens h frames done rest l s =
      let frame : Frame = record { at = at; keyword = Some keyword; before = done } in
      let word = one_step limit prefixes frames done Nothing h.0 (h.1 ∷ (h.3 ++ h.2 ∷ rest)) Keyword (state frames done (Word at keyword)) h.5.0 (cc (h.5.1, h.5.2)) in
      let first = one_step limit prefixes frames done (Word at keyword) h.1 (h.3 ++ h.2 ∷ rest) Opening (state (frame ∷ frames) [] Nothing) h.6
      (enters limit frames done at (Some keyword) (omega arith)) in
      let inside = trees_are_read limit prefixes are trees h.3 h.8 (frame ∷ frames) [] (h.2 ∷ rest) (omega arith) (stops_by Closing h.2 rest h.7 (λ x. x)) in
      let last = one_step limit prefixes (frame ∷ frames) (list_from trees) Nothing h.2 rest Closing (add frames done (Form at keyword trees)) h.7
      (ap (λ (ts : Trees). Some (add frames done (Form at keyword ts))) (back trees)) in
      rw h.4 (ap (λ (ts : List Token). run limit prefixes (h.0 ∷ h.1 ∷ ts) (state frames done Nothing)) (append_assoc h.3 (h.2 ∷ []) rest) ∙ word ∙ first ∙ inside ∙ last)

  pub trees_are_read : (limit : ℕ) (prefixes : Prefixes) → StandForOne prefixes → (trees : Trees) (tokens : List Token) → AreTrees prefixes trees tokens
      → (frames : List Frame) (done : List Tree) (rest : List Token) → length frames + depth_of trees ≤ limit → Stops rest
      → run limit prefixes (tokens ++ rest) (state frames done Nothing) ≡ run limit prefixes rest (state frames (done ++ list_from trees) Nothing)
  trees_are_read limit prefixes are Empty tokens h frames done rest l s = rw (h, append-nil) refl
  trees_are_read limit prefixes are (Then first more) tokens h frames done rest l s =
      let one = tree_is_read limit prefixes are first h.0 h.3 frames done (h.1 ++ rest) (omega arith) (all_stop prefixes more h.1 rest h.4 s) in
      let others = trees_are_read limit prefixes are more h.1 h.4 frames (done ++ first ∷ []) rest (omega arith) s in
      rw (h.2, append_assoc) (one ∙ others ∙ ap (λ (d : List Tree). run limit prefixes rest (state frames d Nothing)) (append_assoc done (first ∷ []) (list_from more)))

-- trees that are not too deep are read
pub all_read : (limit : ℕ) (prefixes : Prefixes) → StandForOne prefixes → (trees : Trees) (tokens : List Token) → AreTrees prefixes trees tokens → depth_of trees ≤ limit
    → read limit prefixes tokens ≡ Some (list_from trees)
all_read limit prefixes are trees tokens h l =
    rw (← append-nil tokens) (trees_are_read limit prefixes are trees tokens h [] [] [] (omega arith) tt)

-- and so the tokens are one list of trees at most
pub one_reading : (prefixes : Prefixes) → StandForOne prefixes → (tokens : List Token) (a b : Trees) → AreTrees prefixes a tokens → AreTrees prefixes b tokens → a ≡ b
one_reading prefixes are tokens a b h k =
    let m = max (depth_of a) (depth_of b) in
    let e : Some (list_from a) ≡ Some (list_from b) = sym (all_read m prefixes are a tokens h (omega arith)) ∙ all_read m prefixes are b tokens k (omega arith) in
    let f : list_from a ≡ list_from b = cc in
    sym (back a) ∙ ap trees_from f ∙ back b

-- the tokens are one tree at most
pub one_tree : (prefixes : Prefixes) → StandForOne prefixes → (tokens : List Token) (a b : Tree) → IsTree prefixes a tokens → IsTree prefixes b tokens → a ≡ b
one_tree prefixes are tokens a b h k =
    let e : Then a Empty ≡ Then b Empty = one_reading prefixes are tokens (Then a Empty) (Then b Empty) (tokens, [], sym (append-nil tokens), h, refl) (tokens, [], sym (append-nil tokens), k, refl) in
    cc
