-- What the functions of the code give, as the machine has it.
use Rattle.std.proofs.Common.{◌≡◌, ◌≢◌, ℕ, suc, ◌-◌, ◌≤◌, ◌<◌, List, [], ◌∷◌, ◌++◌, Bool, true, false, Option, Some, None, Bor, length, get_or, take, drop, refl, sym, ap, ◌∙◌, subst, inl, inr, arith, nat_lt, append_assoc}
use Rattle.std.specs.List.{Contains}
use Rattle.std.specs.Prelude.{codes, IsTrue, ◌↔◌}
use Rattle.std.specs.Str.{bytes_eq}
use Rattle.std.proofs.lemmas.Slice.Eq.{bytes_eq-Decides}
use Rattle.std.specs.Option.{IfSome, IfNone, MatchOption}
use Rattle.std.proofs.lemmas.Bool.{lt-ltb, ltb-true, false≢true}
use Rattle.std.proofs.lemmas.List.{length-append, append_cancel_left, append_cancel_right, take_all}
use Rattle.std.proofs.lemmas.List.Elements.{Contains-append_right, Contains-append_cases}
use Rattle.std.proofs.lemmas.Option.{none-some}
use Rattle.lemmas.proofs.Members.{Contains-first, Contains-cons_cases, Contains-none}
use Rattle.fs_lexer.specs.Spelling.{Token}
use Rattle.fs_lexer.specs.declared.token.Token as lexer
use Rattle.fs_lexer.specs.declared.token.Kind.TheVariants.{FullIri, ShortName, Keyword}
use Rattle.fs_lexer.specs.declared.token.Kind.{Kind}
use Rattle.fs_lexer.specs.Views.{token_of}
use Rattle.fs_parser.specs.Front.{IsWord, MayBeNamed}
use Rattle.fs_parser.specs.Name.{Prefixes, standard_prefixes, StandForOne, IsNameOf, IsShort, IsBracketed}
use Rattle.fs_parser.specs.Tree.{AreClosed, Tree, Trees, PlainLiteral}
use Rattle.fs_parser.specs.View.{tokens_of, iri_of, tree_of, layer_of}
use Rattle.fs_parser.specs.State.{Fails, frame_of, frames_of, name_of_code}
use Rattle.fs_parser.specs.Machine as machine
use Rattle.fs_parser.proofs.Complete.{list_from}
use Rattle.fs_parser.specs.Machine.{start}
use Rattle.fs_parser.proofs.Run.{inside}
use Rattle.fs_parser.proofs.Inside.{goes_on, stops, is_ended, all_inside, fails_by}
use Rattle.fs_parser.specs.declared.fault.ParseFault.{ParseFault}
use Rattle.fs_parser.specs.declared.reader.Frame as code_frame
use Rattle.fs_parser.specs.declared.iri.Iri as code_iri
use Rattle.fs_parser.specs.declared.tree.Tree as code
use Rattle.fs_parser.specs.declared.tree.Tree.TheOpen as layer
use Rattle.fs_parser.specs.declared.tree.Tree.TheFolds.{fold-roll-Tree}
use Rattle.fs_parser.specs.declared.tree.Tree.TheVariants.{rolls-PlainLiteral}
use Rattle.fs_parser.proofs.Names.{short_parts, same_front, name_of, name_found, name_none}

-- ---- names

pub not_bracketed : (text rest : List ℕ) (r : Option (Bor (List ℕ))) → text ≡ 60 ∷ rest
    → MatchOption r ((front : List ℕ) → rest ≢ front ++ 62 ∷ []) (λ x. rest ≡ x.now ++ 62 ∷ []) → IfNone r ((iri : List ℕ) → IsBracketed iri text → ⊥)
not_bracketed text rest None e h = λ x k. h x (let l : text ≡ 60 ∷ (x ++ 62 ∷ []) = k in cc)
not_bracketed text rest (Some y) e h = tt

pub none_before : (b : ℕ) (text : List ℕ) (r : Option (Bor (List ℕ))) → MatchOption r ((front : List ℕ) → text ≢ front ++ b ∷ []) (λ x. text ≡ x.now ++ b ∷ []) → IfNone r ((front : List ℕ) → text ≡ front ++ b ∷ [] → ⊥)
none_before b text None h = λ front e. h front e
none_before b text (Some x) h = tt

-- ---- texts that are compared

pub same_bytes : (a b : List ℕ) (r : Bool) → r ≡ bytes_eq a b → r ≡ true → a ≡ b
same_bytes a b r e t = (bytes_eq-Decides a b).0 (sym e ∙ t)

pub other_bytes : (a b : List ℕ) (r : Bool) → r ≡ bytes_eq a b → r ≡ false → a ≡ b → ⊥
other_bytes a b r e t same = let k : bytes_eq a b ≡ true = (bytes_eq-Decides a b).1 same in absurd (let f : false ≡ true = sym t ∙ e ∙ k in cc)

-- a name in two pieces
pub same_behind : (base local rest text : List ℕ) (r : Bool) → text ≡ base ++ rest → r ≡ bytes_eq rest local → IsTrue r ↔ (base ++ local ≡ text)
same_behind base local rest text true e q = (λ t. ap (λ (z : List ℕ). base ++ z) (sym (same_bytes rest local true q refl)) ∙ sym e, λ h. refl)
same_behind base local rest text false e q = (λ t. absurd (false≢true t), λ h. absurd (other_bytes rest local false q refl (append_cancel_left base rest local (sym e ∙ sym h))))

-- ---- the first colon

free_from : (xs : List ℕ) → ((i : ℕ) → i < length xs → get_or xs i 0 ≡ 58 → ⊥) → Contains xs 58 → ⊥
free_from [] f c = Contains-none 58 c
free_from (x ∷ xs) f c = elim (Contains-cons_cases x 58 xs c) [ inl e ↦ f 0 (omega arith) e | inr d ↦ free_from xs (λ i l. f (suc i) (omega arith)) d ]

pub short_some : (known : Prefixes) (text front local base : List ℕ) → text ≡ front ++ 58 ∷ local → ((i : ℕ) → i < length front → get_or front i 0 ≡ 58 → ⊥)
    → Contains known (front, base) → IsShort known text (base ++ local)
short_some known text front local base e free c =
    record { prefix = front; base = base; local = local; text_is = e ∙ sym (append_assoc front (58 ∷ []) local); no_colon = free_from front free; declared = c; iri_is = refl }

pub short_unknown : (known : Prefixes) (text front local : List ℕ) → text ≡ front ++ 58 ∷ local → ((i : ℕ) → i < length front → get_or front i 0 ≡ 58 → ⊥)
    → ((iri : List ℕ) → Contains known (front, iri) → ⊥) → (iri : List ℕ) → IsShort known text iri → ⊥
short_unknown known text front local e free none iri h =
    let same : front ≡ h.prefix = same_front front h.prefix local h.local (free_from front free) h.no_colon (sym e ∙ short_parts known text iri h) in
    none h.base (subst (λ (n : List ℕ). Contains known (n, h.base)) (sym same) h.declared)

pub short_none : (known : Prefixes) (text : List ℕ) → ((i : ℕ) → i < length text → get_or text i 0 ≡ 58 → ⊥) → (iri : List ℕ) → IsShort known text iri → ⊥
short_none known text free iri h =
    free_from text free (subst (λ (x : List ℕ). Contains x 58) (sym (short_parts known text iri h)) (Contains-append_right h.prefix (58 ∷ h.local) 58 (Contains-first 58 h.local)))

-- ---- what is known

pub known_more : (standard declared : Prefixes) (name : List ℕ) (r : Option (Bor (List ℕ))) → IfSome r (λ iri. Contains declared (name, iri.now)) → IfSome r (λ iri. Contains (standard ++ declared) (name, iri.now))
known_more standard declared name None h = tt
known_more standard declared name (Some iri) h = Contains-append_right standard declared (name, iri.now) h

pub known_none : (standard declared : Prefixes) (name : List ℕ) (r : Option (Bor (List ℕ))) → ((iri : List ℕ) → Contains standard (name, iri) → ⊥)
    → IfNone r ((iri : List ℕ) → Contains declared (name, iri) → ⊥) → IfNone r ((iri : List ℕ) → Contains (standard ++ declared) (name, iri) → ⊥)
known_none standard declared name None h k = λ iri c. elim (Contains-append_cases standard declared (name, iri) c) [ inl d ↦ h iri d | inr d ↦ k iri d ]
known_none standard declared name (Some iri) h k = tt

pub name_same : (prefixes : Prefixes) → StandForOne prefixes → (t : Token) (r : Option code_iri.Iri) → IfSome r (λ i. IsNameOf prefixes t (iri_of i)) → IfNone r ((iri : List ℕ) → IsNameOf prefixes t iri → ⊥)
    → name_of_code r ≡ name_of prefixes t
name_same prefixes are t None some none = sym (name_none prefixes t none)
name_same prefixes are t (Some i) some none = sym (name_found prefixes are t (iri_of i) some)

-- ---- frames

pub frames_push : (fs : List code_frame.Frame) (f : code_frame.Frame) → frames_of (fs ++ f ∷ []) ≡ frame_of f ∷ frames_of fs
frames_push [] f = refl
frames_push (g ∷ fs) f = ap (λ (z : List machine.Frame). z ++ frame_of g ∷ []) (frames_push fs f)

pub frames_length : (fs : List code_frame.Frame) → length (frames_of fs) ≡ length fs
frames_length [] = refl
frames_length (f ∷ fs) = let h = frames_length fs in omega (arith, length-append (frames_of fs) (frame_of f ∷ []))

pub too_deep : (limit : ℕ) (fs : List code_frame.Frame) (done : List Tree) (at : ℕ) (keyword : Option (List ℕ)) → limit ≤ length fs → machine.enter limit (frames_of fs) done at keyword ≡ None
too_deep limit fs done at keyword l = go (nat_lt (length (frames_of fs)) limit) refl
  where
    go : (b : Bool) → nat_lt (length (frames_of fs)) limit ≡ b → machine.enter_if b (frames_of fs) done at keyword ≡ None
    go false t = refl
    go true t = absurd (let k = ltb-true (length (frames_of fs)) limit t in omega (arith, frames_length fs))

pub opened : (limit : ℕ) (fs : List code_frame.Frame) (done : List Tree) (at : ℕ) (keyword : Option (List ℕ)) → length fs < limit
    → machine.enter limit (frames_of fs) done at keyword ≡ Some (machine.state (record { at = at; keyword = keyword; before = done } ∷ frames_of fs) [] machine.Nothing)
opened limit fs done at keyword l = ap (λ (b : Bool). machine.enter_if b (frames_of fs) done at keyword) (lt-ltb (length (frames_of fs)) limit (omega (arith, frames_length fs)))

-- ---- the end

pub plain_tree : (at : ℕ) (text : Bor (List ℕ)) → tree_of (code.PlainLiteral at text) ≡ PlainLiteral at text.now
plain_tree at text = ap tree_of (sym (rolls-PlainLiteral at text)) ∙ fold-roll-Tree Tree layer_of (layer.PlainLiteral at text)

never_ends : (a : List machine.Frame) (f : machine.Frame) (done : List Tree) (pending : machine.Pending) → machine.finish_at (a ++ f ∷ []) done pending ≡ None
never_ends [] f done pending = refl
never_ends (g ∷ a) f done pending = refl

pub not_ended : (fs : List code_frame.Frame) (done : List Tree) (pending : machine.Pending) → 0 < length fs → machine.finish_at (frames_of fs) done pending ≡ None
not_ended [] done pending l = absurd (omega arith)
not_ended (f ∷ fs) done pending l = never_ends (frames_of fs) (frame_of f) done pending

pub still_open : (fs : List code_frame.Frame) (pending : machine.Pending) (kind : Kind) → 0 < length fs → machine.ends_at (frames_of fs) pending kind ≡ false
still_open [] pending kind l = absurd (omega arith)
still_open (f ∷ fs) pending kind l = go (frames_of fs)
  where
    go : (a : List machine.Frame) → machine.ends_at (a ++ frame_of f ∷ []) pending kind ≡ false
    go [] = refl
    go (g ∷ a) = refl

pub none_outside : (fs : List code_frame.Frame) (done : List Tree) (pending : machine.Pending) (kind : Kind) → 0 < length fs → machine.begins_second_at (frames_of fs) done pending kind ≡ false
none_outside [] done pending kind l = absurd (omega arith)
none_outside (f ∷ fs) done pending kind l = go (frames_of fs)
  where
    go : (a : List machine.Frame) → machine.begins_second_at (a ++ frame_of f ∷ []) done pending kind ≡ false
    go [] = refl
    go (g ∷ a) = refl

pub no_items : {A : Type 0} (xs : List A) → length xs ≡ 0 → xs ≡ []
no_items [] e = refl
no_items (x ∷ xs) e = absurd (omega arith)

pub not_only : (trees : List Tree) (tree : Tree) → 0 < length trees → machine.only_one (Some (trees ++ tree ∷ [])) ≡ None
not_only [] tree l = absurd (omega arith)
not_only (t ∷ []) tree l = refl
not_only (t ∷ u ∷ trees) tree l = refl

pub ended : (fs : List code_frame.Frame) (done : List Tree) (at : ℕ) (text : List ℕ) → length fs ≡ 0 → machine.finish_at (frames_of fs) done (machine.Text at text) ≡ Some (done ++ PlainLiteral at text ∷ [])
ended [] done at text e = refl
ended (f ∷ fs) done at text e = absurd (omega arith)

pub not_named : (prefixes : Prefixes) (t : Token) (r : Option code_iri.Iri) → t.kind ≡ ShortName → IfNone r ((iri : List ℕ) → IsShort prefixes t.text iri → ⊥)
    → IfNone r ((iri : List ℕ) → IsNameOf prefixes t iri → ⊥)
not_named prefixes t None e none = λ iri h. elim h [ inl a ↦ absurd (let f : t.kind ≡ FullIri = a.0 in cc) | inr b ↦ none iri b.1 ]
not_named prefixes t (Some i) e none = tt

-- ---- the loop

-- the tokens begin with this one
abbrev pub IsFirst : List lexer.Token → lexer.Token → Type 0
IsFirst ts t = (t ≡ get_or ts 0 t) × (1 ≤ length ts)

front_at : (ts : List lexer.Token) (d : lexer.Token) → 1 ≤ length ts → tokens_of ts ≡ token_of (get_or ts 0 d) ∷ tokens_of (take (length ts - 1) (drop 1 ts))
front_at [] d l = absurd (omega arith)
front_at (t ∷ ts) d l =
    let e : length (t ∷ ts) - 1 ≡ length ts = omega arith in
    ap (λ (z : List lexer.Token). token_of t ∷ tokens_of z) (sym (ap (λ (n : ℕ). take n ts) e ∙ take_all (length ts) ts (omega arith)))

-- the first token, and what follows it as the code has it
pub tokens_front : (ts : List lexer.Token) (d : lexer.Token) → IsFirst ts d → tokens_of ts ≡ token_of d ∷ tokens_of (take (length ts - 1) (drop 1 ts))
tokens_front ts d first = front_at ts d first.1 ∙ ap (λ (t : lexer.Token). token_of t ∷ tokens_of (take (length ts - 1) (drop 1 ts))) (sym first.0)

pub loop_goes_on : (limit : ℕ) (prefixes : Prefixes) → StandForOne prefixes → (ts : List lexer.Token) (d : lexer.Token) (s next : machine.State) (r : Option code_iri.Iri) (total : Option (List Tree)) → IsFirst ts d
    → IfSome r (λ i. IsNameOf prefixes (token_of d) (iri_of i)) → IfNone r ((iri : List ℕ) → IsNameOf prefixes (token_of d) iri → ⊥)
    → machine.ends s (token_of d) ≡ false → machine.step limit (name_of_code r) s (token_of d) ≡ Some next → inside limit prefixes (tokens_of ts) s ≡ total
    → inside limit prefixes (tokens_of (take (length ts - 1) (drop 1 ts))) next ≡ total
loop_goes_on limit prefixes are ts d s next r total l some none e h so_far =
    let t = token_of d in
    goes_on limit prefixes t (tokens_of (take (length ts - 1) (drop 1 ts))) s next (name_of_code r) total (name_same prefixes are t r some none) e h
    (ap (λ (z : List Token). inside limit prefixes z s) (sym (tokens_front ts d l)) ∙ so_far)

pub loop_stops : (limit : ℕ) (prefixes : Prefixes) → StandForOne prefixes → (ts : List lexer.Token) (d : lexer.Token) (s : machine.State) (r : Option code_iri.Iri) (all : List Token) (e : ParseFault) → IsFirst ts d
    → IfSome r (λ i. IsNameOf prefixes (token_of d) (iri_of i)) → IfNone r ((iri : List ℕ) → IsNameOf prefixes (token_of d) iri → ⊥)
    → machine.ends s (token_of d) ≡ false → Fails e (machine.step limit (name_of_code r) s (token_of d)) → inside limit prefixes (tokens_of ts) s ≡ inside limit prefixes all start
    → (trees : Trees) → AreClosed limit prefixes trees all → Fails e (Some trees)
loop_stops limit prefixes are ts d s r all e l some none k h so_far trees closed =
    let t = token_of d in
    let total = inside limit prefixes all start in
    let f : Fails e total = stops limit prefixes t (tokens_of (take (length ts - 1) (drop 1 ts))) s (name_of_code r) total e (name_same prefixes are t r some none) k h
    (ap (λ (z : List Token). inside limit prefixes z s) (sym (tokens_front ts d l)) ∙ so_far) in
    fails_by e total (Some trees) (λ gone. absurd (none-some (list_from trees) (sym gone ∙ all_inside limit prefixes are trees all closed))) f

pub loop_ends : (limit : ℕ) (prefixes : Prefixes) (ts : List lexer.Token) (d : lexer.Token) (s : machine.State) (total : Option (List Tree)) → IsFirst ts d
    → machine.ends s (token_of d) ≡ true → inside limit prefixes (tokens_of ts) s ≡ total → machine.finish_before (tokens_of (take (length ts - 1) (drop 1 ts))) s ≡ total
loop_ends limit prefixes ts d s total l e so_far =
    is_ended limit prefixes (token_of d) (tokens_of (take (length ts - 1) (drop 1 ts))) s total e (ap (λ (z : List Token). inside limit prefixes z s) (sym (tokens_front ts d l)) ∙ so_far)

-- no tokens are left, and none closed the trees
pub loop_none : (limit : ℕ) (prefixes : Prefixes) → StandForOne prefixes → (ts : List lexer.Token) (s : machine.State) (all : List Token) → length ts ≡ 0
    → inside limit prefixes (tokens_of ts) s ≡ inside limit prefixes all start → (trees : Trees) → AreClosed limit prefixes trees all → ⊥
loop_none limit prefixes are [] s all l so_far trees closed = none-some (list_from trees) (so_far ∙ all_inside limit prefixes are trees all closed)
loop_none limit prefixes are (t ∷ ts) s all l so_far trees closed = absurd (omega arith)

-- ---- the front of the tokens

pub word_found : (word : List ℕ) (ts : List lexer.Token) (d : lexer.Token) → IsFirst ts d → (d.kind ≡ Keyword) × (d.text.now ≡ word)
    → IsWord word (tokens_of ts) (tokens_of (take (length ts - 1) (drop 1 ts)))
word_found word ts d l h = record { token = token_of d; tokens_are = tokens_front ts d l; kind = h.0; text = h.1 }

-- ---- a declaration

pub same_brackets : (iri other text : List ℕ) → IsBracketed iri text → IsBracketed other text → other ≡ iri
same_brackets iri other text h k = append_cancel_right other iri (codes ">") (append_cancel_left (codes "<") (other ++ codes ">") (iri ++ codes ">") (sym k ∙ h))

pub name_taken : (known : Prefixes) (text name iri : List ℕ) → text ≡ name ++ codes ":" → ((iri : List ℕ) → Contains standard_prefixes (name, iri) → ⊥) → Contains known (name, iri)
    → (other : List ℕ) → text ≡ other ++ codes ":" → MayBeNamed known other → ⊥
name_taken known text name iri e none there other f may =
    let same : other ≡ name = append_cancel_right other name (codes ":") (sym f ∙ e) in
    elim may [
      | inl c ↦ none c.0 (subst (λ (n : List ℕ). Contains standard_prefixes (n, c.0)) same c.1)
      | inr fresh ↦ fresh iri (subst (λ (n : List ℕ). Contains known (n, iri)) (sym same) there)
    ]
