-- Reading a text token by token.
use Rattle.std.proofs.Common.{◌≡◌, ℕ, ◌≤◌, true, List, [], ◌∷◌, ◌++◌, Option, Some, None, Result, Ok, Err, length, take, drop, refl, sym, ap, ◌∙◌, subst, arith, append_assoc}
use Rattle.std.proofs.lemmas.List.{append-nil, length-append}
use Rattle.std.proofs.Math.Seq.{take-append_seam}
use Rattle.std.specs.Option.{IfSome, IfNone}
use Rattle.std.specs.Result.{IfOk, result_ok}
use Rattle.fs_lexer.specs.Reading.{AreReadFrom}
use Rattle.fs_lexer.specs.Spelling.{Token}
use Rattle.fs_lexer.proofs.Whole.{spelling_is_reading}
use Rattle.fs_parser.specs.Document.{Document, IsDocument, AreDeclarations, prefixes_of}
use Rattle.fs_parser.specs.Machine.{State, step, ends, start}
use Rattle.fs_parser.specs.Name.{Prefixes, StandForOne, IsNameOf, standard_prefixes}
use Rattle.fs_parser.specs.State.{name_of_code}
use Rattle.fs_parser.specs.Stream.{AreFormsOf, BeginText, AreWhole, AreTreesBehind, IsHeader}
use Rattle.fs_parser.specs.Tree.{Tree, Trees, Empty, AreTrees}
use Rattle.fs_parser.specs.View.{trees_from, trees_of, iri_of}
use Rattle.fs_parser.specs.declared.iri.Iri as code_iri
use Rattle.fs_parser.specs.declared.tree.Tree as code
use Rattle.fs_parser.proofs.Documents.{document_prefixes}
use Rattle.fs_parser.proofs.Inside.{ends_closing}
use Rattle.fs_parser.proofs.Names.{name_of}
use Rattle.fs_parser.proofs.Sound.{HasRead, step_reads, run_reads}
use Rattle.fs_parser.proofs.Steps.{name_same}

-- ---- the trees

-- between two tokens
pub record IsBetween (text : List ℕ) (start from : ℕ) (prefixes : Prefixes) (s : State) : Type 0 where
  pub within : from ≤ length text
  pub tokens : List Token
  pub reads : (more : List Token) → AreReadFrom (length text) (drop from text) more → AreReadFrom (length text) (drop start text) (tokens ++ more)
  pub has_read : HasRead 64 prefixes s tokens

pub next_between : (text : List ℕ) (at from behind : ℕ) (prefixes : Prefixes) → StandForOne prefixes → (s next : State) (t : Token) (r : Option code_iri.Iri) → IsBetween text at from prefixes s → behind ≤ length text
    → ((more : List Token) → AreReadFrom (length text) (drop behind text) more → AreReadFrom (length text) (drop from text) (t ∷ more))
    → IfSome r (λ i. IsNameOf prefixes t (iri_of i)) → IfNone r ((iri : List ℕ) → IsNameOf prefixes t iri → ⊥) → step 64 (name_of_code r) s t ≡ Some next
    → IsBetween text at behind prefixes next
next_between text at from behind prefixes are s next t r h l read some none e =
    let k = h.has_read in
    let same : step 64 (name_of prefixes t) s t ≡ Some next = ap (λ (n : Option (List ℕ)). step 64 n s t) (sym (name_same prefixes are t r some none)) ∙ e in
    record {
      within = l;
      tokens = h.tokens ++ t ∷ [];
      reads = λ more m. subst (AreReadFrom (length text) (drop at text)) (sym (append_assoc h.tokens (t ∷ []) more)) (h.reads (t ∷ more) (read more m));
      has_read = step_reads 64 prefixes s.frames s.done s.pending t k.before k.last (h.tokens ++ t ∷ []) next k.frames k.pending
          (ap (λ (z : List Token). z ++ t ∷ []) k.are ∙ append_assoc k.before k.last (t ∷ [])) same;
    }

pub ended_between : (text : List ℕ) (at from behind : ℕ) (prefixes : Prefixes) (s : State) (t : Token) (trees : List Tree) → IsBetween text at from prefixes s
    → ((more : List Token) → AreReadFrom (length text) (drop behind text) more → AreReadFrom (length text) (drop from text) (t ∷ more))
    → ends s t ≡ true → AreWhole text behind s trees → AreTreesBehind text at prefixes (trees_from trees)
ended_between text at from behind prefixes s t trees h read e w =
    let k = run_reads 64 prefixes [] s h.tokens h.tokens trees h.has_read (sym (append-nil h.tokens)) w.finished in
    record {
      tokens = h.tokens ++ t ∷ [];
      read = h.reads (t ∷ []) (read [] w.nothing);
      closed = record { inner = h.tokens; closing = t; tokens_are = refl; closes = ends_closing s.frames s.pending t.kind e; are_trees = k.0; shallow = k.1 };
    }

pub ended_by : {X : Type 0} (view : X → List Tree) (r : Option X) (text : List ℕ) (at from behind : ℕ) (prefixes : Prefixes) (s : State) (t : Token) → IsBetween text at from prefixes s
    → ((more : List Token) → AreReadFrom (length text) (drop behind text) more → AreReadFrom (length text) (drop from text) (t ∷ more))
    → ends s t ≡ true → IfSome r (λ v. AreWhole text behind s (view v)) → IfSome r (λ v. AreTreesBehind text at prefixes (trees_from (view v)))
ended_by view None text at from behind prefixes s t h read e w = tt
ended_by view (Some v) text at from behind prefixes s t h read e w = ended_between text at from behind prefixes s t (view v) h read e w

-- ---- the header as a document without trees

same_before : (xs ys : List Token) (x y : Token) → xs ++ x ∷ [] ≡ ys ++ y ∷ [] → xs ≡ ys
same_before xs ys x y e =
    let same : length xs ≡ length ys = omega (arith, ap length e, length-append xs (x ∷ []), length-append ys (y ∷ [])) in
    sym (take-append_seam xs (x ∷ [])) ∙ ap (take (length xs)) e ∙ ap (λ (n : ℕ). take n (ys ++ y ∷ [])) same ∙ take-append_seam ys (y ∷ [])

-- other tokens may stand behind declarations
other_rest : (ds : Prefixes) (tokens rest : List Token) → AreDeclarations ds tokens rest
    → (front : List Token) × (tokens ≡ front ++ rest) × ((other : List Token) → AreDeclarations ds (front ++ other) other)
other_rest [] tokens rest h = ([], h, λ other. refl)
other_rest (d ∷ ds) tokens rest (others, one, more) =
    let r = other_rest ds others rest more in
    let six : List Token → List Token = λ z. one.word ∷ one.opening ∷ one.name ∷ one.equals ∷ one.iri ∷ one.closing ∷ z in (
      six r.0,
      one.tokens_are ∙ ap six r.1,
      λ other. (
        r.0 ++ other,
        record {
          word = one.word;
          opening = one.opening;
          name = one.name;
          equals = one.equals;
          iri = one.iri;
          closing = one.closing;
          tokens_are = refl;
          keyword = one.keyword;
          signs = one.signs;
          name_is = one.name_is;
          iri_is = one.iri_is;
        },
        r.2 other,
      ),
    )

pub header_is : (document : Document) (header : List Token) (last : Token) → document.trees ≡ Empty → IsDocument document (header ++ last ∷ []) → IsHeader document.declared header
header_is document header last empty h =
    let o = h.ontology in
    let r = other_rest document.declared (header ++ last ∷ []) h.rest h.declarations in
    let front = r.0 in
    let none : o.closed.inner ≡ [] = subst (λ (ts : Trees). AreTrees (prefixes_of document) ts o.closed.inner) empty o.closed.are_trees in
    let rest : h.rest ≡ o.word ∷ o.opening ∷ o.closed.closing ∷ [] =
    o.tokens_are ∙ ap (λ (z : List Token). o.word ∷ o.opening ∷ z) (o.closed.tokens_are ∙ ap (λ (z : List Token). z ++ o.closed.closing ∷ []) none) in
    let all : header ++ last ∷ [] ≡ (front ++ o.word ∷ o.opening ∷ []) ++ o.closed.closing ∷ [] =
    r.1 ∙ ap (λ (z : List Token). front ++ z) rest ∙ sym (append_assoc front (o.word ∷ o.opening ∷ []) (o.closed.closing ∷ [])) in
    let same : header ≡ front ++ o.word ∷ o.opening ∷ [] = same_before header (front ++ o.word ∷ o.opening ∷ []) last o.closed.closing all in
    record {
      one = document_prefixes document (header ++ last ∷ []) h;
      with_trees = λ trees tokens closed.
          let there : front ++ (o.word ∷ o.opening ∷ tokens) ≡ header ++ tokens =
          sym (append_assoc front (o.word ∷ o.opening ∷ []) tokens) ∙ ap (λ (z : List Token). z ++ tokens) (sym same) in
          record {
            rest = o.word ∷ o.opening ∷ tokens;
            declarations = subst (λ (z : List Token). AreDeclarations document.declared z (o.word ∷ o.opening ∷ tokens)) there (r.2 (o.word ∷ o.opening ∷ tokens));
            allowed = h.allowed;
            ontology = record { word = o.word; opening = o.opening; inside = tokens; tokens_are = refl; keyword = o.keyword; opens = o.opens; closed = closed };
          };
    }

-- and then the whole text
pub forms_are : (text : List ℕ) (header : List Token) (at : ℕ) (declared : Prefixes) (trees : Trees) → BeginText text header at → IsHeader declared header
    → AreTreesBehind text at (standard_prefixes ++ declared) trees → AreFormsOf text (record { declared = declared; trees = trees })
forms_are text header at declared trees b h t =
    record { tokens = header ++ t.tokens; spelled = (spelling_is_reading text (header ++ t.tokens)).1 (b.reads t.tokens t.read); written = h.with_trees trees t.tokens t.closed }

-- ---- what the code gives

pub ok_some : {T E : Type 0} (r : Result T E) (o : Option T) (P : T → Type 0) → o ≡ result_ok r → IfOk r P → IfSome o P
ok_some (Ok x) o P e h = subst (λ z. IfSome z P) (sym e) h
ok_some (Err x) o P e h = subst (λ z. IfSome z P) (sym e) tt

pub no_trees : (ts : List code.Tree) → length ts ≡ 0 → trees_of ts ≡ Empty
no_trees [] e = refl
no_trees (t ∷ ts) e = absurd (omega arith)
