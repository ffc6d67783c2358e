-- The tokens of terms are their trees, and those of lines a document.
use Rattle.std.proofs.Common.{◌≡◌, ℕ, ◌+◌, ◌≤◌, List, [], ◌∷◌, ◌++◌, length, max, refl, ap, inl, arith}
use Rattle.std.specs.Prelude.{codes}
use Rattle.std.proofs.Math.Nat.{max-le}
use Rattle.answer_texts.specs.Names.{name_text}
use Rattle.fs_lexer.specs.declared.token.Kind.TheVariants.{Opening, Closing, FullIri, Keyword}
use Rattle.fs_parser.specs.Document.{Document, IsDocument}
use Rattle.fs_parser.specs.Name.{Prefixes}
use Rattle.fs_parser.specs.Tree.{IsTree, AreTrees, depth, depth_of}
use Rattle.statements_text.specs.Terms.{Term, Terms, Word, Of, None, And, AllShallow, term_text, terms_text, token, closing, term_tokens, terms_tokens, later_tokens, term_tree, terms_trees, later_trees, term_depth, terms_depth, line_text, lines_text, lines_tokens, lines_trees, document_tokens}

mutual
  pub is_tree : (prefixes : Prefixes) (t : Term) (at : ℕ) → IsTree prefixes (term_tree at t) (term_tokens at t)
  is_tree prefixes (Word iri) at = (token FullIri (name_text iri) at, refl, refl, inl (refl, refl))
  is_tree prefixes (Of keyword operands) at =
      let front = at + length (keyword ++ codes "(") in (
        token Keyword keyword at,
        token Opening (codes "(") (at + length keyword),
        token Closing (codes ")") (front + length (terms_text operands)),
        terms_tokens front operands,
        refl,
        (refl, refl, refl),
        refl,
        refl,
        are_trees prefixes operands front,
      )

  pub are_trees : (prefixes : Prefixes) (ts : Terms) (at : ℕ) → AreTrees prefixes (terms_trees at ts) (terms_tokens at ts)
  are_trees prefixes None at = refl
  are_trees prefixes (And first rest) at =
      let behind = at + length (term_text first) in
      (term_tokens at first, later_tokens behind rest, refl, is_tree prefixes first at, are_later prefixes rest behind)

  pub are_later : (prefixes : Prefixes) (ts : Terms) (at : ℕ) → AreTrees prefixes (later_trees at ts) (later_tokens at ts)
  are_later prefixes None at = refl
  are_later prefixes (And first rest) at =
      let behind = at + 1 + length (term_text first) in
      (term_tokens (at + 1) first, later_tokens behind rest, refl, is_tree prefixes first (at + 1), are_later prefixes rest behind)

are_lines : (prefixes : Prefixes) (ts : List Term) (at : ℕ) → AreTrees prefixes (lines_trees at ts) (lines_tokens at ts)
are_lines prefixes [] at = refl
are_lines prefixes (t ∷ ts) at =
    let behind = at + length (line_text t) in
    (term_tokens at t, lines_tokens behind ts, refl, is_tree prefixes t at, are_lines prefixes ts behind)

-- ---- open parentheses

mutual
  pub same_depth : (t : Term) (at : ℕ) → depth (term_tree at t) ≡ term_depth t
  same_depth (Word iri) at = refl
  same_depth (Of keyword operands) at = ap (λ (n : ℕ). n + 1) (same_depths operands (at + length (keyword ++ codes "(")))

  pub same_depths : (ts : Terms) (at : ℕ) → depth_of (terms_trees at ts) ≡ terms_depth ts
  same_depths None at = refl
  same_depths (And first rest) at =
      let a = same_depth first at in
      let b = same_later rest (at + length (term_text first)) in
      rw (a, b) refl

  pub same_later : (ts : Terms) (at : ℕ) → depth_of (later_trees at ts) ≡ terms_depth ts
  same_later None at = refl
  same_later (And first rest) at =
      let a = same_depth first (at + 1) in
      let b = same_later rest (at + 1 + length (term_text first)) in
      rw (a, b) refl

pub most : (a b n : ℕ) → a ≤ n → b ≤ n → max a b ≤ n
most a b n h k = max-le h k

shallow : (n : ℕ) (ts : List Term) (at : ℕ) → AllShallow n ts → depth_of (lines_trees at ts) ≤ n
shallow n [] at h = omega arith
shallow n (t ∷ ts) at h =
    most (depth (term_tree at t)) (depth_of (lines_trees (at + length (line_text t)) ts)) n (omega (arith, same_depth t at, h.0)) (shallow n ts (at + length (line_text t)) h.1)

-- ---- the document

abbrev pub written : List Term → Document
written ts = record { declared = []; trees = lines_trees 10 ts }

pub is_document : (ts : List Term) → AllShallow 64 ts → IsDocument (written ts) (document_tokens ts)
is_document ts h =
    let behind = 10 + length (lines_text ts) in
    record {
      rest = document_tokens ts;
      declarations = refl;
      allowed = tt;
      ontology = record {
        word = token Keyword (codes "Ontology") 0;
        opening = token Opening (codes "(") 8;
        inside = lines_tokens 10 ts ++ closing behind;
        tokens_are = refl;
        keyword = (refl, refl);
        opens = refl;
        closed = record {
          inner = lines_tokens 10 ts;
          closing = token Closing (codes ")") behind;
          tokens_are = refl;
          closes = refl;
          are_trees = are_lines _ ts 10;
          shallow = shallow 64 ts 10 h;
        };
      };
    }
