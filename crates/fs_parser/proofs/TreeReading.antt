-- Reading the trees of a text one by one.
use Rattle.std.proofs.Common.{◌≡◌, ℕ, ◌<◌, ◌≤◌, max, inl, inr, ◌⊎◌, List, [], ◌∷◌, ◌++◌, Option, Some, length, drop, refl, sym, ap, ◌∙◌, subst, arith, append_assoc}
use Rattle.std.proofs.lemmas.List.{append-nil}
use Rattle.std.specs.Option.{IfSome, IfNone}
use Rattle.fs_lexer.specs.Reading.{AreReadFrom}
use Rattle.fs_lexer.specs.Spelling.{Token}
use Rattle.fs_lexer.specs.declared.token.Kind.TheVariants.{Closing}
use Rattle.fs_parser.specs.Machine.{State, step, finish, start}
use Rattle.fs_parser.specs.Name.{Prefixes, StandForOne, IsNameOf}
use Rattle.fs_parser.specs.State.{name_of_code}
use Rattle.fs_parser.specs.Stream.{AreTreesBehind, BeginText, IsHeader}
use Rattle.fs_parser.specs.Tree.{Tree, Empty, depth}
use Rattle.fs_parser.specs.Rest.{IsStartOf, IsTreeAt, text_left}
use Rattle.fs_parser.specs.View.{trees_from, iri_of}
use Rattle.fs_parser.specs.declared.iri.Iri as code_iri
use Rattle.fs_parser.proofs.Sound.{run_reads}
use Rattle.fs_parser.proofs.Streams.{IsBetween, forms_are, next_between}

-- ---- one tree

-- between two tokens of a tree, of which none or some were read
pub record IsWithin (text : List ℕ) (at from : ℕ) (prefixes : Prefixes) (s : State) : Type 0 where
  pub between : IsBetween text at from prefixes s
  pub not_before : at ≤ from
  pub some : (s ≡ start) ⊎ (at < from)

pub next_within : (text : List ℕ) (at from behind : ℕ) (prefixes : Prefixes) → StandForOne prefixes → (s next last : State) (t : Token) (r : Option code_iri.Iri) → IsWithin text at from prefixes s → behind ≤ length text
    → ((more : List Token) → AreReadFrom (length text) (drop behind text) more → AreReadFrom (length text) (drop from text) (t ∷ more))
    → IfSome r (λ i. IsNameOf prefixes t (iri_of i)) → IfNone r ((iri : List ℕ) → IsNameOf prefixes t iri → ⊥) → step 64 (name_of_code r) s t ≡ Some next
    → from < behind → last ≡ next → IsWithin text at behind prefixes last
next_within text at from behind prefixes are s next last t r h l read some none e later same =
    let k : IsBetween text at behind prefixes next = next_between text at from behind prefixes are s next t r h.between l read some none e in
    record { between = subst (IsBetween text at behind prefixes) (sym same) k; not_before = omega (arith, h.not_before); some = inr (omega (arith, h.not_before)) }

-- the tree that was read, and what stands behind it
pub tree_read : (text : List ℕ) (at from : ℕ) (prefixes : Prefixes) (s : State) (tree : Tree) → IsWithin text at from prefixes s → finish s ≡ Some (tree ∷ []) → IsTreeAt text at prefixes tree from
tree_read text at from prefixes s tree h e =
    let b = h.between in
    let k = run_reads 64 prefixes [] s b.tokens b.tokens (tree ∷ []) b.has_read (sym (append-nil b.tokens)) e in
    let p = k.0 in
    let low : max (depth tree) 0 ≤ 64 = k.1 in
    let same : b.tokens ≡ p.0 = p.2 ∙ ap (λ (z : List Token). p.0 ++ z) p.4 ∙ append-nil p.0 in
    record {
      later = begun h.some;
      within = b.within;
      others = λ trees m.
          let c = m.closed in
          record {
            tokens = b.tokens ++ m.tokens;
            read = b.reads m.tokens m.read;
            closed = record {
              inner = b.tokens ++ c.inner;
              closing = c.closing;
              tokens_are = ap (λ (z : List Token). b.tokens ++ z) c.tokens_are ∙ sym (append_assoc b.tokens c.inner (c.closing ∷ []));
              closes = c.closes;
              are_trees = (p.0, c.inner, ap (λ (z : List Token). z ++ c.inner) same, p.3, c.are_trees);
              shallow = omega (arith, c.shallow);
            };
          };
    }
  where
    begun : (s ≡ start) ⊎ (at < from) → at < from
    begun (inl none) = absurd (let empty : Some [] ≡ Some (tree ∷ []) = ap finish (sym none) ∙ e in cc)
    begun (inr l) = l

-- ---- the start and the end

pub trees_start : (text : List ℕ) (header : List Token) (at : ℕ) (declared : Prefixes) → BeginText text header at → IsHeader declared header → IsStartOf text (text_left declared text at)
trees_start text header at declared b h = λ trees left. forms_are text header at declared (trees_from trees) b h left

pub none_left : (text : List ℕ) (from behind : ℕ) (t : Token) → t.kind ≡ Closing
    → ((more : List Token) → AreReadFrom (length text) (drop behind text) more → AreReadFrom (length text) (drop from text) (t ∷ more))
    → AreReadFrom (length text) (drop behind text) [] → (prefixes : Prefixes) → AreTreesBehind text from prefixes Empty
none_left text from behind t closing read nothing prefixes =
    record { tokens = t ∷ []; read = read [] nothing; closed = record { inner = []; closing = t; tokens_are = refl; closes = closing; are_trees = refl; shallow = omega arith } }
