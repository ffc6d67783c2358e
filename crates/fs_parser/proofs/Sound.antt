-- What is read is a tree.
use Rattle.std.proofs.Common.{◌≡◌, ℕ, ◌+◌, ◌-◌, ◌≤◌, nat_lt, List, [], ◌∷◌, ◌++◌, Bool, true, false, Option, Some, None, length, refl, sym, ap, ◌∙◌, subst, arith, append_assoc}
use Rattle.std.proofs.lemmas.List.{append-nil}
use Rattle.std.proofs.lemmas.Bool.{ltb-true}
use Rattle.std.proofs.lemmas.Option.{none-some, same_Some}
use Rattle.fs_lexer.specs.declared.token.Kind.{Kind}
use Rattle.fs_lexer.specs.declared.token.Kind.TheVariants.{Opening, Closing, Equals, Carets, FullIri, Quoted, LanguageTag, Keyword, Integer, PrefixName, ShortName, NodeLabel}
use Rattle.fs_lexer.specs.Spelling.{Token}
use Rattle.fs_parser.specs.Name.{Prefixes, IsNameOf}
use Rattle.fs_parser.specs.Tree.{IsTree, AreTrees, IsToken, IsSign, Tree, Name, PlainLiteral, TaggedLiteral, TypedLiteral, Anonymous, Number, depth, depth_of}
use Rattle.fs_parser.specs.View.{trees_from}
use Rattle.fs_parser.proofs.Names.{name_of, name_is}
use Rattle.fs_parser.specs.Machine.{Pending, Nothing, Word, Text, Typed, Frame, State, state, add, if_named, enter_if, enter, whole, leave, plain, behind_text, behind_word, step_at, step, finish_at, start}
use Rattle.fs_parser.proofs.Run.{then_run, run, read}

-- ---- one more tree

pub trees_push : (prefixes : Prefixes) (done : List Tree) (tree : Tree) (a b : List Token) → AreTrees prefixes (trees_from done) a → IsTree prefixes tree b
    → AreTrees prefixes (trees_from (done ++ tree ∷ [])) (a ++ b)
trees_push prefixes [] tree a b h k = (b, [], ap (λ (z : List Token). z ++ b) h ∙ sym (append-nil b), k, refl)
trees_push prefixes (d ∷ done) tree a b h k =
    (h.0, h.1 ++ b, ap (λ (z : List Token). z ++ b) h.2 ∙ append_assoc h.0 h.1 b, h.3, trees_push prefixes done tree h.1 b h.4 k)

depth_push : (done : List Tree) (tree : Tree) (n : ℕ) → depth_of (trees_from done) ≤ n → depth tree ≤ n → depth_of (trees_from (done ++ tree ∷ [])) ≤ n
depth_push [] tree n l k = omega arith
depth_push (d ∷ done) tree n l k = let m = depth_push done tree n (omega arith) k in omega arith

-- ---- what a state has read

-- what opens a frame
abbrev pub IsHead : ℕ → Option (List ℕ) → List Token → Type 0
IsHead at None tokens = (o : Token) × (tokens ≡ o ∷ []) × IsSign Opening o × (o.at ≡ at)
IsHead at (Some keyword) tokens = (w : Token) × (o : Token) × (tokens ≡ w ∷ o ∷ []) × IsToken Keyword at keyword w × IsSign Opening o

abbrev pub AreOpen : ℕ → Prefixes → List Frame → List Tree → List Token → Type 0
AreOpen limit prefixes [] done tokens = AreTrees prefixes (trees_from done) tokens × (depth_of (trees_from done) ≤ limit)
AreOpen limit prefixes (f ∷ frames) done tokens =
    (a : List Token) × (head : List Token) × (b : List Token) × (tokens ≡ a ++ (head ++ b)) × AreOpen limit prefixes frames f.before a
    × IsHead f.at f.keyword head × AreTrees prefixes (trees_from done) b × (depth_of (trees_from done) + (length frames + 1) ≤ limit)

abbrev pub IsPending : Pending → List Token → Type 0
IsPending Nothing tokens = tokens ≡ []
IsPending (Word at keyword) tokens = (t : Token) × (tokens ≡ t ∷ []) × IsToken Keyword at keyword t
IsPending (Text at text) tokens = (t : Token) × (tokens ≡ t ∷ []) × IsToken Quoted at text t
IsPending (Typed at text) tokens = (t : Token) × (u : Token) × (tokens ≡ t ∷ u ∷ []) × IsToken Quoted at text t × IsSign Carets u

-- the tokens are what the state has read
pub record HasRead (limit : ℕ) (prefixes : Prefixes) (s : State) (tokens : List Token) : Type 0 where
  pub before : List Token
  pub last : List Token
  pub frames : AreOpen limit prefixes s.frames s.done before
  pub pending : IsPending s.pending last
  pub are : tokens ≡ before ++ last

-- one more tree of the tokens at the end
push : (limit : ℕ) (prefixes : Prefixes) (frames : List Frame) (done : List Tree) (tree : Tree) (a b : List Token)
    → AreOpen limit prefixes frames done a → IsTree prefixes tree b → depth tree + length frames ≤ limit
    → AreOpen limit prefixes frames (done ++ tree ∷ []) (a ++ b)
push limit prefixes [] done tree a b h k l = (trees_push prefixes done tree a b h.0 k, depth_push done tree limit h.1 (omega arith))
push limit prefixes (f ∷ frames) done tree a b h k l =
    let m = depth_push done tree (limit - (length frames + 1)) (omega (arith, h.7)) (omega arith) in (
      h.0,
      h.1,
      h.2 ++ b,
      ap (λ (z : List Token). z ++ b) h.3 ∙ append_assoc h.0 (h.1 ++ h.2) b ∙ ap (λ (z : List Token). h.0 ++ z) (append_assoc h.1 h.2 b),
      h.4,
      h.5,
      trees_push prefixes done tree h.2 b h.6 k,
      omega (arith, h.7),
    )

low : (limit : ℕ) (prefixes : Prefixes) (frames : List Frame) (done : List Tree) (a : List Token) → AreOpen limit prefixes frames done a → length frames ≤ limit
low limit prefixes [] done a h = omega arith
low limit prefixes (f ∷ frames) done a h = omega (arith, h.7)

-- with one more tree, which has no parentheses, the state has read the tokens of the tree too
pushed : (limit : ℕ) (prefixes : Prefixes) (frames : List Frame) (done : List Tree) (tree : Tree) (a b tokens : List Token)
    → AreOpen limit prefixes frames done a → IsTree prefixes tree b → depth tree ≡ 0 → tokens ≡ a ++ b
    → HasRead limit prefixes (add frames done tree) tokens
pushed limit prefixes frames done tree a b tokens h k shallow e =
    record {
      before = a ++ b;
      last = [];
      frames = push limit prefixes frames done tree a b h k (let l = low limit prefixes frames done a h in omega arith);
      pending = refl;
      are = e ∙ sym (append-nil (a ++ b));
    }

named : (limit : ℕ) (prefixes : Prefixes) (frames : List Frame) (done : List Tree) (tree : List ℕ → Tree) (a b tokens : List Token) (t : Token) (s : State)
    → AreOpen limit prefixes frames done a → ((iri : List ℕ) → IsNameOf prefixes t iri → IsTree prefixes (tree iri) b) → ((iri : List ℕ) → depth (tree iri) ≡ 0) → tokens ≡ a ++ b
    → if_named (name_of prefixes t) frames done tree ≡ Some s → HasRead limit prefixes s tokens
named limit prefixes frames done tree a b tokens t s h k shallow e = go (name_of prefixes t) (name_is prefixes t)
  where
    go : (o : Option (List ℕ)) → ((iri : List ℕ) → o ≡ Some iri → IsNameOf prefixes t iri) → if_named o frames done tree ≡ Some s → HasRead limit prefixes s tokens
    go None is g = absurd (none-some s g)
    go (Some iri) is g = subst (λ (z : State). HasRead limit prefixes z tokens) (same_Some _ s g) (pushed limit prefixes frames done (tree iri) a b tokens h (k iri (is iri refl)) (shallow iri) e)

entered : (limit : ℕ) (prefixes : Prefixes) (frames : List Frame) (done : List Tree) (at : ℕ) (keyword : Option (List ℕ)) (a head tokens : List Token) (s : State)
    → AreOpen limit prefixes frames done a → IsHead at keyword head → tokens ≡ a ++ head
    → enter limit frames done at keyword ≡ Some s → HasRead limit prefixes s tokens
entered limit prefixes frames done at keyword a head tokens s h k e = go (nat_lt (length frames) limit) refl
  where
    go : (b : Bool) → nat_lt (length frames) limit ≡ b → enter_if b frames done at keyword ≡ Some s → HasRead limit prefixes s tokens
    go false t g = absurd (none-some s g)
    go true t g =
        subst (λ (z : State). HasRead limit prefixes z tokens) (same_Some _ s g) (record {
          before = tokens;
          last = [];
          frames = (a, head, [], e ∙ ap (λ (z : List Token). a ++ z) (sym (append-nil head)), h, k, refl, (let l = ltb-true (length frames) limit t in omega arith));
          pending = refl;
          are = sym (append-nil tokens);
        })

whole_is : (prefixes : Prefixes) (at : ℕ) (keyword : Option (List ℕ)) (done : List Tree) (head b : List Token) (t : Token) → IsHead at keyword head → AreTrees prefixes (trees_from done) b → t.kind ≡ Closing
    → IsTree prefixes (whole at keyword done) (head ++ (b ++ t ∷ []))
whole_is prefixes at None done head b t h k e = (h.0, t, b, ap (λ (z : List Token). z ++ (b ++ t ∷ [])) h.1, h.2, h.3, e, k)
whole_is prefixes at (Some keyword) done head b t h k e = (h.0, h.1, t, b, ap (λ (z : List Token). z ++ (b ++ t ∷ [])) h.2, h.3, h.4, e, k)

whole_deep : (at : ℕ) (keyword : Option (List ℕ)) (done : List Tree) → depth (whole at keyword done) ≡ depth_of (trees_from done) + 1
whole_deep at None done = refl
whole_deep at (Some keyword) done = refl

left : (limit : ℕ) (prefixes : Prefixes) (frames : List Frame) (done : List Tree) (a tokens : List Token) (t : Token) (s : State)
    → AreOpen limit prefixes frames done a → t.kind ≡ Closing → tokens ≡ a ++ t ∷ [] → leave frames done ≡ Some s → HasRead limit prefixes s tokens
left limit prefixes [] done a tokens t s h k e g = absurd (none-some s g)
left limit prefixes (f ∷ frames) done a tokens t s h k e g =
    let tree = whole f.at f.keyword done in
    let joined : a ++ t ∷ [] ≡ h.0 ++ (h.1 ++ (h.2 ++ t ∷ [])) =
    ap (λ (z : List Token). z ++ t ∷ []) h.3 ∙ append_assoc h.0 (h.1 ++ h.2) (t ∷ []) ∙ ap (λ (z : List Token). h.0 ++ z) (append_assoc h.1 h.2 (t ∷ [])) in
    let d : depth tree ≡ depth_of (trees_from done) + 1 = whole_deep f.at f.keyword done in
    let b = h.1 ++ (h.2 ++ t ∷ []) in
    subst (λ (z : State). HasRead limit prefixes z tokens) (same_Some _ s g) (record {
      before = h.0 ++ b;
      last = [];
      frames = push limit prefixes frames f.before tree h.0 b h.4 (whole_is prefixes f.at f.keyword done h.1 h.2 t h.5 h.6 k) (omega (arith, h.7));
      pending = refl;
      are = e ∙ joined ∙ sym (append-nil (h.0 ++ b));
    })

kept : (limit : ℕ) (prefixes : Prefixes) (frames : List Frame) (done : List Tree) (pending : Pending) (a b tokens : List Token) (s : State)
    → AreOpen limit prefixes frames done a → IsPending pending b → tokens ≡ a ++ b → Some (state frames done pending) ≡ Some s → HasRead limit prefixes s tokens
kept limit prefixes frames done pending a b tokens s h k e g =
    subst (λ (z : State). HasRead limit prefixes z tokens) (same_Some _ s g) (record { before = a; last = b; frames = h; pending = k; are = e })

done_now : (limit : ℕ) (prefixes : Prefixes) (frames : List Frame) (done : List Tree) (tree : Tree) (a b tokens : List Token) (s : State)
    → AreOpen limit prefixes frames done a → IsTree prefixes tree b → depth tree ≡ 0 → tokens ≡ a ++ b → Some (add frames done tree) ≡ Some s → HasRead limit prefixes s tokens
done_now limit prefixes frames done tree a b tokens s h k shallow e g =
    subst (λ (z : State). HasRead limit prefixes z tokens) (same_Some _ s g) (pushed limit prefixes frames done tree a b tokens h k shallow e)

plain_reads : (limit : ℕ) (prefixes : Prefixes) (frames : List Frame) (done : List Tree) (kind : Kind) (t : Token) (a tokens : List Token) (s : State)
    → AreOpen limit prefixes frames done a → t.kind ≡ kind → tokens ≡ a ++ t ∷ [] → plain limit (name_of prefixes t) frames done kind t ≡ Some s → HasRead limit prefixes s tokens
plain_reads limit prefixes frames done Opening t a tokens s h k e g = entered limit prefixes frames done t.at None a (t ∷ []) tokens s h (t, refl, k, refl) e g
plain_reads limit prefixes frames done Closing t a tokens s h k e g = left limit prefixes frames done a tokens t s h k e g
plain_reads limit prefixes frames done FullIri t a tokens s h k e g = named limit prefixes frames done (Name t.at) a (t ∷ []) tokens t s h (λ iri n. (t, refl, refl, n)) (λ iri. refl) e g
plain_reads limit prefixes frames done ShortName t a tokens s h k e g = named limit prefixes frames done (Name t.at) a (t ∷ []) tokens t s h (λ iri n. (t, refl, refl, n)) (λ iri. refl) e g
plain_reads limit prefixes frames done Quoted t a tokens s h k e g = kept limit prefixes frames done (Text t.at t.text) a (t ∷ []) tokens s h (t, refl, (k, refl, refl)) e g
plain_reads limit prefixes frames done Keyword t a tokens s h k e g = kept limit prefixes frames done (Word t.at t.text) a (t ∷ []) tokens s h (t, refl, (k, refl, refl)) e g
plain_reads limit prefixes frames done Integer t a tokens s h k e g = done_now limit prefixes frames done (Number t.at t.text) a (t ∷ []) tokens s h (t, refl, (k, refl, refl)) refl e g
plain_reads limit prefixes frames done NodeLabel t a tokens s h k e g = done_now limit prefixes frames done (Anonymous t.at t.text) a (t ∷ []) tokens s h (t, refl, (k, refl, refl)) refl e g
plain_reads limit prefixes frames done Equals t a tokens s h k e g = absurd (none-some s g)
plain_reads limit prefixes frames done Carets t a tokens s h k e g = absurd (none-some s g)
plain_reads limit prefixes frames done LanguageTag t a tokens s h k e g = absurd (none-some s g)
plain_reads limit prefixes frames done PrefixName t a tokens s h k e g = absurd (none-some s g)

word_reads : (limit : ℕ) (prefixes : Prefixes) (frames : List Frame) (done : List Tree) (at : ℕ) (keyword : List ℕ) (kind : Kind) (t : Token) (a b tokens : List Token) (s : State)
    → AreOpen limit prefixes frames done a → IsPending (Word at keyword) b → t.kind ≡ kind → tokens ≡ a ++ (b ++ t ∷ [])
    → behind_word limit frames done at keyword kind ≡ Some s → HasRead limit prefixes s tokens
word_reads limit prefixes frames done at keyword Opening t a b tokens s h p k e g =
    entered limit prefixes frames done at (Some keyword) a (p.0 ∷ t ∷ []) tokens s h (p.0, t, refl, p.2, k) (e ∙ ap (λ (z : List Token). a ++ (z ++ t ∷ [])) p.1) g
word_reads limit prefixes frames done at keyword _ t a b tokens s h p k e g = absurd (none-some s g)

text_reads : (limit : ℕ) (prefixes : Prefixes) (frames : List Frame) (done : List Tree) (at : ℕ) (text : List ℕ) (kind : Kind) (t : Token) (a b tokens : List Token) (s : State)
    → AreOpen limit prefixes frames done a → IsPending (Text at text) b → t.kind ≡ kind → tokens ≡ a ++ (b ++ t ∷ [])
    → behind_text limit (name_of prefixes t) frames done at text kind t ≡ Some s → HasRead limit prefixes s tokens
text_reads limit prefixes frames done at text LanguageTag t a b tokens s h p k e g =
    done_now limit prefixes frames done (TaggedLiteral at text t.text) a (p.0 ∷ t ∷ []) tokens s h (p.0, t, refl, p.2, k, refl) refl (e ∙ ap (λ (z : List Token). a ++ (z ++ t ∷ [])) p.1) g
text_reads limit prefixes frames done at text Carets t a b tokens s h p k e g =
    kept limit prefixes frames done (Typed at text) a (p.0 ∷ t ∷ []) tokens s h (p.0, t, refl, p.2, k) (e ∙ ap (λ (z : List Token). a ++ (z ++ t ∷ [])) p.1) g
text_reads limit prefixes frames done at text kind t a b tokens s h p k e g =
    plain_reads limit prefixes frames (done ++ PlainLiteral at text ∷ []) kind t (a ++ b) tokens s
    (push limit prefixes frames done (PlainLiteral at text) a b h p (let l = low limit prefixes frames done a h in omega arith)) k
    (e ∙ sym (append_assoc a b (t ∷ []))) g

pub step_reads : (limit : ℕ) (prefixes : Prefixes) (frames : List Frame) (done : List Tree) (pending : Pending) (t : Token) (a b tokens : List Token) (s : State)
    → AreOpen limit prefixes frames done a → IsPending pending b → tokens ≡ a ++ (b ++ t ∷ [])
    → step_at limit (name_of prefixes t) frames done pending t.kind t ≡ Some s → HasRead limit prefixes s tokens
step_reads limit prefixes frames done Nothing t a b tokens s h p e g =
    plain_reads limit prefixes frames done t.kind t a tokens s h refl (e ∙ ap (λ (z : List Token). a ++ (z ++ t ∷ [])) p) g
step_reads limit prefixes frames done (Word at keyword) t a b tokens s h p e g = word_reads limit prefixes frames done at keyword t.kind t a b tokens s h p refl e g
step_reads limit prefixes frames done (Text at text) t a b tokens s h p e g = text_reads limit prefixes frames done at text t.kind t a b tokens s h p refl e g
step_reads limit prefixes frames done (Typed at text) t a b tokens s h p e g =
    named limit prefixes frames done (TypedLiteral at text) a (p.0 ∷ p.1 ∷ t ∷ []) tokens t s h (λ iri n. (p.0, p.1, t, refl, p.3, p.4, n)) (λ iri. refl)
    (e ∙ ap (λ (z : List Token). a ++ (z ++ t ∷ [])) p.2) g

finish_reads : (limit : ℕ) (prefixes : Prefixes) (frames : List Frame) (done : List Tree) (pending : Pending) (a b tokens : List Token) (trees : List Tree)
    → AreOpen limit prefixes frames done a → IsPending pending b → tokens ≡ a ++ b → finish_at frames done pending ≡ Some trees
    → AreTrees prefixes (trees_from trees) tokens × (depth_of (trees_from trees) ≤ limit)
finish_reads limit prefixes [] done Nothing a b tokens trees h p e g =
    let k : tokens ≡ a = e ∙ ap (λ (z : List Token). a ++ z) p ∙ append-nil a in
    let same : done ≡ trees = same_Some done trees g in
    rw (k, ← same) h
finish_reads limit prefixes [] done (Text at text) a b tokens trees h p e g =
    let same : done ++ PlainLiteral at text ∷ [] ≡ trees = same_Some (done ++ PlainLiteral at text ∷ []) trees g in
    rw (e, ← same) (push limit prefixes [] done (PlainLiteral at text) a b h p (omega arith))
finish_reads limit prefixes _ done _ a b tokens trees h p e g = absurd (none-some trees g)

pub run_reads : (limit : ℕ) (prefixes : Prefixes) (ts : List Token) (s : State) (before tokens : List Token) (trees : List Tree)
    → HasRead limit prefixes s before → tokens ≡ before ++ ts → run limit prefixes ts s ≡ Some trees
    → AreTrees prefixes (trees_from trees) tokens × (depth_of (trees_from trees) ≤ limit)
run_reads limit prefixes [] s before tokens trees h e g =
    finish_reads limit prefixes s.frames s.done s.pending h.before h.last tokens trees h.frames h.pending (e ∙ append-nil before ∙ h.are) g
run_reads limit prefixes (t ∷ ts) s before tokens trees h e g =
    go (λ next read e'. run_reads limit prefixes ts next (before ++ t ∷ []) tokens trees read e') (step limit (name_of prefixes t) s t) refl g
  where
    go : ((next : State) → HasRead limit prefixes next (before ++ t ∷ []) → tokens ≡ (before ++ t ∷ []) ++ ts → run limit prefixes ts next ≡ Some trees → AreTrees prefixes (trees_from trees) tokens × (depth_of (trees_from trees) ≤ limit))
        → (o : Option State) → step limit (name_of prefixes t) s t ≡ o → then_run o (run limit prefixes ts) ≡ Some trees → AreTrees prefixes (trees_from trees) tokens × (depth_of (trees_from trees) ≤ limit)
    go f None k x = absurd (none-some trees x)
    go f (Some next) k x =
        f next (step_reads limit prefixes s.frames s.done s.pending t h.before h.last (before ++ t ∷ []) next h.frames h.pending (ap (λ (z : List Token). z ++ t ∷ []) h.are ∙ append_assoc h.before h.last (t ∷ [])) k)
        (e ∙ sym (append_assoc before (t ∷ []) ts)) x

-- what is read is the tokens' trees, and they are not too deep
pub read_is : (limit : ℕ) (prefixes : Prefixes) (tokens : List Token) (trees : List Tree) → read limit prefixes tokens ≡ Some trees
    → AreTrees prefixes (trees_from trees) tokens × (depth_of (trees_from trees) ≤ limit)
read_is limit prefixes tokens trees g =
    run_reads limit prefixes tokens start [] tokens trees (record { before = []; last = []; frames = (refl, omega arith); pending = refl; are = refl }) refl g
