-- The text of a form's operands, one by one.
use Rattle.std.proofs.Common.{◌≡◌, ℕ, ◌+◌, ◌<◌, List, [], ◌∷◌, ◌++◌, length, drop, get_or, refl, sym, ap, ◌∙◌, append_assoc}
use Rattle.std.specs.Prelude.{codes}
use Rattle.std.proofs.lemmas.List.{drop_more}
use Rattle.fs_parser.specs.View.{tree_of, trees_of}
use Rattle.fs_parser.specs.declared.tree.Tree as code
use Rattle.statements_text.specs.Terms.{Terms, None, And, later_text, term_text}
use Rattle.statements_text.specs.TreeTerms.{term_in, terms_in}

-- the first behind one text, and each other behind a space
abbrev pub text_behind : List ℕ → Terms → List ℕ
text_behind lead None = []
text_behind lead (And first rest) = lead ++ (term_text first ++ later_text rest)

-- what is left of them
abbrev pub text_left : List ℕ → List code.Tree → List ℕ
text_left lead ts = text_behind lead (terms_in (trees_of ts))

spaced : (ts : Terms) → text_behind (codes " ") ts ≡ later_text ts
spaced None = refl
spaced (And first rest) = refl

left : (lead : List ℕ) (ts : List code.Tree) (i : ℕ) (t : code.Tree) → i < length ts → t ≡ get_or ts i t →
    text_left lead (drop i ts) ≡ lead ++ (term_text (term_in (tree_of t)) ++ text_left (codes " ") (drop (i + 1) ts))
left lead ts i t h e =
    ap (text_left lead) (drop_more ts i t h ∙ ap (λ (s : code.Tree). s ∷ drop (i + 1) ts) (sym e))
    ∙ ap (λ (rest : List ℕ). lead ++ (term_text (term_in (tree_of t)) ++ rest)) (sym (spaced (terms_in (trees_of (drop (i + 1) ts)))))

three : (out lead text rest : List ℕ) → ((out ++ lead) ++ text) ++ rest ≡ out ++ (lead ++ (text ++ rest))
three out lead text rest = simp append_assoc

-- one more is written
pub one_more : (all out mid new lead : List ℕ) (ts : List code.Tree) (i : ℕ) (t : code.Tree) → i < length ts → t ≡ get_or ts i t →
    mid ≡ out ++ lead → new ≡ mid ++ term_text (term_in (tree_of t)) → out ++ text_left lead (drop i ts) ≡ all → new ++ text_left (codes " ") (drop (i + 1) ts) ≡ all
one_more all out mid new lead ts i t h e f g inv =
    let text = term_text (term_in (tree_of t)) in
    let rest = text_left (codes " ") (drop (i + 1) ts) in
    ap (λ (x : List ℕ). x ++ rest) (g ∙ ap (λ (x : List ℕ). x ++ text) f)
    ∙ three out lead text rest
    ∙ ap (λ (x : List ℕ). out ++ x) (sym (left lead ts i t h e))
    ∙ inv
