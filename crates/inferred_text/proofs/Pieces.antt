-- Lines of statements, one element on, and at the end.
use Rattle.std.proofs.Common.{◌≡◌, ℕ, ◌+◌, ◌<◌, ◌≤◌, List, [], ◌∷◌, ◌++◌, Bool, true, false, cond, length, get_or, drop, refl, sym, ap, ◌∙◌, append_assoc}
use Rattle.std.specs.List.{filter, flat_map}
use Rattle.std.specs.Prelude.{codes}
use Rattle.std.proofs.lemmas.List.{append-nil, at_drop_all, at_drop_more}
use Rattle.std.proofs.lemmas.List.Concat.{flat_map-append}
use Rattle.answer_texts.specs.Names.{line_feed}
use Rattle.statements_text.specs.Texts.{declaration_text}

-- the lines of the pieces are the pieces' lines
pub lines_of_pieces : {X A B : Type 0} (f : A → List B) (g : X → List A) (xs : List X) → flat_map f (flat_map g xs) ≡ flat_map (λ x. flat_map f (g x)) xs
lines_of_pieces f g [] = refl
lines_of_pieces f g (x ∷ xs) = flat_map-append f (g x) (flat_map g xs) ∙ ap (λ rest. flat_map f (g x) ++ rest) (lines_of_pieces f g xs)

-- a loop that adds a text for each number that passes has added and has to add the whole, where the next number passes
pub passed_more : (f : ℕ → List ℕ) (p : ℕ → Bool) (xs : List ℕ) (i : ℕ) (old now whole : List ℕ) → i < length xs
    → p (get_or xs i 0) ≡ true → now ≡ old ++ f (get_or xs i 0) → old ++ flat_map f (filter p (drop i xs)) ≡ whole → now ++ flat_map f (filter p (drop (i + 1) xs)) ≡ whole
passed_more f p xs i old now whole l e added before =
    let rest = filter p (drop (i + 1) xs) in
    let step : flat_map f (filter p (drop i xs)) ≡ f (get_or xs i 0) ++ flat_map f rest =
    at_drop_more (λ ys. flat_map f (filter p ys)) xs i 0 l ∙ ap (λ b. flat_map f (cond b (get_or xs i 0 ∷ rest) rest)) e in
    ap (λ (t : List ℕ). t ++ flat_map f rest) added ∙ append_assoc old (f (get_or xs i 0)) (flat_map f rest) ∙ ap (λ (t : List ℕ). old ++ t) (sym step) ∙ before

-- where it does not
pub skipped_more : (f : ℕ → List ℕ) (p : ℕ → Bool) (xs : List ℕ) (i : ℕ) (old now whole : List ℕ) → i < length xs
    → p (get_or xs i 0) ≡ false → now ≡ old → old ++ flat_map f (filter p (drop i xs)) ≡ whole → now ++ flat_map f (filter p (drop (i + 1) xs)) ≡ whole
skipped_more f p xs i old now whole l e same before =
    let rest = filter p (drop (i + 1) xs) in
    let step : flat_map f (filter p (drop i xs)) ≡ flat_map f rest =
    at_drop_more (λ ys. flat_map f (filter p ys)) xs i 0 l ∙ ap (λ b. flat_map f (cond b (get_or xs i 0 ∷ rest) rest)) e in
    ap (λ (t : List ℕ). t ++ flat_map f rest) same ∙ ap (λ (t : List ℕ). old ++ t) (sym step) ∙ before

-- where none is left
pub none_left : (f : ℕ → List ℕ) (p : ℕ → Bool) (xs : List ℕ) (i : ℕ) (now whole : List ℕ) → length xs ≤ i
    → now ++ flat_map f (filter p (drop i xs)) ≡ whole → now ≡ whole
none_left f p xs i now whole l before =
    sym (append-nil now) ∙ ap (λ (t : List ℕ). now ++ t) (sym (at_drop_all (λ ys. flat_map f (filter p ys)) xs i l)) ∙ before

declared_whole : (out d p kind lt name gt close feed : List ℕ)
    → ((((out ++ (d ++ p)) ++ kind) ++ (p ++ lt)) ++ name) ++ (((gt ++ close) ++ close) ++ feed) ≡ out ++ ((((d ++ p) ++ ((((kind ++ p) ++ (((lt ++ name) ++ gt) ++ [])) ++ close) ++ [])) ++ close) ++ feed)
declared_whole out d p kind lt name gt close feed = simp (append_assoc, append-nil)

-- a declaration, piece by piece
pub declared : (out kind name a b c d e : List ℕ) → a ≡ out ++ codes "Declaration(" → b ≡ a ++ kind → c ≡ b ++ codes "(<" → d ≡ c ++ name → e ≡ d ++ codes ">))\n"
    → e ≡ out ++ (declaration_text kind name ++ line_feed)
declared out kind name a b c d e is_a is_b is_c is_d is_e =
    rw (is_e, is_d, is_c, is_b, is_a) (declared_whole out (codes "Declaration") (codes "(") kind (codes "<") name (codes ">") (codes ")") line_feed)

-- three pieces in a row, the last as it is added
pub in_a_row : (out a b c first second : List ℕ) → first ≡ out ++ a → second ≡ first ++ b → second ++ c ≡ out ++ (a ++ (b ++ c))
in_a_row out a b c first second is_first is_second = rw (is_second, is_first) (simp append_assoc)

-- two of them
pub behind : (out a b first : List ℕ) → first ≡ out ++ a → first ++ b ≡ out ++ (a ++ b)
behind out a b first is_first = rw is_first (append_assoc out a b)

-- a document, piece by piece
pub document_made : (start declarations axioms end a b c d : List ℕ) → a ≡ start → b ≡ a ++ declarations → c ≡ b ++ axioms → d ≡ c ++ end → d ≡ (start ++ (declarations ++ axioms)) ++ end
document_made start declarations axioms end a b c d is_a is_b is_c is_d = rw (is_d, is_c, is_b, is_a) (simp append_assoc)
