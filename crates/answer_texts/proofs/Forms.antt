-- The text of a form, operand by operand.
use Rattle.std.proofs.Common.{◌≡◌, ℕ, ◌≤◌, List, [], ◌∷◌, ◌++◌, if◌then◌else◌, Result, OnOk, length, drop, map, refl, ap, sym, ◌∙◌, append_assoc}
use Rattle.std.specs.Prelude.{codes}
use Rattle.std.specs.List.{flat_map, join_by}
use Rattle.std.specs.Result.{is_ok}
use Rattle.std.proofs.lemmas.List.{append-nil, at_drop_all}
use Rattle.std.proofs.lemmas.Simd.{map-map}
use Rattle.answer_texts.specs.Axioms.{form}
use Rattle.answer_texts.proofs.More.{on_ok}

-- texts, the first behind one text and each other behind a space
abbrev pub pieces : {X : Type 0} → (X → List ℕ) → List ℕ → List X → List ℕ
pieces f lead [] = []
pieces f lead (x ∷ xs) = lead ++ f x ++ pieces f (codes " ") xs

later : {X : Type 0} (f : X → List ℕ) (xs : List X) → pieces f (codes " ") xs ≡ flat_map (λ t. codes " " ++ t) (map f xs)
later f [] = refl
later f (x ∷ xs) = ap (λ (t : List ℕ). codes " " ++ f x ++ t) (later f xs)

joined : {X : Type 0} (f : X → List ℕ) (xs : List X) → pieces f [] xs ≡ join_by (λ t. t) (codes " ") (map f xs)
joined f [] = refl
joined f (x ∷ xs) = ap (λ (t : List ℕ). f x ++ t) (later f xs)

whole : (out keyword begin inside end : List ℕ) → (((out ++ keyword) ++ begin) ++ inside) ++ end ≡ out ++ (((keyword ++ begin) ++ inside) ++ end)
whole out keyword begin inside end = simp append_assoc

pieces_in : (out keyword first later end : List ℕ) → (((out ++ (keyword ++ codes "(")) ++ first) ++ later) ++ end ≡ out ++ (((keyword ++ codes "(") ++ (first ++ later)) ++ end)
pieces_in out keyword first later end = simp append_assoc

behind : (out space second third : List ℕ) → (((out ++ space) ++ second) ++ space) ++ third ≡ out ++ ((space ++ second) ++ (space ++ third))
behind out space second third = simp append_assoc

-- the whole, once no operand is left
pub form_closed : {X : Type 0} (f : X → List ℕ) (out keyword now lead : List ℕ) (xs : List X) (i : ℕ) → length xs ≤ i
    → now ++ pieces f lead (drop i xs) ≡ ((out ++ keyword) ++ codes "(") ++ pieces f [] xs
    → now ++ codes ")" ≡ out ++ form keyword (map f xs)
form_closed f out keyword now lead xs i l e =
    let read : now ≡ ((out ++ keyword) ++ codes "(") ++ pieces f [] xs =
    sym (append-nil now) ∙ ap (λ (t : List ℕ). now ++ t) (sym (at_drop_all (pieces f lead) xs i l)) ∙ e in
    ap (λ (t : List ℕ). t ++ codes ")") read
    ∙ whole out keyword (codes "(") (pieces f [] xs) (codes ")")
    ∙ ap (λ (t : List ℕ). out ++ (((keyword ++ codes "(") ++ t) ++ codes ")")) (joined f xs)

-- texts of what numbers stand for
pub texts_by_number : {X Y : Type 0} (text : Y → List ℕ) (meant : ℕ → Y) (number : X → ℕ) (xs : List X) → map text (map meant (map number xs)) ≡ map (λ x. text (meant (number x))) xs
texts_by_number text meant number xs = ap (map text) (map-map meant number xs) ∙ map-map text (λ x. meant (number x)) xs

-- two operands, one after the other, and the end where memory is not refused
pub two_operands : {A E : Type 0} (r : Result A E) (out keyword first second : List ℕ) (a b c d new : List ℕ)
    → a ≡ out ++ (keyword ++ codes "(") → b ≡ a ++ first → c ≡ b ++ codes " " → d ≡ c ++ second → new ≡ (if is_ok r then d ++ codes ")" else d)
    → OnOk r (new ≡ out ++ form keyword (first ∷ second ∷ []))
two_operands r out keyword first second a b c d new ea eb ec ed en =
    let read : d ≡ ((out ++ (keyword ++ codes "(")) ++ first) ++ (codes " " ++ second) =
    ed ∙ ap (λ (t : List ℕ). t ++ second) (ec ∙ ap (λ (t : List ℕ). t ++ codes " ") (eb ∙ ap (λ (t : List ℕ). t ++ first) ea))
    ∙ append_assoc ((out ++ (keyword ++ codes "(")) ++ first) (codes " ") second in
    on_ok r new d (codes ")") (out ++ form keyword (first ∷ second ∷ [])) en
    (ap (λ (t : List ℕ). t ++ codes ")") read ∙ pieces_in out keyword first (codes " " ++ second) (codes ")")
    ∙ ap (λ (t : List ℕ). out ++ (((keyword ++ codes "(") ++ (first ++ t)) ++ codes ")")) (sym (append-nil (codes " " ++ second))))

-- three operands
pub three_operands : {A E : Type 0} (r : Result A E) (out keyword first second third : List ℕ) (b c d e f g new : List ℕ)
    → b ≡ out ++ (keyword ++ codes "(") → c ≡ b ++ first → d ≡ c ++ codes " " → e ≡ d ++ second → f ≡ e ++ codes " " → g ≡ f ++ third
    → new ≡ (if is_ok r then g ++ codes ")" else g)
    → OnOk r (new ≡ out ++ form keyword (first ∷ second ∷ third ∷ []))
three_operands r out keyword first second third b c d e f g new eb ec ed ee ef eg en =
    let begun : c ≡ (out ++ (keyword ++ codes "(")) ++ first =
    ec ∙ ap (λ (t : List ℕ). t ++ first) eb in
    let more : g ≡ c ++ ((codes " " ++ second) ++ (codes " " ++ third)) =
    eg ∙ ap (λ (t : List ℕ). t ++ third) (ef ∙ ap (λ (t : List ℕ). t ++ codes " ") (ee ∙ ap (λ (t : List ℕ). t ++ second) ed)) ∙ behind c (codes " ") second third in
    on_ok r new g (codes ")") (out ++ form keyword (first ∷ second ∷ third ∷ [])) en
    (ap (λ (t : List ℕ). t ++ codes ")") (more ∙ ap (λ (t : List ℕ). t ++ ((codes " " ++ second) ++ (codes " " ++ third))) begun)
    ∙ pieces_in out keyword first ((codes " " ++ second) ++ (codes " " ++ third)) (codes ")")
    ∙ ap (λ (t : List ℕ). out ++ (((keyword ++ codes "(") ++ (first ++ ((codes " " ++ second) ++ t))) ++ codes ")")) (sym (append-nil (codes " " ++ third))))
