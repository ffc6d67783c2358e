-- The texts of lists, one element on.
use Rattle.std.proofs.Common.{◌≡◌, ℕ, ◌+◌, ◌<◌, Bool, true, false, cond, List, [], ◌∷◌, ◌++◌, length, get_or, drop, sym, ap, ◌∙◌}
use Rattle.std.proofs.lemmas.List.{at_drop_more, append_assoc}
use Rattle.std.specs.List.{list_any}
use Rattle.axioms.specs.Ontology.{name_at}
use Rattle.taxonomy.specs.Texts.{firsts, is_same, listed, bracketed}

-- c is in a group that is there
pub firsts-skip : (r : ℕ → ℕ → Bool) (found order : List ℕ) (i : ℕ) → i < length order → list_any (is_same r (get_or order i 0)) found ≡ true → firsts r found (drop i order) ≡ firsts r found (drop (i + 1) order)
firsts-skip r found order i l e =
    at_drop_more (firsts r found) order i 0 l
    ∙ ap (λ b. cond b (firsts r found (drop (i + 1) order)) (get_or order i 0 ∷ firsts r (found ++ get_or order i 0 ∷ []) (drop (i + 1) order))) e

pub firsts-take : (r : ℕ → ℕ → Bool) (found order : List ℕ) (i : ℕ) → i < length order → list_any (is_same r (get_or order i 0)) found ≡ false → found ++ firsts r found (drop i order) ≡ (found ++ get_or order i 0 ∷ []) ++ firsts r (found ++ get_or order i 0 ∷ []) (drop (i + 1) order)
firsts-take r found order i l e =
    ap (λ rest. found ++ rest)
    (at_drop_more (firsts r found) order i 0 l
    ∙ ap (λ b. cond b (firsts r found (drop (i + 1) order)) (get_or order i 0 ∷ firsts r (found ++ get_or order i 0 ∷ []) (drop (i + 1) order))) e)
    ∙ sym (append_assoc found (get_or order i 0 ∷ []) (firsts r (found ++ get_or order i 0 ∷ []) (drop (i + 1) order)))

pub listed-more : (names : List (List ℕ)) (lead between : List ℕ) (ns : List ℕ) (i : ℕ) → i < length ns → listed names lead between (drop i ns) ≡ lead ++ bracketed (name_at names (get_or ns i 0)) ++ listed names between between (drop (i + 1) ns)
listed-more names lead between ns i l = at_drop_more (listed names lead between) ns i 0 l

-- two writes in a row
pub written-more : (out lead name rest : List ℕ) → ((out ++ lead) ++ name) ++ rest ≡ out ++ (lead ++ name ++ rest)
written-more out lead name rest = simp append_assoc
