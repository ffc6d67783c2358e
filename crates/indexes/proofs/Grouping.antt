-- The least of each group of individuals that forms make one.
use Rattle.std.proofs.Common.{◌≡◌, ◌↔◌, ℕ, ◌+◌, ◌<◌, ◌≤◌, ◌⊎◌, inl, inr, ⊎_elim, Bool, true, IsTrue, List, length, slice_get, slice_index, Some, Contains, refl, sym, ap, ◌∙◌, subst, arith, rules, eqb}
use Rattle.std.specs.List.{All}
use Rattle.std.proofs.lemmas.List.{get_or_past, get_or_default}
use Rattle.std.proofs.lemmas.List.Elements.{All-contains}
use Rattle.std.proofs.lemmas.Bool.{cases_eq, cases_lt}
use Rattle.std.proofs.lemmas.Option.{same_Some, slice_get_within}
use Rattle.lemmas.proofs.Members.{slice_get-from_Contains}
use Rattle.axioms.specs.declared.ids.IndId.{IndId}
use Rattle.normal_forms.specs.declared.forms.Form.{Form}
use Rattle.normal_forms.specs.declared.forms.Form.TheVariants.{N10}
use Rattle.normal_forms.proofs.Filters.{kept, from_kept}
use Rattle.facts.specs.Closure.{AreSame, Links, itself, step}
use Rattle.facts.proofs.Sameness.{and_then, turned, one_link, of_more}
use Rattle.indexes.specs.Groups.{AreLeast, IsBelow, is_link, least_in, links}
use Rattle.indexes.specs.Roots.{LeadDown, IsRootOf, HaveOneRoot, AreEntriesSame, Joins, JoinsBy}
use Rattle.indexes.proofs.Paths.{ind, one_root, root_low, same_as_root}

-- ---- the forms that make individuals one are enough

links_make_one : (form : Form) (i j : IndId) → Links form i j → is_link form ≡ true
links_make_one (N10 a b) i j h = refl
links_make_one _ i j h = absurd h

to_links : (forms : List Form) {i j : IndId} → AreSame forms i j → AreSame (links forms) i j
to_links forms itself = itself
to_links forms (step {j = j} h form p there link) = step h form (to_links forms p) (kept is_link forms form there (links_make_one form h j link)) link

pub links_suffice : (forms : List Form) (i j : IndId) → AreSame (links forms) i j ↔ AreSame forms i j
links_suffice forms i j = (of_more (λ form. from_kept is_link forms form), to_links forms)

-- ---- two that are one by a form are below the count

linked_below : (n : ℕ) (form : Form) (i j : IndId) → IsBelow n form → Links form i j → (i.0 < n) × (j.0 < n)
linked_below n (N10 a b) i j (p, q) (inl (e, f)) = let x = ap (λ (k : IndId). k.0) e in let y = ap (λ (k : IndId). k.0) f in (omega arith, omega arith)
linked_below n (N10 a b) i j (p, q) (inr (e, f)) = let x = ap (λ (k : IndId). k.0) e in let y = ap (λ (k : IndId). k.0) f in (omega arith, omega arith)
linked_below n _ i j b h = absurd h

-- ---- where each entry leads to has one root with all that are one with it

module _ (forms : List Form) (t v : List ℕ) (below : All (IsBelow (length t)) forms) (down : LeadDown t) (sound : AreEntriesSame forms t)
    (joined : (form : Form) (i j : IndId) → Contains forms form → Links form i j → HaveOneRoot t i.0 j.0)
    (long : length v ≡ length t) (roots : (x : ℕ) → x < length t → IsRootOf t x (slice_index v x)) where
  form_below : (form : Form) (i j : IndId) → Contains forms form → Links form i j → (i.0 < length t) × (j.0 < length t)
  form_below form i j there link = linked_below (length t) form i j (All-contains (IsBelow (length t)) forms form below there) link

  alike : {i j : IndId} → AreSame forms i j → (i ≡ j) ⊎ ((i.0 < length t) × (j.0 < length t) × (slice_index v i.0 ≡ slice_index v j.0))
  alike itself = inl refl
  alike {i} {j} (step h form p there link) =
      let b = form_below form h j there link in
      let (z, r, q) = joined form h j there link in
      let same : slice_index v h.0 ≡ slice_index v j.0 = one_root (roots h.0 b.0) r ∙ sym (one_root (roots j.0 b.1) q) in
      ⊎_elim
      (λ (e : i ≡ h). inr (subst (λ (k : IndId). k.0 < length t) (sym e) b.0, b.1, ap (λ (k : IndId). slice_index v k.0) e ∙ same))
      (λ w. inr (w.0, b.1, w.2 ∙ same))
      (alike p)

  -- what the table has within, and past its end
  within : (a : IndId) → a.0 < length t → (least_in v a).0 ≡ slice_index v a.0
  within a l = get_or_default v a.0 a.0 0 (omega arith)

  past : (a : IndId) → length t ≤ a.0 → (least_in v a).0 ≡ a.0
  past a l = get_or_past v a.0 a.0 (omega arith)

  entry_low : (a : IndId) → (least_in v a).0 ≤ a.0
  entry_low a = ⊎_elim
      (λ (l : a.0 < length t). (let e = within a l in let k = root_low down (roots a.0 l) in omega (arith, e, k)))
      (λ (l : length t ≤ a.0). (let e = past a l in omega (arith, e)))
      (cases_lt a.0 (length t))

  pub least : AreLeast forms v
  least = record {
    same = λ a. ⊎_elim
        (λ (l : a.0 < length t). subst (λ (k : ℕ). AreSame forms a (ind k)) (sym (within a l)) (same_as_root sound (roots a.0 l)))
        (λ (l : length t ≤ a.0). subst (λ (k : ℕ). AreSame forms a (ind k)) (sym (past a l)) itself)
        (cases_lt a.0 (length t));
    low = λ a b p. ⊎_elim
        (λ (e : a ≡ b). subst (λ (k : IndId). (least_in v a).0 ≤ k.0) e (entry_low a))
        (λ w. (let k : slice_index v b.0 ≤ b.0 = root_low down (roots b.0 w.1) in
        let e = within a w.0 in
        omega (arith, e, w.2, k)))
        (alike p);
  }

tells : (x y : ℕ) (r : Bool) → r ≡ eqb x y → IsTrue r ↔ (x ≡ y)
tells x y r e = search rules

-- two are one where they have one least
pub told_same : (forms : List Form) (a b least_a least_b : IndId) (r : Bool) → r ≡ eqb least_a.0 least_b.0
    → AreSame forms a least_a → ((c : IndId) → AreSame forms a c → least_a.0 ≤ c.0)
    → AreSame forms b least_b → ((c : IndId) → AreSame forms b c → least_b.0 ≤ c.0) → IsTrue r ↔ AreSame forms a b
told_same forms a b least_a least_b r is same_a low_a same_b low_b = (
  λ h. (let e : least_a.0 ≡ least_b.0 = (tells least_a.0 least_b.0 r is).0 h in
      and_then (subst (λ (k : ℕ). AreSame forms a (ind k)) e same_a) (turned same_b)),
  λ p. (let x = low_a least_b (and_then p same_b) in
      let y = low_b least_a (and_then (turned p) same_a) in
      (tells least_a.0 least_b.0 r is).1 (omega (arith, x, y))),
)

-- ---- as forms are gone through

-- a form that is below a number is below a greater one
pub below_more : (m n : ℕ) (form : Form) → m ≤ n → IsBelow m form → IsBelow n form
below_more m n (N10 a b) l (p, q) = (omega arith, omega arith)
below_more m n _ l h = tt

-- a form makes two lead to one
pub joins_by : (t u : List ℕ) (a b : IndId) → Joins t u a.0 b.0 → JoinsBy t u (N10 a b)
joins_by t u a b j = record {
  long = j.long;
  down = j.down;
  stays = j.stays;
  one = λ x y. ⊎_elim
      (λ (w : (x ≡ a) × (y ≡ b)). subst (λ (k : IndId). HaveOneRoot u k.0 y.0) (sym w.0) (subst (λ (k : IndId). HaveOneRoot u a.0 k.0) (sym w.1) j.one))
      (λ (w : (x ≡ b) × (y ≡ a)). (let (z, p, q) = j.one in subst (λ (k : IndId). HaveOneRoot u k.0 y.0) (sym w.0) (subst (λ (k : IndId). HaveOneRoot u b.0 k.0) (sym w.1) (z, q, p))));
  sound = λ forms sound there. j.sound forms sound (one_link (N10 a b) a b there (inl (refl, refl)));
}

pub joined_more : (forms : List Form) (old after : List ℕ) (n : ℕ) (form : Form) → slice_get forms n ≡ Some form → JoinsBy old after form
    → ((k : ℕ) (g : Form) (i j : IndId) → k < n → slice_get forms k ≡ Some g → Links g i j → HaveOneRoot old i.0 j.0)
    → (k : ℕ) (g : Form) (i j : IndId) → k < n + 1 → slice_get forms k ≡ Some g → Links g i j → HaveOneRoot after i.0 j.0
joined_more forms old after n form at by earlier k g i j l is link = elim (cases_eq k n) [
  | inl e ↦ (let same : g ≡ form = same_Some g form (sym is ∙ ap (slice_get forms) e ∙ at) in
      by.one i j (subst (λ (h : Form). Links h i j) same link))
  | inr ne ↦ by.stays i.0 j.0 (earlier k g i j (omega arith) is link)
]

pub at_end : (forms : List Form) (t v : List ℕ) (n : ℕ) → length forms ≤ n → All (IsBelow (length t)) forms → LeadDown t → AreEntriesSame forms t
    → ((k : ℕ) (g : Form) (i j : IndId) → k < n → slice_get forms k ≡ Some g → Links g i j → HaveOneRoot t i.0 j.0)
    → length v ≡ length t → ((x : ℕ) → x < length t → IsRootOf t x (slice_index v x)) → AreLeast forms v
at_end forms t v n all below down sound joined long roots =
    least forms t v below down sound
    (λ form i j there link. (let (k, at) = slice_get-from_Contains forms form there in
    let l = slice_get_within forms k form at in
    joined k form i j (omega (arith, l, all)) at link))
    long roots
