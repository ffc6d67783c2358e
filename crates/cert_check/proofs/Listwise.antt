-- Lists to which numbers are added.
use Rattle.std.proofs.Common.{◌≡◌, ◌↔◌, ℕ, zero, suc, ◌+◌, ◌<◌, ◌⊎◌, inl, inr, true, false, List, [], ◌∷◌, ◌++◌, length, map, take, slice_get, slice_set, replicate, Some, Contains, refl, sym, ap, ◌∙◌, subst, arith}
use Rattle.std.proofs.lemmas.Bool.{cases_eq, false≢true}
use Rattle.std.proofs.lemmas.List.{length-set, get_or-set_same, get_or-set_other}
use Rattle.lemmas.proofs.Places.{slice_get_push, keeps_push, slice_get_push_cases}
use Rattle.axioms.specs.Ontology.{Ontology, IsClassAt}
use Rattle.axioms.proofs.Trees.{one_class}
use Rattle.certificate.specs.Certificate.{Conclusion}
use Rattle.certificate.specs.View.{class_row_of}
use Rattle.certificate.specs.declared.listed.ClassRow.{ClassRow}
use Rattle.number_sets.specs.Pieces.{list_at}
use Rattle.cert_check.specs.Additions.{SomeRow, ListsMember}
use Rattle.cert_check.specs.Lists.{has_number, AddsNumbers, PutsBelow, PutsInto, AreSuperclasses, AreTypes, AreElementClasses}
use Rattle.taxonomy.specs.Relation.{is_listed}
use Rattle.cert_check.proofs.Additions.{any_first, some_next, step_both, contains_next}

-- ---- one more number

pub among_push : (xs : List ℕ) (b n : ℕ) → (has_number (xs ++ b ∷ []) n ≡ true) ↔ ((has_number xs n ≡ true) ⊎ (n ≡ b))
among_push [] b n =
    let f = any_first n b [] in
    (λ t. elim (f.0 t) [ inl e ↦ inr (sym e) | inr u ↦ inl u ], λ h. elim h [ inl u ↦ f.1 (inr u) | inr e ↦ f.1 (inl (sym e)) ])
among_push (x ∷ xs) b n =
    let f = any_first n x (xs ++ b ∷ []) in
    let old = any_first n x xs in
    let rest = among_push xs b n in (
      λ t. elim (f.0 t) [ inl e ↦ inl (old.1 (inl e)) | inr u ↦ elim (rest.0 u) [ inl v ↦ inl (old.1 (inr v)) | inr e ↦ inr e ] ],
      λ h. elim h [ inl u ↦ elim (old.0 u) [ inl e ↦ f.1 (inl e) | inr v ↦ f.1 (inr (rest.1 (inl v))) ] | inr e ↦ f.1 (inr (rest.1 (inr e))) ],
    )

-- past the lists there is none
pub listed_within : (lists : List (List ℕ)) (k n : ℕ) → is_listed lists k n ≡ true → k < length lists
listed_within [] k n t = absurd (false≢true t)
listed_within (l ∷ lists) zero n t = omega arith
listed_within (l ∷ lists) (suc k) n t = let r = listed_within lists k n t in omega arith

-- the lists with one more number at the end of one of them
abbrev pub with_listed : List (List ℕ) → ℕ → ℕ → List (List ℕ)
with_listed lists a b = slice_set lists a (list_at lists a ++ b ∷ [])

pub one_more : (lists : List (List ℕ)) (a b c d : ℕ) → c < length lists
    → (is_listed (with_listed lists a b) c d ≡ true) ↔ ((is_listed lists c d ≡ true) ⊎ ((c ≡ a) × (d ≡ b)))
one_more lists a b c d lc = elim (cases_eq c a) [
  | inr ne ↦
      (let stays : is_listed (with_listed lists a b) c d ≡ is_listed lists c d = ap (λ l. has_number l d) (get_or-set_other lists a c (list_at lists a ++ b ∷ []) [] ne) in
      (λ t. inl (sym stays ∙ t), λ h. elim h [ inl t ↦ stays ∙ t | inr p ↦ absurd (ne p.0) ]))
  | inl e ↦
      (let la : a < length lists = subst (λ k. k < length lists) e lc in
      let there : is_listed (with_listed lists a b) a d ≡ has_number (list_at lists a ++ b ∷ []) d = ap (λ l. has_number l d) (get_or-set_same lists a (list_at lists a ++ b ∷ []) [] la) in
      let push = among_push (list_at lists a) b d in
      subst (λ k. (is_listed (with_listed lists a b) k d ≡ true) ↔ ((is_listed lists k d ≡ true) ⊎ ((k ≡ a) × (d ≡ b)))) (sym e) (
        λ t. elim (push.0 (sym there ∙ t)) [ inl u ↦ inl u | inr f ↦ inr (refl, f) ],
        λ h. there ∙ push.1 (elim h [ inl u ↦ inl u | inr p ↦ inr p.1 ]),
      ))
]

pub adds_nothing : (adds : ℕ → ℕ → Type 0) (lists : List (List ℕ)) → ((c d : ℕ) → adds c d → ⊥) → AddsNumbers adds lists lists
adds_nothing adds lists none = record { long = refl; each = λ c d lc. (λ t. inl t, λ s. elim s [ inl u ↦ u | inr p ↦ absurd (none c d p) ]) }

-- ---- what all conclusions say

pub no_list : (n k d : ℕ) → is_listed (replicate n []) k d ≡ false
no_list zero k d = refl
no_list (suc n) zero d = refl
no_list (suc n) (suc k) d = no_list n k d

-- the lists say of each two numbers whether a conclusion does
abbrev pub Say : (ℕ → ℕ → Conclusion → Type 0) → List Conclusion → List (List ℕ) → Type 0
Say puts said lists = (c d : ℕ) → c < length lists → (is_listed lists c d ≡ true) ↔ SomeRow said (puts c d)

-- some row does among these and one more
pub some_push : {A : Type 0} (P : A → Type 0) (xs : List A) (x : A) → SomeRow (xs ++ x ∷ []) P ↔ (SomeRow xs P ⊎ P x)
some_push P xs x = (
  λ (k, row, g, p). elim (slice_get_push_cases xs x k row g) [
    | inl there ↦ inl (k, row, there, p)
    | inr at_end ↦ inr (subst P (sym at_end.1) p)
  ],
  λ s. elim s [
    | inl t ↦ (t.0, t.1, keeps_push xs x t.0 t.1 t.2, t.3)
    | inr p ↦ (length xs, x, slice_get_push xs x, p)
  ],
)

say_push : (puts : ℕ → ℕ → Conclusion → Type 0) (said : List Conclusion) (a : Conclusion) (old new : List (List ℕ))
    → AddsNumbers (λ c d. puts c d a) old new → Say puts said old → Say puts (said ++ a ∷ []) new
say_push puts said a old new adds says c d lc =
    let lo : c < length old = subst (λ n. c < n) adds.long lc in
    let line = some_push (puts c d) said a in (
      λ t. elim ((adds.each c d lo).0 t) [ inl u ↦ line.1 (inl ((says c d lo).0 u)) | inr p ↦ line.1 (inr p) ],
      λ s. elim (line.0 s) [ inl u ↦ (adds.each c d lo).1 (inl ((says c d lo).1 u)) | inr p ↦ (adds.each c d lo).1 (inr p) ],
    )

pub superclasses_push : (o : Ontology) (said : List Conclusion) (a : Conclusion) (old new : List (List ℕ)) → AddsNumbers (PutsBelow o a) old new
    → AreSuperclasses o said old → AreSuperclasses o (said ++ a ∷ []) new
superclasses_push o said a old new adds before = record {
  long = adds.long ∙ before.long;
  each = say_push (λ c d b. PutsBelow o b c d) said a old new adds before.each;
}

pub types_push : (o : Ontology) (said : List Conclusion) (a : Conclusion) (old new : List (List ℕ)) → AddsNumbers (PutsInto o a) old new
    → AreTypes o said old → AreTypes o (said ++ a ∷ []) new
types_push o said a old new adds before = record {
  long = adds.long ∙ before.long;
  each = say_push (λ c d b. PutsInto o b c d) said a old new adds before.each;
}

-- ---- the classes of elements

pub holder_step : (o : Ontology) (e class : ℕ) → IsClassAt o class e → (xs : List ℕ) (k x : ℕ) → slice_get xs k ≡ Some x → (old mid new : List (List ℕ))
    → new ≡ with_listed mid x class
    → AddsNumbers (λ y c. IsClassAt o c e × Contains (take k xs) y) old mid → AddsNumbers (λ y c. IsClassAt o c e × Contains (take (k + 1) xs) y) old new
holder_step o e class at xs k x g old mid new is before = subst (AddsNumbers (λ y c. IsClassAt o c e × Contains (take (k + 1) xs) y) old) (sym is) (record {
  long = length-set mid x (list_at mid x ++ class ∷ []) ∙ before.long;
  each = λ y c ly.
      let more = contains_next xs k x y g in
      let lm : y < length mid = subst (λ n. y < n) (sym before.long) ly in
      step_both (before.each y c ly) (one_more mid x class y c lm) (
        λ p. elim (more.0 p.1) [ inl h ↦ inl (p.0, h) | inr f ↦ inr (f, one_class o c class e p.0 at) ],
        λ h. elim h [
          | inl p ↦ (p.0, more.1 (inl p.1))
          | inr q ↦ (subst (λ j. IsClassAt o j e) (sym q.1) at, more.1 (inr q.0))
        ],
      );
})

pub element_classes_step : (o : Ontology) (domain : ℕ) (rows : List ClassRow) (k : ℕ) (row : ClassRow) → slice_get rows k ≡ Some row → (old new : List (List ℕ))
    → AreElementClasses o domain (map class_row_of (take k rows)) old
    → AddsNumbers (λ x c. ListsMember o (class_row_of row) c x) old new → AreElementClasses o domain (map class_row_of (take (k + 1) rows)) new
element_classes_step o domain rows k row g old new before adds = record {
  long = adds.long ∙ before.long;
  each = λ x c lx.
      let lo : x < length old = subst (λ n. x < n) adds.long lx in
      step_both (before.each x c lo) (adds.each x c lo) (some_next (λ r. ListsMember o r c x) class_row_of rows k row g);
}
