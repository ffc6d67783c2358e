-- Forms that are found by two keys.
use Rattle.std.proofs.Common.{◌≡◌, ◌↔◌, ℕ, List, slice_get, Option, Some, Contains, sym, ap, subst, ◌∙◌, arith}
use Rattle.std.proofs.lemmas.Option.{none-some, same_Some}
use Rattle.normal_forms.specs.declared.forms.Form.{Form}
use Rattle.normal_forms.specs.declared.forms.Form.TheVariants.{N1, N2, N3, N4, N5, N6, N7, N8, N9, N10, N12}
use Rattle.indexes.specs.declared.keys.Key.{Key}
use Rattle.indexes.specs.declared.keys.Key.TheVariants.{Whole, Partial}
use Rattle.indexes.specs.Keys.{individual_key, property_key, by_chain, by_denied, by_end, by_filler, by_restricted, by_target}
use Rattle.indexes.specs.FormIndex.{ListsNumbers}
use Rattle.indexes.specs.FormsUnderKeys.{IsUnder}
use Rattle.indexes.specs.Seconds.{form_rank, rank, rank_at, second_key}

-- keys of one place are one
one_key : (k l : Key) → rank k ≡ rank l → k ≡ l
one_key (Whole m) (Whole n) e = ap Whole (omega (arith, e))
one_key (Whole m) (Partial n) e = absurd (omega (arith, e))
one_key (Partial m) (Whole n) e = absurd (omega (arith, e))
one_key (Partial m) (Partial n) e = ap Partial (omega (arith, e))

agree : (k l : Key) → (rank k ≡ rank l) ↔ (Some k ≡ Some l)
agree k l = (λ e. ap Some (one_key k l e), λ e. ap rank (same_Some k l e))

-- the second key of a restriction is that of its property
filler_agrees : (form : Form) (k l : Key) → by_filler form ≡ Some k → (rank (second_key form) ≡ rank l) ↔ (by_restricted form ≡ Some l)
filler_agrees (N1 _ _) k l e = absurd (none-some k e)
filler_agrees (N2 _ _ _) k l e = absurd (none-some k e)
filler_agrees (N3 _ _ _) k l e = absurd (none-some k e)
filler_agrees (N4 r a b) k l e = agree (Whole r.0) l
filler_agrees (N5 _ _) k l e = absurd (none-some k e)
filler_agrees (N6 _ _ _) k l e = absurd (none-some k e)
filler_agrees (N7 _) k l e = absurd (none-some k e)
filler_agrees (N8 _ _) k l e = absurd (none-some k e)
filler_agrees (N9 _ _ _) k l e = absurd (none-some k e)
filler_agrees (N10 _ _) k l e = absurd (none-some k e)
filler_agrees (N12 _ _ _) k l e = absurd (none-some k e)

-- that of a chain is that of its second property
chain_agrees : (form : Form) (k l : Key) → by_chain form ≡ Some k → (rank (second_key form) ≡ rank l) ↔ (by_end form ≡ Some l)
chain_agrees (N1 _ _) k l e = absurd (none-some k e)
chain_agrees (N2 _ _ _) k l e = absurd (none-some k e)
chain_agrees (N3 _ _ _) k l e = absurd (none-some k e)
chain_agrees (N4 _ _ _) k l e = absurd (none-some k e)
chain_agrees (N5 _ _) k l e = absurd (none-some k e)
chain_agrees (N6 r s t) k l e = agree (property_key s) l
chain_agrees (N7 _) k l e = absurd (none-some k e)
chain_agrees (N8 _ _) k l e = absurd (none-some k e)
chain_agrees (N9 _ _ _) k l e = absurd (none-some k e)
chain_agrees (N10 _ _) k l e = absurd (none-some k e)
chain_agrees (N12 _ _ _) k l e = absurd (none-some k e)

-- that of a pair that is denied is that of its target
denied_agrees : (form : Form) (k l : Key) → by_denied form ≡ Some k → (rank (second_key form) ≡ rank l) ↔ (by_target form ≡ Some l)
denied_agrees (N1 _ _) k l e = absurd (none-some k e)
denied_agrees (N2 _ _ _) k l e = absurd (none-some k e)
denied_agrees (N3 _ _ _) k l e = absurd (none-some k e)
denied_agrees (N4 _ _ _) k l e = absurd (none-some k e)
denied_agrees (N5 _ _) k l e = absurd (none-some k e)
denied_agrees (N6 _ _ _) k l e = absurd (none-some k e)
denied_agrees (N7 _) k l e = absurd (none-some k e)
denied_agrees (N8 _ _) k l e = absurd (none-some k e)
denied_agrees (N9 _ _ _) k l e = absurd (none-some k e)
denied_agrees (N10 _ _) k l e = absurd (none-some k e)
denied_agrees (N12 a r b) k l e = agree (individual_key b) l

module _ (forms : List Form) (first second : Form → Option Key) (agrees : (form : Form) (k l : Key) → first form ≡ Some k → (rank (second_key form) ≡ rank l) ↔ (second form ≡ Some l))
    (at : Key → List ℕ) (k l : Key) (list result : List ℕ) (is : list ≡ at k) (listed : ListsNumbers first (slice_get forms) at)
    (found : (n : ℕ) → Contains result n ↔ (Contains list n × (rank_at forms n ≡ rank l))) where
  -- those of the first key that have the second key are those of both
  both : (n : ℕ) → Contains result n ↔ (IsUnder first forms k n × IsUnder second forms l n)
  both n = (
    λ c.
        let w = (found n).0 c in
        let u : IsUnder first forms k n = (listed k n).0 (subst (λ (xs : List ℕ). Contains xs n) is w.0) in
        (u, (u.0, u.1, (agrees u.0 k l u.2).0 (sym (ap form_rank u.1) ∙ w.1))),
    λ w.
        let u = w.0 in
        let v = w.1 in
        let same : u.0 ≡ v.0 = same_Some u.0 v.0 (sym u.1 ∙ v.1) in
        (found n).1 (subst (λ (xs : List ℕ). Contains xs n) (sym is) ((listed k n).1 u), ap form_rank u.1 ∙ (agrees u.0 k l u.2).1 (ap second same ∙ v.2)),
  )

pub restrictions_found : (forms : List Form) (at : Key → List ℕ) (k l : Key) (list result : List ℕ) → list ≡ at k → ListsNumbers by_filler (slice_get forms) at
    → ((n : ℕ) → Contains result n ↔ (Contains list n × (rank_at forms n ≡ rank l))) → (n : ℕ) → Contains result n ↔ (IsUnder by_filler forms k n × IsUnder by_restricted forms l n)
restrictions_found forms at = both forms by_filler by_restricted filler_agrees at

pub chains_found : (forms : List Form) (at : Key → List ℕ) (k l : Key) (list result : List ℕ) → list ≡ at k → ListsNumbers by_chain (slice_get forms) at
    → ((n : ℕ) → Contains result n ↔ (Contains list n × (rank_at forms n ≡ rank l))) → (n : ℕ) → Contains result n ↔ (IsUnder by_chain forms k n × IsUnder by_end forms l n)
chains_found forms at = both forms by_chain by_end chain_agrees at

pub denied_found : (forms : List Form) (at : Key → List ℕ) (k l : Key) (list result : List ℕ) → list ≡ at k → ListsNumbers by_denied (slice_get forms) at
    → ((n : ℕ) → Contains result n ↔ (Contains list n × (rank_at forms n ≡ rank l))) → (n : ℕ) → Contains result n ↔ (IsUnder by_denied forms k n × IsUnder by_target forms l n)
denied_found forms at = both forms by_denied by_target denied_agrees at
