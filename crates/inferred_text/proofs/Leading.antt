-- The class that stands for a class's group.
use Rattle.std.proofs.Common.{◌≡◌, ℕ, Bool, true, false, cond, eqb, List, [], ◌∷◌, ◌++◌, ◌⊎◌, inl, inr, refl, ap, sym, ◌∙◌}
use Rattle.std.specs.List.{list_any}
use Rattle.std.proofs.lemmas.Bool.{eqb-true, false≢true, or_cases}
use Rattle.std.proofs.lemmas.List.Folds.{list_any-append}
use Rattle.taxonomy.specs.Superclasses.{is_among}
use Rattle.taxonomy.specs.Texts.{firsts, groups, is_same}
use Rattle.inferred_text.proofs.Among.{among_head, among_tail}

-- a class that stands for the group of c, among those that stand for groups and in the list
pub record Leads (r : ℕ → ℕ → Bool) (list first : List ℕ) (c g : ℕ) : Type 0 where
  pub leading : is_among first g ≡ true
  pub there : is_among list g ≡ true
  pub same : is_same r c g ≡ true

module _ (r : ℕ → ℕ → Bool) (c : ℕ) (reflexive : is_same r c c ≡ true) where
  -- the class's group was met before, or has its first class in the list
  abbrev Found : List ℕ → List ℕ → Type 0
  Found before cs = (list_any (is_same r c) before ≡ true) ⊎ ((g : ℕ) × Leads r cs (firsts r before cs) c g)

  one_more : (before : List ℕ) (d : ℕ) → list_any (is_same r c) (before ++ d ∷ []) ≡ true → (list_any (is_same r c) before ≡ true) ⊎ (is_same r c d ≡ true)
  one_more before d h =
      elim (or_cases (list_any (is_same r c) before) (list_any (is_same r c) (d ∷ [])) (sym (list_any-append (is_same r c) before (d ∷ [])) ∙ h)) [
        | inl e ↦ inl e
        | inr e ↦
            elim (or_cases (is_same r c d) false e) [ inl f ↦ inr f | inr f ↦ absurd (false≢true f) ]
      ]

  later : (before ds : List ℕ) (d : ℕ) → Found (before ++ d ∷ []) ds → (list_any (is_same r c) before ≡ true) ⊎ ((g : ℕ) × Leads r (d ∷ ds) (d ∷ firsts r (before ++ d ∷ []) ds) c g)
  later before ds d (inl h) =
      elim (one_more before d h) [
        | inl e ↦ inl e
        | inr e ↦ inr (d, record { leading = among_head d (firsts r (before ++ d ∷ []) ds); there = among_head d ds; same = e })
      ]
  later before ds d (inr w) =
      inr (w.0, record { leading = among_tail d w.0 (firsts r (before ++ d ∷ []) ds) w.1.leading; there = among_tail d w.0 ds w.1.there; same = w.1.same })

  skipped : (before ds : List ℕ) (d : ℕ) → Found before ds → (list_any (is_same r c) before ≡ true) ⊎ ((g : ℕ) × Leads r (d ∷ ds) (firsts r before ds) c g)
  skipped before ds d (inl h) = inl h
  skipped before ds d (inr w) = inr (w.0, record { leading = w.1.leading; there = among_tail d w.0 ds w.1.there; same = w.1.same })

  -- where the class itself comes next
  itself : (before ds : List ℕ) (d : ℕ) → d ≡ c → (list_any (is_same r d) before ≡ false) → Leads r (d ∷ ds) (d ∷ firsts r (before ++ d ∷ []) ds) c d
  itself before ds d e h = record { leading = among_head d (firsts r (before ++ d ∷ []) ds); there = among_head d ds; same = ap (is_same r c) e ∙ reflexive }

  found : (before cs : List ℕ) → is_among cs c ≡ true → Found before cs
  found before [] h = absurd (false≢true h)
  found before (d ∷ ds) h = by_test (list_any (is_same r d) before) refl (found before ds) (found (before ++ d ∷ []) ds)
    where
      by_test : (b : Bool) → list_any (is_same r d) before ≡ b → (is_among ds c ≡ true → Found before ds) → (is_among ds c ≡ true → Found (before ++ d ∷ []) ds) → (list_any (is_same r c) before ≡ true) ⊎ ((g : ℕ) × Leads r (d ∷ ds) (cond b (firsts r before ds) (d ∷ firsts r (before ++ d ∷ []) ds)) c g)
      by_test true e now next =
          elim (or_cases (eqb d c) (is_among ds c) h) [
            | inl f ↦ inl (ap (λ (k : ℕ). list_any (is_same r k) before) (sym (eqb-true d c f)) ∙ e)
            | inr f ↦ skipped before ds d (now f)
          ]
      by_test false e now next =
          elim (or_cases (eqb d c) (is_among ds c) h) [
            | inl f ↦ inr (d, itself before ds d (eqb-true d c f) e)
            | inr f ↦ later before ds d (next f)
          ]

  -- a class of the list has one that stands for its group
  pub leader_of : (all : List ℕ) → is_among all c ≡ true → (g : ℕ) × Leads r all (groups r all) c g
  leader_of all h = elim (found [] all h) [ inl e ↦ absurd (false≢true e) | inr w ↦ w ]
