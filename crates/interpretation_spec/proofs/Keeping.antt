-- What is kept of pairs, after one more.
use Rattle.std.proofs.Common.{◌≡◌, ◌≢◌, ℕ, ◌<◌, List, [], map, length, get_or, set, if◌then◌else◌, ◌==◌, refl, sym, ap, ap₂, ◌∙◌}
use Rattle.std.specs.BTreeMap.{BTreeMap}
use Rattle.std.specs.Global.{Vec}
use Rattle.std.proofs.lemmas.Bool.{eq-eqb, ne_eqb}
use Rattle.std.proofs.lemmas.List.{map-set, get_or-map, set-get_or}
use Rattle.interpretation_spec.specs.Fields.{kept_targets, kept_pairs}
use Rattle.interpretation_spec.specs.NumberedInterpretation.{with_number}
use Rattle.number_sets.proofs.Tables.{table_set, table_same, get_or-table}

module _ (size : ℕ) (all : List (BTreeMap ℕ (Vec ℕ))) (p : ℕ) (old new : BTreeMap ℕ (Vec ℕ)) (within : p < length all) (read : old ≡ get_or all p old) where
  abbrev views : List (List (List ℕ))
  views = map (kept_pairs size) all

  sources : get_or views p [] ≡ kept_pairs size old
  sources = get_or-map (kept_pairs size) all p old [] within ∙ ap (kept_pairs size) (sym read)

  pub targets : (s : ℕ) → s < size → get_or (get_or views p []) s [] ≡ kept_targets old s
  targets s inside = ap (λ (xs : List (List ℕ)). get_or xs s []) sources ∙ get_or-table size (kept_targets old) s [] inside

  -- nothing changed
  pub same_view : ((x : ℕ) → kept_targets new x ≡ kept_targets old x) → map (kept_pairs size) (set all p new) ≡ views
  same_view same =
      map-set (kept_pairs size) all p new
      ∙ ap (set views p) (table_same size (kept_targets old) (kept_targets new) same ∙ sym sources)
      ∙ set-get_or views p []

  -- the source has one more target
  pub more_view : (s t : ℕ) → s < size → ((x : ℕ) → kept_targets new x ≡ (if x == s then with_number t (kept_targets old s) else kept_targets old x))
      → map (kept_pairs size) (set all p new) ≡ set views p (set (get_or views p []) s (with_number t (get_or (get_or views p []) s [])))
  more_view s t inside after =
      let there : kept_targets new s ≡ with_number t (kept_targets old s) = after s ∙ rw (eq-eqb s s refl) refl in
      let others : (x : ℕ) → x ≢ s → kept_targets new x ≡ kept_targets old x = λ x ne. after x ∙ rw (ne_eqb x s ne) refl in
      map-set (kept_pairs size) all p new
      ∙ ap (set views p) (table_set size (kept_targets old) (kept_targets new) s (with_number t (kept_targets old s)) inside there others
      ∙ ap₂ (λ (xs : List (List ℕ)) (ts : List ℕ). set xs s (with_number t ts)) (sym sources) (sym (targets s inside)))
