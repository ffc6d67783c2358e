-- Forms with their origins.
use Rattle.std.proofs.Common.{◌≡◌, ℕ, zero, suc, List, [], ◌∷◌, ◌++◌, length, map, slice_get, refl, ap, ◌∙◌, arith}
use Rattle.std.specs.Option.{option_map}
use Rattle.std.proofs.lemmas.List.{length-map, map-append}
use Rattle.normal_forms.specs.StoredForms.{origin_of}
use Rattle.normal_forms.specs.declared.origins.StoredOrigin.{StoredOrigin}
use Rattle.normal_forms.specs.declared.forms.Form.{Form}
use Rattle.normal_forms.specs.declared.forms.Origin.{Origin}
use Rattle.normalise.specs.Entries.{paired, form_in, origin_in}

pub forms_paired : (forms : List Form) (origins : List Origin) → length origins ≡ length forms → map form_in (paired forms origins) ≡ forms
forms_paired [] origins e = refl
forms_paired (f ∷ forms) [] e = absurd (omega arith)
forms_paired (f ∷ forms) (o ∷ origins) e = ap (λ xs. f ∷ xs) (forms_paired forms origins (omega arith))

pub origin_paired : (forms : List Form) (origins : List Origin) (n : ℕ) → length origins ≡ length forms → option_map origin_in (slice_get (paired forms origins) n) ≡ slice_get origins n
origin_paired [] [] n e = refl
origin_paired [] (o ∷ origins) n e = absurd (omega arith)
origin_paired (f ∷ forms) [] n e = absurd (omega arith)
origin_paired (f ∷ forms) (o ∷ origins) zero e = refl
origin_paired (f ∷ forms) (o ∷ origins) (suc n) e = origin_paired forms origins n (omega arith)

pub paired_push : (forms : List Form) (origins : List Origin) (f : Form) (o : Origin) → length origins ≡ length forms → paired (forms ++ f ∷ []) (origins ++ o ∷ []) ≡ paired forms origins ++ record { form = f; origin = o } ∷ []
paired_push [] [] f o e = refl
paired_push [] (p ∷ origins) f o e = absurd (omega arith)
paired_push (g ∷ forms) [] f o e = absurd (omega arith)
paired_push (g ∷ forms) (p ∷ origins) f o e = ap (λ xs. record { form = g; origin = p } ∷ xs) (paired_push forms origins f o (omega arith))

pub paired_append : (forms forms' : List Form) (origins origins' : List Origin) → length origins ≡ length forms → paired (forms ++ forms') (origins ++ origins') ≡ paired forms origins ++ paired forms' origins'
paired_append [] forms' [] origins' e = refl
paired_append [] forms' (p ∷ origins) origins' e = absurd (omega arith)
paired_append (g ∷ forms) forms' [] origins' e = absurd (omega arith)
paired_append (g ∷ forms) forms' (p ∷ origins) origins' e = ap (λ xs. record { form = g; origin = p } ∷ xs) (paired_append forms forms' origins origins' (omega arith))

pub as_many : (forms : List Form) (origins : List StoredOrigin) → length origins ≡ length forms → length (map origin_of origins) ≡ length forms
as_many forms origins e = length-map origins origin_of ∙ e

pub origins_push : (origins : List StoredOrigin) (stored : StoredOrigin) (o : Origin) → origin_of stored ≡ o → map origin_of (origins ++ stored ∷ []) ≡ map origin_of origins ++ o ∷ []
origins_push origins stored o e = map-append origin_of origins (stored ∷ []) ∙ ap (λ x. map origin_of origins ++ x ∷ []) e
