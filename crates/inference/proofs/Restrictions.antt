-- What restrictions give from an edge and the classes at its target.
use Rattle.std.proofs.Common.{◌≡◌, ℕ, ◌+◌, ◌<◌, ⊎_elim, inl, List, [], ◌∷◌, ◌++◌, length, slice_get, Some, None, Contains, refl, sym, ap, ap₂, subst, ◌∙◌}
use Rattle.std.specs.Prelude.{slice_set}
use Rattle.std.proofs.lemmas.Bool.{cases_eq}
use Rattle.std.proofs.lemmas.List.{get_or-set_same, get_or-set_other}
use Rattle.axioms.specs.declared.ids.PropId.{PropId}
use Rattle.normal_forms.specs.declared.forms.Class2.{Class2}
use Rattle.normal_forms.specs.declared.forms.Form.{Form}
use Rattle.normal_forms.specs.declared.forms.Form.TheVariants.{N1, N2, N3, N4, N5, N6, N7, N8, N9, N10, N12}
use Rattle.normal_forms.specs.declared.forms.PropId2.{PropId2}
use Rattle.normal_forms.specs.declared.forms.PropId2.TheVariants.{Property}
use Rattle.normal_forms.specs.Properties.{IsAtOrBelow}
use Rattle.facts.specs.declared.contexts.Context.{Context}
use Rattle.facts.specs.declared.contexts.Fact.{Fact}
use Rattle.facts.specs.declared.contexts.Fact.TheVariants.{In, Edge}
use Rattle.facts.specs.Closure.{Problem, Carries, FromTwo, IsTarget, nothing, in_thing, in_itself, by_form, unsatisfiable, loop, apart}
use Rattle.indexes.specs.declared.keys.Key.TheVariants.{Whole}
use Rattle.indexes.specs.FormsUnderKeys.{numbers_under}
use Rattle.indexes.specs.Keys.{by_restricted}
use Rattle.indexes.proofs.Counting.{numbers_with, numbers_without, other_key}
use Rattle.number_sets.specs.Pieces.{list_at}
use Rattle.inference.specs.Derivations.{Derived, Grows}
use Rattle.inference.specs.Completeness.{DrawnUpToRedundancy}
use Rattle.inference.specs.Visits.{IsBy, IsClassFact, IsEdge}
use Rattle.inference.specs.Marks.{AllFilled, AreFilledOn, AreRestrictionsBefore, IsFilled, IsNothingCarried, MeetsClasses}
use Rattle.inference.proofs.Drawing.{drawn_at_still}
use Rattle.inference.proofs.Growth.{there_still}
use Rattle.inference.proofs.Lists.{one_value}

-- ---- the lists

-- one restriction more is in the list of its property
pub restriction_listed : (forms : List Form) (n : ℕ) (r : PropId) (a b : Class2) (lists : List (List ℕ)) → slice_get forms n ≡ Some (N4 r a b) → r.0 < length lists
    → AreRestrictionsBefore forms n lists → AreRestrictionsBefore forms (n + 1) (slice_set lists r.0 (list_at lists r.0 ++ n ∷ []))
restriction_listed forms n r a b lists at low before s = ⊎_elim
    (λ same.
    ap (list_at (slice_set lists r.0 (list_at lists r.0 ++ n ∷ []))) same
    ∙ get_or-set_same lists r.0 (list_at lists r.0 ++ n ∷ []) [] low
    ∙ ap (λ (l : List ℕ). l ++ n ∷ []) (before r.0)
    ∙ sym (numbers_with by_restricted (slice_get forms) (Whole r.0) n (N4 r a b) at refl)
    ∙ ap (λ (i : ℕ). numbers_under by_restricted (slice_get forms) (Whole i) (n + 1)) (sym same))
    (λ other.
    get_or-set_other lists r.0 s (list_at lists r.0 ++ n ∷ []) [] other
    ∙ before s
    ∙ sym (numbers_without by_restricted (slice_get forms) (Whole s) n (N4 r a b) at (other_key (Whole s) (Whole r.0) (λ e. other (cc)))))
    (cases_eq s r.0)

unrestricted : (form : Form) → ((r : PropId) (a b : Class2) → form ≡ N4 r a b → ⊥) → by_restricted form ≡ None
unrestricted (N1 _ _) other = refl
unrestricted (N2 _ _ _) other = refl
unrestricted (N3 _ _ _) other = refl
unrestricted (N4 r a b) other = absurd (other r a b refl)
unrestricted (N5 _ _) other = refl
unrestricted (N6 _ _ _) other = refl
unrestricted (N7 _) other = refl
unrestricted (N8 _ _) other = refl
unrestricted (N9 _ _ _) other = refl
unrestricted (N10 _ _) other = refl
unrestricted (N12 _ _ _) other = refl

-- another form is in none
pub other_unlisted : (forms : List Form) (n : ℕ) (form : Form) (lists : List (List ℕ)) → slice_get forms n ≡ Some form → ((r : PropId) (a b : Class2) → form ≡ N4 r a b → ⊥)
    → AreRestrictionsBefore forms n lists → AreRestrictionsBefore forms (n + 1) lists
other_unlisted forms n form lists at other before s =
    before s ∙ sym (numbers_without by_restricted (slice_get forms) (Whole s) n form at (rw (unrestricted form other) refl))

-- ---- what they give

-- what is there stays, and what was there earlier is asked for alone
pub filled_still : {k : Problem} {most : ℕ} {a b : Derived} → Grows k most a b → (edge : Fact) (old : List Fact) (n : ℕ) → IsFilled k edge old a.facts n → IsFilled k edge old b.facts n
filled_still s edge old n filled r c d at g there = drawn_at_still s _ _ n (filled r c d at g there)

pub filled_earlier : {k : Problem} {most : ℕ} {a b : Derived} → Grows k most a b → (edge : Fact) (new : List Fact) (n : ℕ) → IsFilled k edge b.facts new n → IsFilled k edge a.facts new n
filled_earlier s edge new n filled r c d at g there = filled r c d at g (there_still s g there)

pub all_filled_still : {k : Problem} {most : ℕ} {a b : Derived} → Grows k most a b → (edge : Fact) (old : List Fact) → AllFilled k edge old a.facts → AllFilled k edge old b.facts
all_filled_still s edge old filled n = filled_still s edge old n (filled n)

pub on_still : {k : Problem} {most : ℕ} {a b : Derived} → Grows k most a b → (edge : Fact) (old : List Fact) (r : PropId2) → AreFilledOn k edge old a.facts r → AreFilledOn k edge old b.facts r
on_still s edge old r filled n under = filled_still s edge old n (filled n under)

-- the restrictions on the property of an edge, and on those above it, are all that give something from it
pub filled_all : (k : Problem) (edge : Fact) (old new : List Fact) (p : PropId2) → IsBy p edge → ((r : PropId2) → IsAtOrBelow k.forms p r → AreFilledOn k edge old new r) → AllFilled k edge old new
filled_all k edge old new p by on n r a b at g there form at' h w =
    let same = one_value (slice_get k.forms n) form (N4 r a b) at' at in
    on (Property r) (reaches k r a b edge g h p by (subst (λ (f : Form). FromTwo k f edge g h) same w)) n (N4 r a b, at, refl) r a b at g there form at' h w
  where
    reaches : (k : Problem) (r : PropId) (a b : Class2) (edge g h : Fact) (p : PropId2) → IsBy p edge → FromTwo k (N4 r a b) edge g h → IsAtOrBelow k.forms p (Property r)
    reaches k r a b (In _ _) g h p by w = absurd by
    reaches k r a b (Edge x q y) (Edge _ _ _) h p by w = absurd w
    reaches k r a b (Edge x q y) (In c z) h p by w = subst (λ (s : PropId2). IsAtOrBelow k.forms s (Property r)) by w.0

-- a form that gives something from an edge and a class is a restriction
restriction : (k : Problem) (form : Form) (edge g h : Fact) → IsEdge edge → IsClassFact g → FromTwo k form edge g h → (r : PropId) × (a : Class2) × (b : Class2) × (form ≡ N4 r a b)
restriction k form (In _ _) g h is class w = absurd is
restriction k form (Edge _ _ _) (Edge _ _ _) h is class w = absurd class
restriction k (N1 _ _) (Edge x p y) (In c z) h is class w = absurd w
restriction k (N2 _ _ _) (Edge x p y) (In c z) h is class w = absurd w
restriction k (N3 _ _ _) (Edge x p y) (In c z) h is class w = absurd w
restriction k (N4 r a b) (Edge x p y) (In c z) h is class w = (r, a, b, refl)
restriction k (N5 _ _) (Edge x p y) (In c z) h is class w = absurd w
restriction k (N6 _ _ _) (Edge x p y) (In c z) h is class w = absurd w
restriction k (N7 _) (Edge x p y) (In c z) h is class w = absurd w
restriction k (N8 _ _) (Edge x p y) (In c z) h is class w = absurd w
restriction k (N9 _ _ _) (Edge x p y) (In c z) h is class w = absurd w
restriction k (N10 _ _) (Edge x p y) (In c z) h is class w = absurd w
restriction k (N12 _ _ _) (Edge x p y) (In c z) h is class w = absurd w

edge_by : (p : PropId2) (edge : Fact) → IsBy p edge → IsEdge edge
edge_by p (In _ _) by = absurd by
edge_by p (Edge _ _ _) by = tt

-- so an edge has met the classes where restrictions and owl:Nothing are drawn
module _ (k : Problem) (old : List Fact) (new : Derived) where
  met_one : (edge g : Fact) → IsEdge edge → Contains old g → IsClassFact g → AllFilled k edge old new.facts → IsNothingCarried edge old new.facts → DrawnUpToRedundancy k (edge ∷ g ∷ []) new
  met_one edge g is there class filled carried _ _ h (in_thing c) = absurd c
  met_one edge g is there class filled carried _ _ h (in_itself c) = absurd c
  met_one edge g is there class filled carried _ _ h (by_form n form at w) =
      let j = restriction k form edge g h is class w in
      inl (filled n j.0 j.1 j.2 (at ∙ ap Some j.3) g there form at h w)
  met_one edge g is there class filled carried _ _ h (unsatisfiable b) = inl (carried g h there b)
  met_one edge g is there class filled carried _ _ h (loop x n form at l c) = absurd c
  met_one _ _ is there class filled carried _ _ _ (apart l a b x w) = absurd is

  pub meets_classes : (p : PropId2) (edge : Fact) → IsBy p edge → AllFilled k edge old new.facts → IsNothingCarried edge old new.facts → MeetsClasses k edge old new
  meets_classes p edge by filled carried g there class = met_one edge g (edge_by p edge by) there class filled carried

-- what is carried from the target is owl:Nothing there
pub nothing_there : (edge g h : Fact) (y : Context) → IsTarget edge y → Carries edge g h → g ≡ In nothing y
nothing_there (In _ _) g h y to w = absurd w
nothing_there (Edge x q z) (Edge _ _ _) h y to w = absurd w
nothing_there (Edge x q z) (In c v) h y to w = ap₂ In w.0 (sym w.1 ∙ to)

pub carried_still : {k : Problem} {most : ℕ} {a b : Derived} → Grows k most a b → (edge : Fact) (new : List Fact) → IsNothingCarried edge b.facts new → IsNothingCarried edge a.facts new
carried_still s edge new carried g h there w = carried g h (there_still s g there) w
