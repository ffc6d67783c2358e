-- Classes in a context that lists of disjoint classes put apart.
use Rattle.std.proofs.Common.{◌≡◌, ℕ, ◌+◌, ◌<◌, ◌≤◌, ⊎_elim, true, false, true≢false, is_some, List, [], ◌∷◌, length, take, get_or, slice_get, Option, Some, None, Contains, IfSome, IsNone, refl, sym, ◌∙◌, subst}
use Rattle.normal_forms.specs.declared.forms.Class2.{Class2}
use Rattle.normal_forms.specs.declared.forms.Class2.TheVariants.{Expr}
use Rattle.facts.specs.declared.contexts.Context.{Context}
use Rattle.facts.specs.declared.contexts.Fact.{Fact}
use Rattle.facts.specs.declared.contexts.Fact.TheVariants.{In}
use Rattle.facts.specs.Closure.{Problem, AreDisjointAt, Gives, nothing}
use Rattle.indexes.specs.declared.apart.Apart.{Apart}
use Rattle.indexes.specs.declared.disjoint.Beside.{Beside}
use Rattle.indexes.specs.declared.disjoint.Operand.{Operand}
use Rattle.indexes.specs.Apart.{HasClass, IsApart}
use Rattle.inference.specs.Derivations.{Derived, Grows}
use Rattle.inference.specs.Partings.{AreApartMet, IsApartIn, IsPartingDrawn, NoneIsApart}
use Rattle.inference.proofs.Drawing.{each_more, each}
use Rattle.inference.proofs.Lists.{Contains-from_slice_get}

-- no fact puts the class of the operand into the context
abbrev pub IsNotIn : List Fact → Context → Operand → Type 0
IsNotIn facts x o = Contains facts (In (Expr o.class) x) → ⊥

-- what is beside a class is in the one list or in the other
pub none_beside : (facts : List Fact) (x : Context) (beside : Beside) → ((o : Operand) → Contains beside.before.now o → IsNotIn facts x o) → ((o : Operand) → Contains beside.behind.now o → IsNotIn facts x o)
    → (b : Class2) → HasClass beside b → Contains facts (In b x) → ⊥
none_beside facts x beside before behind b w there =
    let here = subst (λ (c : Class2). Contains facts (In c x)) w.1 there in
    ⊎_elim (λ c. before w.0 c here) (λ c. behind w.0 c here) w.2

-- what is found beside a class is apart from it
pub found_beside : (apart : Apart) (x : Context) (facts : List Fact) (beside : Beside) → ((b : Class2) → HasClass beside b → IsApart apart b)
    → (found : Option ℕ) → IfSome found (λ n. (b : Class2) × HasClass beside b × (slice_get facts n ≡ Some (In b x))) → IfSome found (IsApartIn apart x facts)
found_beside apart x facts beside only None w = tt
found_beside apart x facts beside only (Some n) w = (w.0, only w.0 w.1, w.2)

pub none_found_beside : (apart : Apart) (x : Context) (facts : List Fact) (beside : Beside) → ((b : Class2) → IsApart apart b → HasClass beside b)
    → ((b : Class2) → HasClass beside b → Contains facts (In b x) → ⊥) → (numbers : List ℕ) → NoneIsApart apart x facts numbers
none_found_beside apart x facts beside all none numbers n c w = none w.0 (all w.0 w.1) (Contains-from_slice_get facts n _ w.2)

-- what is not found is nowhere, and what is found is there
pub none_there : (facts : List Fact) (f : Fact) (found : Option ℕ) → is_some found ≡ false → (IsNone found → Contains facts f → ⊥) → Contains facts f → ⊥
none_there facts f None e none = none refl
none_there facts f (Some n) e none = absurd (true≢false e)

pub found_there : (facts : List Fact) (f : Fact) (found : Option ℕ) → is_some found ≡ true → IfSome found (λ n. slice_get facts n ≡ Some f) → Contains facts f
found_there facts f None e there = absurd (true≢false (sym e))
found_there facts f (Some n) e there = Contains-from_slice_get facts n f there

pub none_more : (facts : List Fact) (x : Context) (operands : List Operand) (i : ℕ) (d : Operand) → i < length operands → ((o : Operand) → Contains (take i operands) o → IsNotIn facts x o) → IsNotIn facts x (get_or operands i d)
    → (o : Operand) → Contains (take (i + 1) operands) o → IsNotIn facts x o
none_more facts x operands i d low before here = each_more (IsNotIn facts x) (IsNotIn facts x) operands operands i d refl low before (λ o none. none) here

pub none_in : (facts : List Fact) (x : Context) (operands : List Operand) (i : ℕ) → length operands ≤ i → ((o : Operand) → Contains (take i operands) o → IsNotIn facts x o) → (o : Operand) → Contains operands o → IsNotIn facts x o
none_in facts x operands i = each (IsNotIn facts x) operands operands i refl

pub none_listed_more : (apart : Apart) (x : Context) (facts : List Fact) (numbers : List ℕ) (i : ℕ) → i < length numbers → NoneIsApart apart x facts (take i numbers) → (IsApartIn apart x facts (get_or numbers i 0) → ⊥) → NoneIsApart apart x facts (take (i + 1) numbers)
none_listed_more apart x facts numbers i low before here = each_more (λ n. IsApartIn apart x facts n → ⊥) (λ n. IsApartIn apart x facts n → ⊥) numbers numbers i 0 refl low before (λ n none. none) here

pub none_listed : (apart : Apart) (x : Context) (facts : List Fact) (numbers : List ℕ) (i : ℕ) → length numbers ≤ i → NoneIsApart apart x facts (take i numbers) → NoneIsApart apart x facts numbers
none_listed apart x facts numbers i = each (λ n. IsApartIn apart x facts n → ⊥) numbers numbers i refl

-- owl:Nothing is in the context of a fact that puts a class there that is apart
pub parted : {k : Problem} {most : ℕ} {a b : Derived} → Grows k most a b → (apart : Apart) (x : Context) (numbers : List ℕ) (n : ℕ) → Contains numbers n → (g : Fact) (new : List Fact) → slice_get a.facts n ≡ Some g
    → AreApartMet apart x b.facts numbers new → (c : Class2) → g ≡ In c x → IsApart apart c → Contains new (In nothing x)
parted {b = b} s apart x numbers n there g new at met c is w = met n there (c, w, subst (λ (f : Fact). slice_get b.facts n ≡ Some f) is (s.facts n g at))

-- two classes of one list at ordered places give owl:Nothing in the context of the facts that put them there
pub gives_parting : (k : Problem) (l : ℕ) (f g : Fact) (a b : Class2) (x y : Context) → f ≡ In a x → g ≡ In b y → x ≡ y → AreDisjointAt k l a b → Gives k 14 (Some l) (f ∷ g ∷ []) (In nothing x)
gives_parting k l f g a b x y first second same w =
    rw (first, second) (subst (λ (z : Context). Gives k 14 (Some l) (In a x ∷ In b z ∷ []) (In nothing x)) same (Gives.apart l a b x w))

-- nothing is to be drawn of two classes that no list has at ordered places
pub no_parting : (k : Problem) (f g : Fact) (a b : Class2) (x y : Context) (facts : List Fact) → f ≡ In a x → g ≡ In b y → ((l : ℕ) → AreDisjointAt k l a b → ⊥) → IsPartingDrawn k f g facts
no_parting k f g a b x y facts first second none l c d z w is_c is_d =
    absurd (none l (subst (λ (p : Class2). AreDisjointAt k l p b) (one c a z x (sym is_c ∙ first)) (subst (λ (q : Class2). AreDisjointAt k l c q) (one d b z y (sym is_d ∙ second)) w)))
  where
    one : (p q : Class2) (u v : Context) → In p u ≡ In q v → p ≡ q
    one p q u v e = cc
