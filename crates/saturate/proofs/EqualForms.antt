-- Forms are equal or not, and a form or a list is in a list or not.
use Rattle.std.proofs.Common.{◌≡◌, ℕ, ◌⊎◌, inl, inr, ⊎_elim, List, [], ◌∷◌, Contains, refl, sym, ap, ap₂, subst, ◌∙◌, arith}
use Rattle.std.proofs.lemmas.Bool.Decides.{eqb_tells}
use Rattle.lemmas.proofs.Members.{Contains-first, Contains-later}
use Rattle.normal_forms.proofs.Filters.{Contains-cons_cases}
use Rattle.axioms.specs.declared.ids.ExprId.{ExprId}
use Rattle.normal_forms.specs.declared.forms.Class2.{Class2}
use Rattle.normal_forms.specs.declared.forms.Class2.TheVariants as class
use Rattle.normal_forms.specs.declared.forms.PropId2.{PropId2}
use Rattle.normal_forms.specs.declared.forms.PropId2.TheVariants as property
use Rattle.normal_forms.specs.declared.forms.Form.{Form}
use Rattle.normal_forms.specs.declared.forms.Form.TheVariants.{N1, N2, N3, N4, N5, N6, N7, N8, N9, N10, N12}

abbrev Decided : Type 0 → Type 0
Decided A = (x y : A) → (x ≡ y) ⊎ ¬ (x ≡ y)

number : Decided ℕ
number x y = ⊎_elim (λ w. inl w.1) (λ w. inr w.1) (eqb_tells x y)

either : {A B : Type 0} → Decided A → Decided B → Decided (A ⊎ B)
either a b (inl x) (inl y) = ⊎_elim (λ e. inl (ap inl e)) (λ n. inr (λ e. n (cc))) (a x y)
either a b (inr x) (inr y) = ⊎_elim (λ e. inl (ap inr e)) (λ n. inr (λ e. n (cc))) (b x y)
either a b (inl x) (inr y) = inr (λ e. cc)
either a b (inr x) (inl y) = inr (λ e. cc)

both : {A B : Type 0} → Decided A → Decided B → Decided (A × B)
both a b (x, y) (z, w) = ⊎_elim
    (λ d. ⊎_elim (λ e. inl (ap₂ (λ p q. (p, q)) d e)) (λ n. inr (λ e. n (ap (λ p. p.1) e))) (b y w))
    (λ n. inr (λ e. n (ap (λ p. p.0) e)))
    (a x z)

-- values are equal exactly where their parts are
by_parts : {A B : Type 0} (parts : A → B) (whole : B → A) → ((x : A) → whole (parts x) ≡ x) → Decided B → Decided A
by_parts parts whole same decided x y = ⊎_elim
    (λ e. inl (sym (same x) ∙ ap whole e ∙ same y))
    (λ n. inr (λ e. n (ap parts e)))
    (decided (parts x) (parts y))

abbrev class_parts : Class2 → ℕ ⊎ ℕ
class_parts (class.Expr e) = inl e.0
class_parts (class.Partial n) = inr n

abbrev class_of : ℕ ⊎ ℕ → Class2
class_of (inl n) = class.Expr (record { 0 = n })
class_of (inr n) = class.Partial n

same_class : (c : Class2) → class_of (class_parts c) ≡ c
same_class (class.Expr e) = refl
same_class (class.Partial n) = refl

one_class : Decided Class2
one_class = by_parts class_parts class_of same_class (either number number)

abbrev property_parts : PropId2 → ℕ ⊎ ℕ
property_parts (property.Property p) = inl p.0
property_parts (property.Partial n) = inr n

abbrev property_of : ℕ ⊎ ℕ → PropId2
property_of (inl n) = property.Property (record { 0 = n })
property_of (inr n) = property.Partial n

same_property : (p : PropId2) → property_of (property_parts p) ≡ p
same_property (property.Property p) = refl
same_property (property.Partial n) = refl

one_property : Decided PropId2
one_property = by_parts property_parts property_of same_property (either number number)

abbrev Parts : Type 0
Parts = (Class2 × Class2) ⊎ ((Class2 × (Class2 × Class2)) ⊎ ((Class2 × (ℕ × ℕ)) ⊎ ((ℕ × (Class2 × Class2)) ⊎ ((ℕ × ℕ) ⊎ ((PropId2 × (PropId2 × PropId2)) ⊎ (ℕ ⊎ ((ℕ × Class2) ⊎ ((ℕ × (ℕ × ℕ)) ⊎ ((ℕ × ℕ) ⊎ (ℕ × (ℕ × ℕ)))))))))))

abbrev form_parts : Form → Parts
form_parts (N1 a b) = inl (a, b)
form_parts (N2 a b c) = inr (inl (a, (b, c)))
form_parts (N3 a r b) = inr (inr (inl (a, (r.0, b.0))))
form_parts (N4 r a b) = inr (inr (inr (inl (r.0, (a, b)))))
form_parts (N5 r s) = inr (inr (inr (inr (inl (r.0, s.0)))))
form_parts (N6 r s t) = inr (inr (inr (inr (inr (inl (r, (s, t)))))))
form_parts (N7 r) = inr (inr (inr (inr (inr (inr (inl r.0))))))
form_parts (N8 i a) = inr (inr (inr (inr (inr (inr (inr (inl (i.0, a))))))))
form_parts (N9 i r j) = inr (inr (inr (inr (inr (inr (inr (inr (inl (i.0, (r.0, j.0))))))))))
form_parts (N10 i j) = inr (inr (inr (inr (inr (inr (inr (inr (inr (inl (i.0, j.0))))))))))
form_parts (N12 i r j) = inr (inr (inr (inr (inr (inr (inr (inr (inr (inr (i.0, (r.0, j.0)))))))))))

abbrev form_of : Parts → Form
form_of (inl (a, b)) = N1 a b
form_of (inr (inl (a, (b, c)))) = N2 a b c
form_of (inr (inr (inl (a, (r, b))))) = N3 a (record { 0 = r }) (record { 0 = b })
form_of (inr (inr (inr (inl (r, (a, b)))))) = N4 (record { 0 = r }) a b
form_of (inr (inr (inr (inr (inl (r, s)))))) = N5 (record { 0 = r }) (record { 0 = s })
form_of (inr (inr (inr (inr (inr (inl (r, (s, t)))))))) = N6 r s t
form_of (inr (inr (inr (inr (inr (inr (inl r))))))) = N7 (record { 0 = r })
form_of (inr (inr (inr (inr (inr (inr (inr (inl (i, a))))))))) = N8 (record { 0 = i }) a
form_of (inr (inr (inr (inr (inr (inr (inr (inr (inl (i, (r, j))))))))))) = N9 (record { 0 = i }) (record { 0 = r }) (record { 0 = j })
form_of (inr (inr (inr (inr (inr (inr (inr (inr (inr (inl (i, j))))))))))) = N10 (record { 0 = i }) (record { 0 = j })
form_of (inr (inr (inr (inr (inr (inr (inr (inr (inr (inr (i, (r, j)))))))))))) = N12 (record { 0 = i }) (record { 0 = r }) (record { 0 = j })

same_form : (f : Form) → form_of (form_parts f) ≡ f
same_form (N1 a b) = refl
same_form (N2 a b c) = refl
same_form (N3 a r b) = refl
same_form (N4 r a b) = refl
same_form (N5 r s) = refl
same_form (N6 r s t) = refl
same_form (N7 r) = refl
same_form (N8 i a) = refl
same_form (N9 i r j) = refl
same_form (N10 i j) = refl
same_form (N12 i r j) = refl

pub one_form : Decided Form
one_form = by_parts form_parts form_of same_form
    (either (both one_class one_class) (either (both one_class (both one_class one_class)) (either (both one_class (both number number)) (either (both number (both one_class one_class)) (either (both number number) (either (both one_property (both one_property one_property)) (either number (either (both number one_class) (either (both number (both number number)) (either (both number number) (both number (both number number))))))))))))

abbrev expression_of : ℕ → ExprId
expression_of n = record { 0 = n }

one_expression : Decided ExprId
one_expression = by_parts (λ e. e.0) expression_of (λ e. refl) number

one_list : {X : Type 0} → Decided X → Decided (List X)
one_list one [] [] = inl refl
one_list one [] (y ∷ ys) = inr (λ e. cc)
one_list one (x ∷ xs) [] = inr (λ e. cc)
one_list one (x ∷ xs) (y ∷ ys) = ⊎_elim
    (λ d. ⊎_elim (λ e. inl (ap₂ (λ z zs. z ∷ zs) d e)) (λ n. inr (λ e. n (cc))) (one_list one xs ys))
    (λ n. inr (λ e. n (cc)))
    (one x y)

is_in : {X : Type 0} → Decided X → (all : List X) (x : X) → Contains all x ⊎ ¬ Contains all x
is_in one [] x = inr (λ c. absurd (omega (arith, c.1)))
is_in {X} one (other ∷ all) x = ⊎_elim
    (λ e. inl (subst (λ (y : X). Contains (other ∷ all) y) e (Contains-first other all)))
    (λ n. ⊎_elim
    (λ c. inl (Contains-later other x all c))
    (λ none. inr (λ c. ⊎_elim n none (Contains-cons_cases other all x c)))
    (is_in one all x))
    (one other x)

pub is_there : (forms : List Form) (form : Form) → Contains forms form ⊎ ¬ Contains forms form
is_there forms form = is_in one_form forms form

pub is_listed : (lists : List (List ExprId)) (list : List ExprId) → Contains lists list ⊎ ¬ Contains lists list
is_listed lists list = is_in (one_list one_expression) lists list
