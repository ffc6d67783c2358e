-- What the roots and the edges that were served lead to is there still, where no property is made reflexive.
use Rattle.std.proofs.Common.{◌≡◌, ◌⊎◌, inl, inr, sym, ◌∙◌, ⊎_elim, ℕ, List, [], ◌∷◌, ◌++◌, take, length, Option, Some, None, Contains, subst}
use Rattle.std.proofs.Math.Seq.{take-append_seam}
use Rattle.std.proofs.lemmas.List.Elements.{Contains-append_cases}
use Rattle.facts.specs.Closure.{Gives, IsLoop, Problem, in_itself, in_thing, loop, thing}
use Rattle.facts.specs.declared.contexts.Context.TheVariants.{Expr}
use Rattle.facts.specs.declared.contexts.Fact.TheVariants.{In, Edge}
use Rattle.normal_forms.specs.declared.forms.Class2.{Class2}
use Rattle.normal_forms.specs.declared.forms.Class2.TheVariants as class
use Rattle.normal_forms.specs.declared.forms.PropId2.{PropId2}
use Rattle.normal_forms.specs.declared.forms.PropId2.TheVariants.{Property}
use Rattle.facts.specs.declared.contexts.Context.{Context}
use Rattle.facts.specs.declared.contexts.Fact.{Fact}
use Rattle.inference.specs.Completeness.{HasEntry, IsCompleteUpToRedundancy, IsOwed}
use Rattle.inference.specs.Derivations.{Derived}
use Rattle.inference.proofs.Owing.{class_is_not_owed}
use Rattle.lemmas.proofs.Members.{slice_get-from_Contains}
use Rattle.normal_forms.specs.declared.apart.ApartLists.{ApartLists}
use Rattle.normal_forms.specs.declared.forms.Form.{Form}
use Rattle.normal_forms.specs.declared.forms.Form.TheVariants.{N1, N2, N3, N4, N5, N6, N7, N8, N9, N10, N12}
use Rattle.saturate.specs.GoingOn.{HasEntered}
use Rattle.saturate.specs.Growth.{with_more, LeavesEntries}

not_loop : (form : Form) → LeavesEntries form → (x : Context) (f : Fact) → IsLoop x form f → ⊥
not_loop (N1 a b) e x f l = l
not_loop (N2 a b c) e x f l = l
not_loop (N3 a r b) e x f l = l
not_loop (N4 r a b) e x f l = l
not_loop (N5 r s) e x f l = l
not_loop (N6 r s t) e x f l = l
not_loop (N7 r) e x f l = e
not_loop (N8 i a) e x f l = l
not_loop (N9 i r j) e x f l = l
not_loop (N10 a b) e x f l = l
not_loop (N12 a r b) e x f l = l

module _ (k : Problem) (forms : List Form) (lists : ApartLists) (roots : List Context) (leave : (form : Form) → Contains forms form → LeavesEntries form) where
  old_form : (form : Form) → Contains (k.forms ++ forms) form → (x : Context) (f : Fact) → IsLoop x form f → Contains k.forms form
  old_form form c x f l = ⊎_elim (λ there. there) (λ new. absurd (not_loop form (leave form new) x f l)) (Contains-append_cases k.forms forms form c)

  old_root : (x : Context) → Contains (take (length k.roots) (k.roots ++ roots)) x → Contains k.roots x
  old_root x there = subst (λ (xs : List Context). Contains xs x) (take-append_seam k.roots roots) there

  module _ {d : Derived} (served : List ℕ) (complete : IsCompleteUpToRedundancy k d served) where
    class_there : (c : Class2) (x : Context) → Contains d.facts (In c x) ⊎ IsOwed k d (In c x) → Contains d.facts (In c x)
    class_there c x w = ⊎_elim (λ there. there) (λ owed. absurd (class_is_not_owed k d c x owed)) w

    from_none : (o : Option ℕ) (c : Class2) (x : Context) → Gives k 1 o [] (In c x) → Contains d.facts (In c x)
    from_none o c x gives = class_there c x (complete.given [] tt 1 o (In c x) gives)

    -- a loop that is owed is one at its own context
    one_edge : (x y u v : Context) (p q : PropId2) → Edge x p y ≡ Edge u q v → x ≡ u
    one_edge x y u v p q e = cc

    owed_at : (x : Context) (form : Form) (f : Fact) → IsLoop x form f → IsOwed k d f → HasEntry d x
    owed_at x form f l w = subst (HasEntry d) (at_one w.form form w.is_loop l) w.entry
      where
        at_one : (g h : Form) {y : Context} → IsLoop y g f → IsLoop x h f → y ≡ x
        at_one (N7 r) (N7 s) {y} a b = one_edge y y x x (Property r) (Property s) (sym a ∙ b)
        at_one (N1 _ _) h a b = absurd a
        at_one (N2 _ _ _) h a b = absurd a
        at_one (N3 _ _ _) h a b = absurd a
        at_one (N4 _ _ _) h a b = absurd a
        at_one (N5 _ _) h a b = absurd a
        at_one (N6 _ _ _) h a b = absurd a
        at_one (N8 _ _) h a b = absurd a
        at_one (N9 _ _ _) h a b = absurd a
        at_one (N10 _ _) h a b = absurd a
        at_one (N12 _ _ _) h a b = absurd a
        at_one (N7 r) (N1 _ _) a b = absurd b
        at_one (N7 r) (N2 _ _ _) a b = absurd b
        at_one (N7 r) (N3 _ _ _) a b = absurd b
        at_one (N7 r) (N4 _ _ _) a b = absurd b
        at_one (N7 r) (N5 _ _) a b = absurd b
        at_one (N7 r) (N6 _ _ _) a b = absurd b
        at_one (N7 r) (N8 _ _) a b = absurd b
        at_one (N7 r) (N9 _ _ _) a b = absurd b
        at_one (N7 r) (N10 _ _) a b = absurd b
        at_one (N7 r) (N12 _ _ _) a b = absurd b

    seen_to : (x : Context) (form : Form) (f : Fact) → IsLoop x form f → Contains d.facts f ⊎ IsOwed k d f → Contains d.facts f ⊎ HasEntry d x
    seen_to x form f l w = ⊎_elim (λ there. inl there) (λ owed. inr (owed_at x form f l owed)) w

    pub entered : HasEntered (with_more k forms lists roots) (length k.roots) served d
    entered = record {
      roots = λ x there. record {
        top = from_none None thing x (in_thing (old_root x there));
        itself = λ e is. rw is (from_none None (class.Expr e) (Expr e) (in_itself (subst (Contains k.roots) is (old_root x there))));
        loops = λ form c f l. (let n = slice_get-from_Contains k.forms form (old_form form c x f l) in seen_to x form f l (complete.given [] tt 10 (Some n.0) f (loop x n.0 form n.1 l (old_root x there))));
      };
      loops = λ n there g x at target top form c f l. (let m = slice_get-from_Contains k.forms form (old_form form c x f l) in seen_to x form f l (complete.given (g ∷ []) ((n, there, at), tt) 10 (Some m.0) f (loop x m.0 form m.1 l target)));
    }
