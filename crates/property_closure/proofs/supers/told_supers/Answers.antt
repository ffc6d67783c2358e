use Rattle.std.proofs.Common.{◌≡◌, ◌+◌, ◌↔◌, ℕ, List, [], ◌∷◌, ◌++◌, length, take, Contains, sym, ap, ◌∙◌, subst, arith}
use Rattle.std.proofs.lemmas.List.{length-set}
use Rattle.std.specs.Prelude.{slice_set}
use Rattle.normal_forms.specs.declared.forms.Form.TheVariants.{N5}
use Rattle.number_sets.specs.Pieces.{list_at}
use Rattle.property_closure.specs.Relations.{as_id, Tells}
use Rattle.number_sets.proofs.Members.{all_taken, member_at}
use Rattle.property_closure.proofs.Plain.{told_more, told_same}
use Rattle.property_closure.proofs.supers.told_supers.Goals as goal
use Rattle.property_closure.proofs.supers.told_supers.Goals.{in-N5+in_ok-push, in_default}

pub loop-form-preserved : goal.loop-form-preserved
loop-form-preserved c =
    let forms = c.args.forms.now in
    let k = c.loop-form.form-index in
    let before = c.loop-form.invariant in
    let Exact : List (List ℕ) → Type 0 = λ lists. (r s : ℕ) → Contains (list_at lists r) s ↔ Tells (take (k + 1) forms) r s in
    elim c.match-form.branch [
      | in-N5+in_ok-push w ↦
          let lists = c.loop-form.told in
          let sub = w.in-N5.sub in
          let sup = w.in-N5.sup in
          let is : c.match-form.told ≡ slice_set lists sub.0 (list_at lists sub.0 ++ sup.0 ∷ []) =
          w.told-is ∙ w.in_ok-push.ensures.ok ∙ ap (λ n. slice_set lists n (list_at lists n ++ sup.0 ∷ [])) w.index.ensures in
          let within = c.requires sub.0 sup.0 (member_at forms k _ (N5 sub sup) c.loop-form-test.true w.in-N5.is) in record {
            long = ap length is ∙ length-set lists sub.0 (list_at lists sub.0 ++ sup.0 ∷ []) ∙ before.long;
            exact = subst Exact (sym is) (told_more forms k _ sub sup lists c.loop-form-test.true w.in-N5.is (omega (arith, within.0, before.long)) before.exact);
          }
      | in_default w ↦ record {
        long = ap length w.told-is ∙ before.long;
        exact = subst Exact (sym w.told-is) (told_same forms k _ c.loop-form.told c.loop-form-test.true w.in_default.not-N5 before.exact);
      }
    ]

pub returns : goal.returns
returns c =
    let before = c.loop-form.invariant in
    let is = c.in_ok-packed.ensures in record {
      long = ap length is ∙ before.long;
      exact = λ r s. (
        λ h. (all_taken c.args.forms.now c.loop-form.form-index (N5 (as_id r) (as_id s)) (omega arith)).0 ((before.exact r s).0 (subst (λ (l : List (List ℕ)). Contains (list_at l r) s) is h)),
        λ h. subst (λ (l : List (List ℕ)). Contains (list_at l r) s) (sym is) ((before.exact r s).1 ((all_taken c.args.forms.now c.loop-form.form-index (N5 (as_id r) (as_id s)) (omega arith)).1 h)),
      );
    }
