use Rattle.std.proofs.Common.{◌≡◌, ℕ, zero, suc, List, Bool, map, true, false, refl, sym, ap, ◌∙◌, subst, arith, true≢false, ◌&&◌}
use Rattle.std.specs.List.Sorted.{IsStrictlyIncreasing}
use Rattle.std.proofs.lemmas.Bool.{and_from, eq-eqb, eqb-true}
use Rattle.std.proofs.lemmas.List.Elements.{All-map}
use Rattle.std.proofs.lemmas.List.Kept.{IsStrictlyIncreasing-filter}
use Rattle.std.proofs.lemmas.Result.{IfOk-weaker}
use Rattle.certificate.specs.Certificate.{Listed}
use Rattle.certificate.specs.View.{class_row_of, listed_of}
use Rattle.certificate.specs.declared.listed.ClassRow.{ClassRow}
use Rattle.listed_model.specs.Interpretations.{class_members}
use Rattle.listed_model.specs.Listing.{elements_of}
use Rattle.listed_model.specs.Members.{holds}
use Rattle.listed_model.proofs.Extensions.{holds_filter}
use Rattle.listed_model.proofs.Given.{listed_elements}
use Rattle.listed_model.proofs.Interpreted.{range_has}
use Rattle.listed_model.proofs.among.class_among.Goals as goal

both_true : (a b : Bool) → (a && b) ≡ true → (a ≡ true) × (b ≡ true)
both_true true b h = (refl, h)
both_true false b h = absurd (true≢false (sym h))

-- the elements of a class that is neither owl:Thing nor owl:Nothing are those that are listed
named_members : (l : Listed) (e : ℕ) → (e ≡ 0 → ⊥) → (e ≡ 1 → ⊥) → class_members l e ≡ elements_of l.classes e
named_members l zero thing nothing = absurd (thing refl)
named_members l (suc zero) thing nothing = absurd (nothing refl)
named_members l (suc (suc e)) thing nothing = refl

pub returns-then-eq-clause-members : goal.returns-then-eq-clause-members
returns-then-eq-clause-members c = λ x.
    let l = listed_of c.args.listed.now in
    let thing : c.args.class.0 ≡ 0 = eqb-true c.args.class.0 0 (sym c.eq.ensures ∙ c.if-eq.true) in
    let is = c.in_ok-from_slice.ensures.items in (
      λ h.
          let m = ap (λ xs. holds xs x) (sym is) ∙ h in
          (m, subst (λ (k : ℕ). holds (class_members l k) x ≡ true) (sym thing) ((range_has l.domain x).1 (c.requires.elements.within x m))),
      λ (m, b). ap (λ xs. holds xs x) is ∙ m,
    )

pub common-requires : goal.common-requires
common-requires c =
    let rows = c.args.listed.now.classes.items in
    let e = c.args.class.0 in
    let is = c.elements_at.ensures ∙ ap (λ (rs : List ClassRow). elements_of (map class_row_of rs) e) c.deref.ensures.value in
    subst IsStrictlyIncreasing (sym is)
    (listed_elements c.args.listed.now.domain (map class_row_of rows) e IsStrictlyIncreasing (λ k b. absurd (omega arith))
    (All-map (λ (c : ℕ × List ℕ). IsStrictlyIncreasing c.1) class_row_of rows c.requires.rows.elements))

pub returns-clause-ascending : goal.returns-clause-ascending
returns-clause-ascending c =
    IfOk-weaker c.common.result _ _ (λ v h. subst IsStrictlyIncreasing (sym h) (IsStrictlyIncreasing-filter (holds c.elements_at.result.now) c.args.elements.now c.requires.elements.ascending)) c.common.ensures

pub returns-clause-members : goal.returns-clause-members
returns-clause-members c =
    let l = listed_of c.args.listed.now in
    let e = c.args.class.0 in
    let elements = c.args.elements.now in
    let row = c.elements_at.result.now in
    let is : row ≡ class_members l e =
    c.elements_at.ensures ∙ ap (λ (rs : List ClassRow). elements_of (map class_row_of rs) e) c.deref.ensures.value
    ∙ sym (named_members l e (λ z. true≢false (sym (eq-eqb e 0 z) ∙ sym c.eq.ensures ∙ c.if-eq.false)) (λ z. true≢false (sym (eq-eqb e 1 z) ∙ sym c.eq-2.ensures ∙ c.if-eq-2.false))) in
    IfOk-weaker c.common.result _ _
    (λ v h x.
    let both : holds v.items x ≡ (holds elements x && holds row x) = ap (λ zs. holds zs x) h ∙ holds_filter (holds row) elements x in (
      λ m. (let (a, b) = both_true (holds elements x) (holds row x) (sym both ∙ m) in (a, ap (λ zs. holds zs x) (sym is) ∙ b)),
      λ (a, b). both ∙ and_from (holds elements x) (holds row x) a (ap (λ zs. holds zs x) is ∙ b),
    ))
    c.common.ensures
