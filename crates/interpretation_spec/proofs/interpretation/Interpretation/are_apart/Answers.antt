use Rattle.std.proofs.Common.{◌≡◌, ◌<◌, ℕ, sym, ◌∙◌, subst, length, get_or, refl, true≢false, arith, inl, inr}
use Rattle.std.proofs.lemmas.Bool.{cases_lt, false_from_ne_true, or_cases, or_left, or_right}
use Rattle.lemmas.proofs.Mapped.{All-from_map}
use Rattle.axioms.specs.declared.ids.ExprId.{ExprId}
use Rattle.axioms.specs.Ontology.{expression}
use Rattle.interpretation_spec.specs.Interpretation.{IsIn, IsApart}
use Rattle.interpretation_spec.specs.NamedInterpretation.{interpretation_of}
use Rattle.number_sets.specs.Members.{has}
use Rattle.interpretation_spec.proofs.Names.{size_of}
use Rattle.interpretation_spec.proofs.Shapes.{member_below, pairs_of_places_twice, places_of_pairs_twice}
use Rattle.interpretation_spec.proofs.interpretation.Interpretation.are_apart.Goals as goal

pub extension-requires-clause-there : goal.extension-requires-clause-there
extension-requires-clause-there c =
    All-from_map (λ (e : ℕ). e < length c.args.ontology.now.nodes) (λ (e : ExprId). e.0) c.args.operands.now c.requires.there c.loop-operand.operand-index record { 0 = 0 } c.loop-operand-test.true

pub is_disjoint-requires : goal.is_disjoint-requires
is_disjoint-requires c = c.in_ok-members.ensures.long ∙ size_of c.args.ontology.now.names c.args.self.now ∙ sym c.loop-operand.invariant.long

pub union-requires : goal.union-requires
union-requires c = c.loop-operand.invariant.long ∙ sym (c.in_ok-members.ensures.long ∙ size_of c.args.ontology.now.names c.args.self.now)

pub returns-then-not-is_disjoint : goal.returns-then-not-is_disjoint
returns-then-not-is_disjoint c =
    let o = c.args.ontology.now in
    let n = c.args.self.now in
    let i = interpretation_of o.names n in
    let es = c.args.operands.now in
    let none : ExprId = record { 0 = 0 } in
    let at = c.loop-operand.operand-index in
    let members = c.in_ok-members.members in
    let seen = c.loop-operand.seen in (
      λ f. absurd (true≢false (sym f)),
      λ h. sym c.if-not-is_disjoint.true ∙ c.is_disjoint.ensures.1 (λ k m.
          let li : k < i.size = subst (λ (s : ℕ). k < s) c.in_ok-members.ensures.long (member_below members k m) in
          let ln : k < n.size = subst (λ (s : ℕ). k < s) (size_of o.names n) li in
          false_from_ne_true (has seen k) (λ t.
          let (j, lj, p) = (c.loop-operand.invariant.seen k ln).0 t in
          places_of_pairs_twice (IsApart i) (expression o) (λ (d : ExprId). d.0) es none h j at lj c.loop-operand-test.true k li p ((c.in_ok-members.ensures.members k li).0 m))),
    )

pub loop-operand-preserved : goal.loop-operand-preserved
loop-operand-preserved c =
    let o = c.args.ontology.now in
    let n = c.args.self.now in
    let i = interpretation_of o.names n in
    let es = c.args.operands.now in
    let none : ExprId = record { 0 = 0 } in
    let at = c.loop-operand.operand-index in
    let members = c.in_ok-members.members in
    let seen = c.loop-operand.seen in
    let outside : (x : ℕ) → x < n.size → x < i.size = λ x l. subst (λ (s : ℕ). x < s) (sym (size_of o.names n)) l in
    let inside : (x : ℕ) → x < i.size → x < n.size = λ x l. subst (λ (s : ℕ). x < s) (size_of o.names n) l in
    let E : ℕ → _ = λ (k : ℕ). expression o (get_or es k none).0 in
    let old = c.loop-operand.invariant in
    let new = c.in_ok-members.ensures in
    record {
      long = c.union.ensures.len ∙ old.long;
      seen = λ x l. (
        λ h.
            elim (or_cases (has seen x) (has members x) (sym (c.union.ensures.members x) ∙ h)) [
              | inl s ↦ (let (k, lk, p) = (old.seen x l).0 s in (k, omega arith, p))
              | inr m ↦ (at, omega arith, (new.members x (outside x l)).0 m)
            ],
        λ (k, lk, p).
            c.union.ensures.members x
            ∙ elim (cases_lt k at) [
              | inl b ↦ or_left (has seen x) (has members x) ((old.seen x l).1 (k, b, p))
              | inr b ↦ (let e : k ≡ at = omega arith in or_right (has seen x) (has members x) ((new.members x (outside x l)).1 (subst (λ (v : ℕ). IsIn i (E v) x) e p)))
            ],
      );
      apart = λ k m b lm.
          elim (cases_lt m at) [
            | inl lm' ↦ old.apart k m b lm'
            | inr lm' ↦
                (let e : at ≡ m = omega arith in
                let lk : k < at = omega arith in
                subst (λ (v : ℕ). IsApart i (E k) (E v)) e (λ x lx p q.
                let s = (old.seen x (inside x lx)).1 (k, lk, p) in
                let t = (new.members x lx).1 q in
                true≢false (sym s ∙ c.is_disjoint.ensures.0 c.if-not-is_disjoint.false x t)))
          ];
    }

pub returns : goal.returns
returns c =
    let o = c.args.ontology.now in
    let i = interpretation_of o.names c.args.self.now in
    let es = c.args.operands.now in (
      λ _. pairs_of_places_twice (IsApart i) (expression o) (λ (d : ExprId). d.0) es record { 0 = 0 } (λ m k l lk. c.loop-operand.invariant.apart m k l (omega arith)),
      λ _. refl,
    )
