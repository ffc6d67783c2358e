use Rattle.std.proofs.Common.{◌≡◌, ◌↔◌, inl, inr, ℕ, List, map, get_or, true, sym, ap, ◌∙◌, subst, arith, true≢false}
use Rattle.std.specs.List.{list_any}
use Rattle.std.specs.List.Sorted.{IsStrictlyIncreasing}
use Rattle.std.proofs.lemmas.List.{take_all}
use Rattle.certificate.specs.View.{pair_row_of}
use Rattle.listed_model.specs.Listing.{targets_of}
use Rattle.listed_model.specs.Members.{holds}
use Rattle.listed_model.specs.Rows.{Joined}
use Rattle.listed_model.proofs.Extensions.{holds_push}
use Rattle.listed_model.proofs.Passed.{rises_push, above_taken, one_passes, which_passes}
use Rattle.listed_model.proofs.Walks.{holds_next}
use Rattle.listed_model.proofs.among.joined_among.Goals as goal
use Rattle.listed_model.proofs.among.joined_among.Goals.{then-have_common+in_ok-push, else-have_common}

-- one of the targets passes where the property joins the source to one of the fillers
joins_one : (rows : List (ℕ × ℕ × List ℕ)) (r x : ℕ) (fillers targets : List ℕ) → targets ≡ targets_of rows r x → (list_any (holds fillers) targets ≡ true) ↔ Joined rows r fillers x
joins_one rows r x fillers targets is = (
  λ h. (let (y, m, f) = which_passes (holds fillers) targets h in (y, ap (λ xs. holds xs y) (sym is) ∙ m, f)),
  λ (y, t, f). one_passes (holds fillers) targets y (ap (λ xs. holds xs y) is ∙ t) f,
)

pub loop-source-init : goal.loop-source-init
loop-source-init c = record {
  ascending = subst IsStrictlyIncreasing (sym c.new-joined.ensures.items) (λ k b. absurd (omega arith));
  members = λ x. (
    λ h. absurd (true≢false (sym h ∙ ap (λ xs. holds xs x) c.new-joined.ensures.items)),
    λ (h, all). absurd (true≢false (sym h)),
  );
}

pub loop-source-preserved : goal.loop-source-preserved
loop-source-preserved c =
    let rows = map pair_row_of c.args.rows.now in
    let r = c.args.property.0 in
    let sources = c.args.sources.now in
    let fillers = c.args.fillers.now in
    let at = c.loop-source.source-index in
    let y = get_or sources at 0 in
    let joined = c.loop-source.joined.items in
    let old = c.loop-source.invariant in
    let Here : ℕ → Type 0 = λ (x : ℕ). Joined rows r fillers x in
    let one = joins_one rows r y fillers c.targets_at.result.now c.targets_at.ensures.targets in
    elim c.if-have_common.branch [
      | then-have_common+in_ok-push w ↦
          (let is = ap (λ v. v.items) w.joined-is ∙ w.in_ok-push.ensures.items in
          let here : Here y = one.0 (sym c.have_common.ensures ∙ w.if-have_common.true) in
          record {
            ascending = subst IsStrictlyIncreasing (sym is) (rises_push joined y old.ascending (λ z m. above_taken sources at z c.requires.sources c.loop-source-test.true ((old.members z).0 m).0));
            members = λ x.
                let next = holds_next sources at 0 x c.loop-source-test.true in
                let push = holds_push joined y x in (
                  λ h. elim (push.0 (sym (ap (λ xs. holds xs x) is) ∙ h)) [
                    | inl m ↦ (let (a, j) = (old.members x).0 m in (next.1 (inl a), j))
                    | inr e ↦ (next.1 (inr e), subst Here e here)
                  ],
                  λ (a, j). ap (λ xs. holds xs x) is ∙ push.1 (elim (next.0 a) [ inl p ↦ inl ((old.members x).1 (p, j)) | inr e ↦ inr e ]),
                );
          })
      | else-have_common w ↦
          (let is = ap (λ v. v.items) w.joined-is in
          record {
            ascending = subst IsStrictlyIncreasing (sym is) old.ascending;
            members = λ x.
                let next = holds_next sources at 0 x c.loop-source-test.true in (
                  λ h. (let (a, j) = (old.members x).0 (sym (ap (λ xs. holds xs x) is) ∙ h) in (next.1 (inl a), j)),
                  λ (a, j). ap (λ xs. holds xs x) is ∙ elim (next.0 a) [
                    | inl p ↦ (old.members x).1 (p, j)
                    | inr e ↦ absurd (true≢false (sym (one.1 (subst Here (sym e) j)) ∙ sym c.have_common.ensures ∙ w.if-have_common.false))
                  ],
                );
          })
    ]

pub returns-clause-members : goal.returns-clause-members
returns-clause-members c = λ x.
    let all = take_all c.loop-source.source-index c.args.sources.now c.loop-source-test.false in
    let old = c.loop-source.invariant.members x in (
      λ h. (let (a, b) = old.0 h in (ap (λ xs. holds xs x) (sym all) ∙ a, b)),
      λ (a, b). old.1 (ap (λ xs. holds xs x) all ∙ a, b),
    )
