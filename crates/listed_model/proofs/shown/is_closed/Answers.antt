use Rattle.std.proofs.Common.{ℕ, All, map, sym, ◌∙◌, subst, refl}
use Rattle.std.proofs.lemmas.Map.Lookups.{exact_unsigned}
use Rattle.certificate.specs.View.{pair_row_of}
use Rattle.listed_model.specs.Rows.{ClosedAt}
use Rattle.listed_model.proofs.Keys.{found_key, put_key}
use Rattle.listed_model.proofs.shown.is_closed.Goals as goal

pub returns-then-contains-clause-transitive : goal.returns-then-contains-clause-transitive
returns-then-contains-clause-transitive c =
    let P : ℕ → Type 0 = λ (r : ℕ). (x : ℕ) → ClosedAt (map pair_row_of c.args.rows.now) r x in
    let r = c.args.property.0 in
    (λ _. found_key P _ c.args.room.now.shown.transitive.keys r (λ x e. sym (exact_unsigned r x e)) c.requires.shown.transitive (sym c.contains.ensures ∙ c.if-contains.true), λ _. refl)

pub returns-clause-shown : goal.returns-clause-shown
returns-clause-shown c =
    let P : ℕ → Type 0 = λ (r : ℕ). (x : ℕ) → ClosedAt (map pair_row_of c.args.rows.now) r x in
    record {
      within = c.requires.shown.within;
      transitive = subst (All P) (sym c.in_ok-insert.ensures.keys) (put_key P _ c.args.room.now.shown.transitive.keys c.args.property.0 c.requires.shown.transitive (c.in_ok-is_transitive.ensures.transitive.0 c.if-not-branch.false));
    }
