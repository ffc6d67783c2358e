use Rattle.std.proofs.Common.{ℕ, All, map, sym, ◌∙◌, subst, refl}
use Rattle.certificate.specs.View.{pair_row_of}
use Rattle.listed_model.specs.Rows.{LiesWithin}
use Rattle.listed_model.proofs.Keys.{found_key, put_key, exact_pair}
use Rattle.listed_model.proofs.shown.lies_within.Goals as goal

pub returns-then-contains-clause-within : goal.returns-then-contains-clause-within
returns-then-contains-clause-within c =
    let P : ℕ × ℕ → Type 0 = λ (p : ℕ × ℕ). LiesWithin (map pair_row_of c.args.rows.now) p.0 p.1 in
    let pair : ℕ × ℕ = (c.args.property.0, c.args.above.0) in
    (λ _. found_key P _ c.args.shown.now.within.keys pair (λ x e. sym (exact_pair pair x e)) c.requires.shown.within (sym c.contains.ensures ∙ c.if-contains.true), λ _. refl)

pub returns-clause-shown : goal.returns-clause-shown
returns-clause-shown c =
    let rows = map pair_row_of c.args.rows.now in
    let P : ℕ × ℕ → Type 0 = λ (p : ℕ × ℕ). LiesWithin rows p.0 p.1 in
    let pair : ℕ × ℕ = (c.args.property.0, c.args.above.0) in
    record {
      within = subst (All P) (sym c.in_ok-insert.ensures.keys) (put_key P _ c.args.shown.now.within.keys pair c.requires.shown.within (c.are_pairs_within.ensures.0 c.if-not-are_pairs_within.false));
      transitive = c.requires.shown.transitive;
    }
