use Rattle.std.proofs.Common.{◌≡◌, ℕ, ◌+◌, List, Some, length, slice_get, sym, ap, ◌∙◌, subst, arith}
use Rattle.std.proofs.lemmas.List.{length_push}
use Rattle.std.proofs.lemmas.Option.{none-some}
use Rattle.certificate.specs.declared.listed.ClassRow.{ClassRow}
use Rattle.certificate.specs.declared.listed.PairRow.{PairRow}
use Rattle.listed_model.specs.Keeping.{AreKept}
use Rattle.listed_model.specs.Rows.{AreHolders}
use Rattle.listed_model.specs.declared.kept.Kept.{Kept}
use Rattle.listed_model.specs.declared.kept.Place.{Place}
use Rattle.listed_model.specs.declared.kept.Place.TheVariants as place
use Rattle.listed_model.proofs.Held.{kept_row}
use Rattle.listed_model.proofs.keeping.kept_of.Goals.{then-is_of+in_ok-put, else-is_of+in_ok-keep_list}
use Rattle.listed_model.proofs.keeping.kept_of.Goals as goal

pub loop-number-init : goal.loop-number-init
loop-number-init c =
    let none = c.in_ok-with_capacity.ensures.items in
    let nothing : (e : ℕ) (p : Place) → slice_get c.in_ok-with_capacity.field-0.items e ≡ Some p → ⊥ = λ e p g. none-some p (ap (λ (ps : List Place). slice_get ps e) (sym none) ∙ g) in record {
      kept = record {
        holders = subst (λ (rows : List PairRow). AreHolders rows c.args.listed.now.domain c.in_ok-holders.holders) c.deref.ensures.value c.in_ok-holders.ensures;
        lists = λ e n g. absurd (nothing e (place.List n) g);
        elements = λ e xs (p, g, s). absurd (nothing e p g);
      };
      places = ap length none;
      lists = omega (arith, ap length c.new.ensures);
      next = omega arith;
    }

pub loop-number-preserved : goal.loop-number-preserved
loop-number-preserved c =
    let o = c.args.ontology.now in
    let l = c.args.listed.now in
    let n = c.loop-number.number in
    let old = c.loop-number.kept in
    let was = c.loop-number.invariant in
    let k = c.loop-number.next in
    elim c.if-is_of.branch [
      | then-is_of+in_ok-put w ↦
          (let put = w.in_ok-put.ensures in
          let (row, g, is) = c.is_of.ensures w.if-is_of.true in
          let h : slice_get l.classes.items k ≡ Some row = subst (λ (rows : List ClassRow). slice_get rows k ≡ Some row) c.deref-in-loop-number.ensures.value g in
          let many : length w.put.new.self.places.items ≡ n + 1 = ap length put.2 ∙ length_push old.places.items (place.Row k) ∙ ap (λ n. n + 1) was.places in
          record {
            kept = subst (AreKept o l) (sym w.kept-is) (kept_row o c.well_formed-2.ensures l c.requires old w.put.new.self k row was.kept h (is ∙ sym was.places) put);
            places = ap (λ (k : Kept). length k.places.items) w.kept-is ∙ many;
            lists = omega (arith, ap (λ (k : Kept). length k.lists) w.kept-is, ap length put.1, was.lists);
            next = omega (arith, w.next-is, was.next);
          })
      | else-is_of+in_ok-keep_list w ↦
          (let put = w.in_ok-keep_list.ensures in
          record {
            kept = subst (AreKept o l) (sym w.kept-is) put.kept;
            places = ap (λ (k : Kept). length k.places.items) w.kept-is ∙ put.places;
            lists = omega (arith, ap (λ (k : Kept). length k.lists) w.kept-is, put.lists);
            next = omega (arith, w.next-is, was.next);
          })
    ]

pub returns : goal.returns
returns c = c.loop-number.invariant.kept
