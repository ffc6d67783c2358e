use Rattle.std.proofs.Common.{◌≡◌, ◌<◌, ◌↔◌, All, Bool, IsTrue, List, ℕ, length, subst}
use Rattle.narrowing.specs.Gathered.{class_elements, pair_elements, claim_elements, elements_of_lines}
use Rattle.narrowing.specs.Marked.{marked}
use Rattle.narrowing.proofs.Marking.{IsPut, none_marked, put_more, put_refused, put_last}
use Rattle.narrowing.proofs.Standing.{classes_among, pairs_among, individual_stands}
use Rattle.narrowing.proofs.marks.mark_lines.Goals as goal

-- what a call says of a list that it was given by a reference
said : {X : Type 0} (f : X → List ℕ) (row new : List Bool) (answer : Bool) (given xs : X) → given ≡ xs → (IsTrue answer ↔ All (λ x. x < length row) (f given)) → (IsTrue answer → new ≡ marked row (f given)) → IsPut row (f xs) answer new
said f row new answer given xs same in_range after = subst (λ ys. IsPut row (f ys) answer new) same (record { in_range = in_range; after = after })

pub returns-then-not-mark_classes-clause-in_range : goal.returns-then-not-mark_classes-clause-in_range
returns-then-not-mark_classes-clause-in_range c =
    let l = c.args.listed.now in
    let row = c.args.row.now in
    let p1 = said class_elements row c.mark_classes.new.row c.mark_classes.result c.deref.result.now l.classes.items c.deref.ensures.value c.mark_classes.ensures.in_range c.mark_classes.ensures.after in
    put_refused (none_marked row) p1 (elements_of_lines l) (classes_among l) c.if-not-mark_classes.true

pub returns-then-not-mark_pairs-clause-in_range : goal.returns-then-not-mark_pairs-clause-in_range
returns-then-not-mark_pairs-clause-in_range c =
    let l = c.args.listed.now in
    let row = c.args.row.now in
    let p1 = said class_elements row c.mark_classes.new.row c.mark_classes.result c.deref.result.now l.classes.items c.deref.ensures.value c.mark_classes.ensures.in_range c.mark_classes.ensures.after in
    let p2 = said pair_elements c.mark_classes.new.row c.mark_pairs.new.row c.mark_pairs.result c.deref-2.result.now l.pairs.items c.deref-2.ensures.value c.mark_pairs.ensures.in_range c.mark_pairs.ensures.after in
    let m1 = put_more (none_marked row) p1 c.if-not-mark_classes.false in
    put_refused m1 p2 (elements_of_lines l) (pairs_among l) c.if-not-mark_pairs.true

pub returns-then-not-mark_elements-clause-in_range : goal.returns-then-not-mark_elements-clause-in_range
returns-then-not-mark_elements-clause-in_range c =
    let l = c.args.listed.now in
    let row = c.args.row.now in
    let p1 = said class_elements row c.mark_classes.new.row c.mark_classes.result c.deref.result.now l.classes.items c.deref.ensures.value c.mark_classes.ensures.in_range c.mark_classes.ensures.after in
    let p2 = said pair_elements c.mark_classes.new.row c.mark_pairs.new.row c.mark_pairs.result c.deref-2.result.now l.pairs.items c.deref-2.ensures.value c.mark_pairs.ensures.in_range c.mark_pairs.ensures.after in
    let p3 = said (λ (xs : List ℕ). xs) c.mark_pairs.new.row c.mark_elements.new.row c.mark_elements.result c.deref-3.result.now l.individuals.items c.deref-3.ensures.value c.mark_elements.ensures.in_range c.mark_elements.ensures.after in
    let m1 = put_more (none_marked row) p1 c.if-not-mark_classes.false in
    let m2 = put_more m1 p2 c.if-not-mark_pairs.false in
    put_refused m2 p3 (elements_of_lines l) (individual_stands l) c.if-not-mark_elements.true

pub returns-clause-in_range : goal.returns-clause-in_range
returns-clause-in_range c =
    let l = c.args.listed.now in
    let row = c.args.row.now in
    let p1 = said class_elements row c.mark_classes.new.row c.mark_classes.result c.deref.result.now l.classes.items c.deref.ensures.value c.mark_classes.ensures.in_range c.mark_classes.ensures.after in
    let p2 = said pair_elements c.mark_classes.new.row c.mark_pairs.new.row c.mark_pairs.result c.deref-2.result.now l.pairs.items c.deref-2.ensures.value c.mark_pairs.ensures.in_range c.mark_pairs.ensures.after in
    let p3 = said (λ (xs : List ℕ). xs) c.mark_pairs.new.row c.mark_elements.new.row c.mark_elements.result c.deref-3.result.now l.individuals.items c.deref-3.ensures.value c.mark_elements.ensures.in_range c.mark_elements.ensures.after in
    let p4 = said claim_elements c.mark_elements.new.row c.mark_claims.new.row c.mark_claims.result c.deref-4.result.now l.claims.items c.deref-4.ensures.value c.mark_claims.ensures.in_range c.mark_claims.ensures.after in
    let m1 = put_more (none_marked row) p1 c.if-not-mark_classes.false in
    let m2 = put_more m1 p2 c.if-not-mark_pairs.false in
    let m3 = put_more m2 p3 c.if-not-mark_elements.false in
    (put_last m3 p4).in_range

pub returns-clause-after : goal.returns-clause-after
returns-clause-after c =
    let l = c.args.listed.now in
    let row = c.args.row.now in
    let p1 = said class_elements row c.mark_classes.new.row c.mark_classes.result c.deref.result.now l.classes.items c.deref.ensures.value c.mark_classes.ensures.in_range c.mark_classes.ensures.after in
    let p2 = said pair_elements c.mark_classes.new.row c.mark_pairs.new.row c.mark_pairs.result c.deref-2.result.now l.pairs.items c.deref-2.ensures.value c.mark_pairs.ensures.in_range c.mark_pairs.ensures.after in
    let p3 = said (λ (xs : List ℕ). xs) c.mark_pairs.new.row c.mark_elements.new.row c.mark_elements.result c.deref-3.result.now l.individuals.items c.deref-3.ensures.value c.mark_elements.ensures.in_range c.mark_elements.ensures.after in
    let p4 = said claim_elements c.mark_elements.new.row c.mark_claims.new.row c.mark_claims.result c.deref-4.result.now l.claims.items c.deref-4.ensures.value c.mark_claims.ensures.in_range c.mark_claims.ensures.after in
    let m1 = put_more (none_marked row) p1 c.if-not-mark_classes.false in
    let m2 = put_more m1 p2 c.if-not-mark_pairs.false in
    let m3 = put_more m2 p3 c.if-not-mark_elements.false in
    (put_last m3 p4).after
