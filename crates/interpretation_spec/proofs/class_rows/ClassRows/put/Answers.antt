use Rattle.std.proofs.Common.{◌≡◌, ◌<◌, ℕ, Bool, true, List, [], get_or, length, set, sym, ap, ◌∙◌, subst, arith}
use Rattle.std.proofs.lemmas.List.{get_or_default, length-map}
use Rattle.interpretation_spec.proofs.ClassRows.{more_placed, row_at, rows_more}
use Rattle.interpretation_spec.proofs.class_rows.ClassRows.put.Goals as goal

pub invariant_of-self : goal.invariant_of-self
invariant_of-self c =
    let rows : List (List Bool) = c.self.inside.rows.items in
    let places : List ℕ = c.self.inside.places.items in
    let class = c.args.class in
    let x = c.args.element in
    let within : class < length places = let l = c.requires.class.1 in omega (arith, l, ap length c.self.view_is, length-map places (λ (p : ℕ). get_or rows p [])) in
    let at : c.index-place.result.now ≡ get_or places class 0 = c.index-place.ensures ∙ get_or_default places class c.index-place.result.now 0 within in
    let used : 0 < get_or places class 0 = omega (arith, at) in
    let read : c.index_mut.result.now ≡ get_or rows c.index-place.result.now [] = c.index_mut.ensures.value ∙ get_or_default rows c.index-place.result.now c.index_mut.result.now [] (omega arith) in
    let inside : x < length (get_or rows (get_or places class 0) []) = subst (λ (row : List Bool). x < length row) (ap (λ (all : List (List Bool)). get_or all class []) (sym c.self.view_is) ∙ row_at rows places c.self.invariant class within) c.requires.element in
    rw (c.put.ensures.after, read, at) (more_placed rows places c.self.invariant class c.requires.class.0 within used x inside)

pub returns-clause-ok : goal.returns-clause-ok
returns-clause-ok c =
    let rows : List (List Bool) = c.self.inside.rows.items in
    let places : List ℕ = c.self.inside.places.items in
    let class = c.args.class in
    let x = c.args.element in
    let view : List (List Bool) = c.args.self.now in
    let within : class < length places = let l = c.requires.class.1 in omega (arith, l, ap length c.self.view_is, length-map places (λ (p : ℕ). get_or rows p [])) in
    let at : c.index-place.result.now ≡ get_or places class 0 = c.index-place.ensures ∙ get_or_default places class c.index-place.result.now 0 within in
    let used : 0 < get_or places class 0 = omega (arith, at) in
    let read : c.index_mut.result.now ≡ get_or rows c.index-place.result.now [] = c.index_mut.ensures.value ∙ get_or_default rows c.index-place.result.now c.index_mut.result.now [] (omega arith) in
    let row_is : get_or view class [] ≡ get_or rows (get_or places class 0) [] = ap (λ (all : List (List Bool)). get_or all class []) (sym c.self.view_is) ∙ row_at rows places c.self.invariant class within in
    let inside : x < length (get_or rows (get_or places class 0) []) = subst (λ (row : List Bool). x < length row) row_is c.requires.element in
    rw (c.put.ensures.after, read, at)
    (rows_more rows places c.self.invariant class c.requires.class.0 within used x inside
    ∙ ap (λ (all : List (List Bool)). set all class (set (get_or rows (get_or places class 0) []) x true)) c.self.view_is
    ∙ ap (λ (row : List Bool). set view class (set row x true)) (sym row_is))
