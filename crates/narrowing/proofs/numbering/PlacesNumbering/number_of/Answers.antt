use Rattle.std.proofs.Common.{◌≡◌, ◌<◌, ◌∙◌, ℕ, List, AllPairs, length, ap, sym, subst, arith}
use Rattle.narrowing.specs.Narrowed.{place_among}
use Rattle.narrowing.proofs.Placed.{place_found, place_not_found}
use Rattle.narrowing.proofs.numbering.PlacesNumbering.number_of.Goals as goal

pub returns-in-Ok : goal.returns-in-Ok
returns-in-Ok c =
    let used = c.deref.result.now in
    let same = c.deref.ensures.value in
    let up = subst (λ (xs : List ℕ). AllPairs (λ a b. a < b) xs) (sym same) c.args.self.now.ascend in
    place_found used c.args.element c.in-Ok.place up c.in-Ok.ensures.position ∙ ap (λ xs. place_among xs c.args.element) same

pub returns-in-Err : goal.returns-in-Err
returns-in-Err c =
    let used = c.deref.result.now in
    let same = c.deref.ensures.value in
    let up = subst (λ (xs : List ℕ). AllPairs (λ a b. a < b) xs) (sym same) c.args.self.now.ascend in
    let long : c.len.result ≡ length c.args.self.now.used.items = omega arith in
    long
    ∙ subst (λ (xs : List ℕ). length xs ≡ place_among xs c.args.element) same (place_not_found used c.args.element c.in-Err.field-0 up c.in-Err.ensures.position)
