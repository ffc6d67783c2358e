use Rattle.std.proofs.Common.{◌≡◌, ◌<◌, get_or, length, slice_get, Some, refl, sym, ap, ◌∙◌, arith}
use Rattle.std.proofs.lemmas.Option.{slice_get-get_or, slice_get_within}
use Rattle.facts.specs.Chains.{home_of}
use Rattle.facts.proofs.marks.Marks.find.Goals as goal

pub returns-in-Some-clause-there : goal.returns-in-Some-clause-there
returns-in-Some-clause-there c table marked =
    let places = c.args.self.now.places.items in
    let there : slice_get c.args.self.now.facts.facts c.in-Some.place ≡ Some c.args.fact = rw c.in-Some.is at c.walk.ensures.there in
    let within : c.in-Some.place < length places = omega (arith, marked.long, slice_get_within c.args.self.now.facts.facts c.in-Some.place c.args.fact there) in
    marked.right c.in-Some.place c.at.result c.args.fact there
    (slice_get-get_or places c.in-Some.place 0 within ∙ ap Some (sym (c.at.ensures ∙ ap (λ l. get_or l c.in-Some.place 0) c.deref.ensures.value)))

pub returns-in-None-clause-none : goal.returns-in-None-clause-none
returns-in-None-clause-none c _ table marked owner member =
    (rw c.in-None.is at c.walk.ensures.none) refl (marked.all (home_of c.args.fact) owner c.args.fact member refl)
