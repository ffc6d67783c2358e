use Rattle.std.proofs.Common.{◌++◌, ℕ, List, subst}
use Rattle.short_names.specs.Found.{pairs_of}
use Rattle.short_names.specs.ShortNames.{IsShortened}
use Rattle.short_names.proofs.FirstName.{cut_shortened, regrouped}
use Rattle.short_names.proofs.shortening.shortened_by.Goals as goal

pub loop-cut-preserved : goal.loop-cut-preserved
loop-cut-preserved c = λ short h.
    let ps = pairs_of c.args.prefixes.now in
    let cut = c.in-Some.cut in
    let shown = c.in_ok-push_shown.ensures in
    subst (λ (t : List ℕ). IsShortened ps (λ iri. iri) c.args.text.now t)
    (regrouped c.loop-cut.out.items cut.front.now shown.0 short c.extend_from_slice.new.self.items c.push_shown.new.out.items c.in_ok-extend_from_slice.ensures.items shown.2)
    (c.loop-cut.invariant (cut.front.now ++ (shown.0 ++ short))
    (cut_shortened ps (λ iri. iri) c.loop-cut.rest.now cut.front.now cut.inside.now cut.behind.now shown.0 short c.in-Some.ensures.some shown.1 h))
