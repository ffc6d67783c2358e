use Rattle.std.proofs.Common.{Contains, sym, subst}
use Rattle.std.specs.List.Sorted.{IsNonDecreasing}
use Rattle.indexes.specs.Disjoint.{IsOf}
use Rattle.indexes.proofs.Pairing.{other_pair, placed, some_by_keys}
use Rattle.indexes.proofs.disjoint.Disjointness.list_of.Goals as goal

pub list_with-requires-clause-lists : goal.list_with-requires-clause-lists
list_with-requires-clause-lists c = (placed c.self.inside.places c.args.first c.of.result.now c.self.invariant c.self.view_is c.deref.ensures.value c.of.ensures).lists

pub list_with-requires-clause-there : goal.list_with-requires-clause-there
list_with-requires-clause-there c = (placed c.self.inside.places c.args.first c.of.result.now c.self.invariant c.self.view_is c.deref.ensures.value c.of.ensures).there

pub list_with-requires-clause-firsts : goal.list_with-requires-clause-firsts
list_with-requires-clause-firsts c = subst IsNonDecreasing (sym c.of.ensures) (c.self.invariant.ascend c.args.first)

pub list_with-requires-clause-seconds : goal.list_with-requires-clause-seconds
list_with-requires-clause-seconds c = subst IsNonDecreasing (sym c.of-2.ensures) (c.self.invariant.ascend c.args.second)

pub returns-clause-some : goal.returns-clause-some
returns-clause-some c =
    some_by_keys c.args.first c.args.second c.of.result.now c.of-2.result.now
    (placed c.self.inside.places c.args.first c.of.result.now c.self.invariant c.self.view_is c.deref.ensures.value c.of.ensures)
    (placed c.self.inside.places c.args.second c.of-2.result.now c.self.invariant c.self.view_is c.deref.ensures.value c.of-2.ensures)
    c.list_with.result c.list_with.ensures.some

pub returns-clause-none : goal.returns-clause-none
returns-clause-none c = λ none n w.
    let one = c.of.result.now in
    let other = c.of-2.result.now in
    let firsts = placed c.self.inside.places c.args.first one c.self.invariant c.self.view_is c.deref.ensures.value c.of.ensures in
    let seconds = placed c.self.inside.places c.args.second other c.self.invariant c.self.view_is c.deref.ensures.value c.of-2.ensures in
    c.list_with.ensures.none none n (other_pair (IsOf c.args.self.now c.args.first) (IsOf c.args.self.now c.args.second) (Contains one) (Contains other) (sym firsts.same) firsts.all seconds.all w)
