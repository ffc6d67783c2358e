use Rattle.std.proofs.Common.{◌≡◌, ◌+◌, ◌-◌, get_or, subst, arith}
use Rattle.std.proofs.lemmas.Option.{slice_get_within}
use Rattle.facts.specs.Chains.{home_of}
use Rattle.facts.specs.declared.links.TheConstants.{MANY}
use Rattle.facts.specs.Slots.{HasSlots}
use Rattle.facts.specs.Tables.{HoldHome}
use Rattle.facts.proofs.Tabling.{none_there, read_slots}
use Rattle.facts.proofs.links.Links.find.Goals as goal

pub index-requires : goal.index-requires
index-requires c =
    let place = c.args.number - MANY in
    let leads : get_or c.args.self.now.numbers.items (home_of c.args.fact) 0 ≡ place + MANY = omega (arith, c.requires.number, c.requires.some) in
    let was = c.requires.linked (home_of c.args.fact) place leads in
    omega (arith, slice_get_within c.args.self.now.slots.items place was.table was.at, c.args.self.now.slots.ok.0)

pub search-requires : goal.search-requires
search-requires c =
    let place = c.args.number - MANY in
    let leads : get_or c.args.self.now.numbers.items (home_of c.args.fact) 0 ≡ place + MANY = omega (arith, c.requires.number, c.requires.some) in
    let was = c.requires.linked (home_of c.args.fact) place leads in
    subst HasSlots (read_slots c.args.self.now.slots.items place was.table c.index.result.now was.at c.index.ensures) was.has

pub returns-in-Free-clause-none : goal.returns-in-Free-clause-none
returns-in-Free-clause-none c _ member =
    let place = c.args.number - MANY in
    let leads : get_or c.args.self.now.numbers.items (home_of c.args.fact) 0 ≡ place + MANY = omega (arith, c.requires.number, c.requires.some) in
    let was = c.requires.linked (home_of c.args.fact) place leads in
    none_there c.args.seeds.now c.args.facts.now c.index.result.now c.args.fact
    (subst (HoldHome c.args.seeds.now c.args.facts.now (home_of c.args.fact)) (read_slots c.args.self.now.slots.items place was.table c.index.result.now was.at c.index.ensures) was.holds)
    c.in-Free.ensures.absent member
