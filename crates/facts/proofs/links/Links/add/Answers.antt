use Rattle.std.proofs.Common.{◌≡◌, ◌+◌, ◌-◌, get_or, slice_get, Some, ap, subst, arith}
use Rattle.std.proofs.lemmas.Option.{slice_get_within}
use Rattle.facts.specs.Chains.{home_of}
use Rattle.facts.specs.declared.links.TheConstants.{MANY}
use Rattle.facts.specs.Slots.{bucket_of, buckets_of, numbers_of, HasSlots, Stands}
use Rattle.facts.proofs.Placing.{on_ok, read_at}
use Rattle.facts.proofs.Tabling.{lead_grown, lead_other, lead_push, read_slots}
use Rattle.facts.proofs.links.Links.add.Goals as goal

pub returns-then-number-lt-MANY-clause-added : goal.returns-then-number-lt-MANY-clause-added
returns-then-number-lt-MANY-clause-added c =
    lead_other c.args.seeds.now c.args.facts.now c.args.self.now.numbers.items c.args.self.now.slots.items c.args.fact
    (omega (arith, c.of-number.ensures, c.if-number-lt-MANY.true, ap (λ h. get_or c.args.self.now.numbers.items h 0) c.home_of.ensures)) c.requires.linked

pub index_mut-requires : goal.index_mut-requires
index_mut-requires c =
    let place = c.of-number.result - MANY in
    let leads : get_or c.args.self.now.numbers.items (home_of c.args.fact) 0 ≡ place + MANY =
    omega (arith, c.of-number.ensures, c.if-number-lt-MANY.false, ap (λ h. get_or c.args.self.now.numbers.items h 0) c.home_of.ensures) in
    let was = c.requires.linked (home_of c.args.fact) place leads in
    omega (arith, slice_get_within c.args.self.now.slots.items place was.table was.at, c.args.self.now.slots.ok.0)

pub insert-requires-clause-slots : goal.insert-requires-clause-slots
insert-requires-clause-slots c =
    let place = c.of-number.result - MANY in
    let leads : get_or c.args.self.now.numbers.items (home_of c.args.fact) 0 ≡ place + MANY =
    omega (arith, c.of-number.ensures, c.if-number-lt-MANY.false, ap (λ h. get_or c.args.self.now.numbers.items h 0) c.home_of.ensures) in
    let was = c.requires.linked (home_of c.args.fact) place leads in
    subst HasSlots (read_slots c.args.self.now.slots.items place was.table c.index_mut.result.now was.at c.index_mut.ensures.value) was.has

pub returns-clause-linked : goal.returns-clause-linked
returns-clause-linked c =
    let place = c.of-number.result - MANY in
    let leads : get_or c.args.self.now.numbers.items (home_of c.args.fact) 0 ≡ place + MANY =
    omega (arith, c.of-number.ensures, c.if-number-lt-MANY.false, ap (λ h. get_or c.args.self.now.numbers.items h 0) c.home_of.ensures) in
    let was = c.requires.linked (home_of c.args.fact) place leads in
    let there : slice_get c.args.self.now.slots.items place ≡ Some c.index_mut.result.now =
    read_at c.args.self.now.slots.items place c.index_mut.result.now (slice_get_within c.args.self.now.slots.items place was.table was.at) c.index_mut.ensures.value in
    lead_grown c.args.seeds.now c.args.facts.now c.args.self.now.numbers.items c.args.self.now.slots.items place c.index_mut.result.now c.insert.new.self there
    c.insert.ensures.slots c.insert.ensures.holds c.requires.linked

pub returns-clause-added : goal.returns-clause-added
returns-clause-added c =
    let place = c.of-number.result - MANY in
    let leads : get_or c.args.self.now.numbers.items (home_of c.args.fact) 0 ≡ place + MANY =
    omega (arith, c.of-number.ensures, c.if-number-lt-MANY.false, ap (λ h. get_or c.args.self.now.numbers.items h 0) c.home_of.ensures) in
    let was = c.requires.linked (home_of c.args.fact) place leads in
    let there : slice_get c.args.self.now.slots.items place ≡ Some c.index_mut.result.now =
    read_at c.args.self.now.slots.items place c.index_mut.result.now (slice_get_within c.args.self.now.slots.items place was.table was.at) c.index_mut.ensures.value in
    on_ok c.insert.result c.insert.ensures.stands (λ stands.
    lead_push c.args.seeds.now c.args.facts.now c.args.self.now.numbers.items c.args.self.now.slots.items place c.index_mut.result.now c.insert.new.self c.args.fact leads there
    c.insert.ensures.slots c.insert.ensures.holds
    (subst (Stands (numbers_of c.insert.new.self) (bucket_of c.args.seeds.now (buckets_of c.insert.new.self) c.args.fact)) (omega arith) stands)
    c.requires.linked)
