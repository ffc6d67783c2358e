use Rattle.std.proofs.Common.{◌≡◌, ◌+◌, ◌<◌, List, Bool, length, slice_get, Some, sym, ap, ap₂, ◌∙◌, subst, arith}
use Rattle.std.proofs.lemmas.Option.{slice_get-get_or}
use Rattle.number_sets.specs.Pieces.{list_at}
use Rattle.number_sets.specs.Search.{Search, search_of, with_steps}
use Rattle.number_sets.proofs.Searching.{IsSearchFrom, begun, followed, few, finished, seen_led}
use Rattle.number_sets.proofs.search.NumberSearch.run.Goals as goal

pub loop-next-init : goal.loop-next-init
loop-next-init g c =
    let make : List g.row.F.Denot → List Bool → Search g.row.F.Denot = λ found seen. record { found = found; seen = seen } in
    begun g.F.Found.number g.F.Found.target g.F.Found.by c.args.starts.now c.args.lists.now
    (make c.clear.new.self.items c.clear-2.new.self) (search_of c.start.new.self)
    (length c.args.self.now.seen) c.requires.within c.requires.wide
    (ap₂ make c.clear.ensures.items c.clear-2.ensures) c.in_ok-start.ensures

pub returns-then-next-len-clause-found : goal.returns-then-next-len-clause-found
returns-then-next-len-clause-found g c =
    finished g.F.Found.number g.F.Found.target g.F.Found.by c.args.starts.now c.args.lists.now c.loop-next.next
    (search_of c.loop-next.self) c.loop-next.invariant (omega (arith, c.if-next-len.true, c.len.ensures, c.loop-next.self.found.ok))

pub returns-then-next-len-clause-seen : goal.returns-then-next-len-clause-seen
returns-then-next-len-clause-seen g c =
    seen_led g.F.Found.number g.F.Found.target g.F.Found.by c.args.starts.now c.args.lists.now g.met.F.Found.same_number c.loop-next.next
    (search_of c.loop-next.self) c.loop-next.invariant (omega (arith, c.if-next-len.true, c.len.ensures, c.loop-next.self.found.ok))

pub loop-next-preserved : goal.loop-next-preserved
loop-next-preserved g c =
    let number = g.F.Found.number in
    let lists = c.args.lists.now in
    let next = c.loop-next.next in
    let found = c.loop-next.self.found.items in
    let search = search_of c.loop-next.self in
    let b = c.index.result.now in
    let low : next < length found = omega (arith, c.if-next-len.false, c.len.ensures, c.loop-next.self.found.ok) in
    let here : slice_get found next ≡ Some b = slice_get-get_or found next b low ∙ ap Some (sym c.index.ensures) in
    let is = c.in_ok-follow.ensures ∙ ap (with_steps number g.F.Found.by next search) (c.at.ensures ∙ ap (list_at lists) c.number-number.ensures) in
    subst (IsSearchFrom number g.F.Found.target g.F.Found.by c.args.starts.now lists (next + 1)) (sym is)
    (followed number g.F.Found.target g.F.Found.by c.args.starts.now lists g.met.F.Found.same_number c.requires.bounded next b search c.loop-next.invariant here)

pub returns-clause-found : goal.returns-clause-found
returns-clause-found g c =
    let search = search_of c.loop-next.self in
    let all = few g.F.Found.number g.F.Found.target g.F.Found.by c.args.starts.now c.args.lists.now c.loop-next.next search c.loop-next.invariant in
    finished g.F.Found.number g.F.Found.target g.F.Found.by c.args.starts.now c.args.lists.now c.loop-next.next search c.loop-next.invariant (omega (arith, c.loop-next-test.false, c.len-next-end.ensures, all))

pub returns-clause-seen : goal.returns-clause-seen
returns-clause-seen g c =
    let search = search_of c.loop-next.self in
    let all = few g.F.Found.number g.F.Found.target g.F.Found.by c.args.starts.now c.args.lists.now c.loop-next.next search c.loop-next.invariant in
    seen_led g.F.Found.number g.F.Found.target g.F.Found.by c.args.starts.now c.args.lists.now g.met.F.Found.same_number c.loop-next.next search c.loop-next.invariant (omega (arith, c.loop-next-test.false, c.len-next-end.ensures, all))
