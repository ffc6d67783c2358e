use Rattle.std.proofs.Common.{◌≡◌, ◌≤◌, Some, length, map, slice_get, refl, arith}
use Rattle.std.proofs.lemmas.List.{length-map}
use Rattle.std.proofs.lemmas.Option.{slice_get_read}
use Rattle.std.proofs.lemmas.Result.{err_from_is_err_and}
use Rattle.std.specs.List.{flat_map}
use Rattle.axioms.specs.View.{axiom_of}
use Rattle.axioms.specs.WellFormedness.{IsAxiomOf}
use Rattle.entailment.proofs.Going.{goes_none, goes_on, handed_on, stops_at, told_whole, untold_at}
use Rattle.entailment.proofs.Listing.{one_at}
use Rattle.entailment.specs.Parts.{parts_of}
use Rattle.lemmas.proofs.Mapped.{slice_get_map}
use Rattle.entailment.proofs.tester.Tester.all_follow.Goals as goal

pub axiom_follows-requires-clause-there : goal.axiom_follows-requires-clause-there
axiom_follows-requires-clause-there c =
    let xs = c.args.axioms.now in
    let k = c.loop-next.next-index in
    let at : slice_get xs k ≡ Some c.next-item.result = slice_get_read xs (length xs) k c.next-item.result refl (omega arith) c.next-item.is in
    one_at (IsAxiomOf c.args.self.now.about.now) axiom_of xs k c.next-item.result at c.requires.axioms

pub loop-next-init : goal.loop-next-init
loop-next-init c = goes_none c.args.self.now.about.now c.args.self.now.max_facts

pub loop-next-preserved : goal.loop-next-preserved
loop-next-preserved c =
    let xs = c.args.axioms.now in
    let k = c.loop-next.next-index in
    let at : slice_get xs k ≡ Some c.next-item.result = slice_get_read xs (length xs) k c.next-item.result refl (omega arith) c.next-item.is in
    goes_on c.args.self.now.about.now c.args.self.now.max_facts parts_of (map axiom_of xs) k (axiom_of c.next-item.result) (slice_get_map axiom_of xs k c.next-item.result at) _ c.loop-next.invariant c.in_ok-axiom_follows.ensures c.if-not-branch.false

pub returns-then-not-branch : goal.returns-then-not-branch
returns-then-not-branch c =
    let xs = c.args.axioms.now in
    let k = c.loop-next.next-index in
    let at : slice_get xs k ≡ Some c.next-item.result = slice_get_read xs (length xs) k c.next-item.result refl (omega arith) c.next-item.is in
    stops_at c.args.self.now.about.now c.args.self.now.max_facts parts_of (map axiom_of xs) k (axiom_of c.next-item.result) (slice_get_map axiom_of xs k c.next-item.result at) _ c.loop-next.invariant c.in_ok-axiom_follows.ensures c.if-not-branch.true

pub returns-in_err-axiom_follows : goal.returns-in_err-axiom_follows
returns-in_err-axiom_follows c =
    let xs = c.args.axioms.now in
    let k = c.loop-next.next-index in
    let at : slice_get xs k ≡ Some c.next-item.result = slice_get_read xs (length xs) k c.next-item.result refl (omega arith) c.next-item.is in
    let p = err_from_is_err_and c.from_residual.result c.from_residual.ensures.1 in
    handed_on c.args.self.now.about.now c.args.self.now.max_facts (flat_map parts_of (map axiom_of c.args.axioms.now)) c.from_residual.result p.0 _ p.1 p.2
    (untold_at c.args.self.now.about.now c.args.self.now.max_facts parts_of (map axiom_of xs) k (axiom_of c.next-item.result) (slice_get_map axiom_of xs k c.next-item.result at) _ c.loop-next.invariant c.in_err-axiom_follows.ensures)

pub returns : goal.returns
returns c =
    let xs = c.args.axioms.now in
    let k = c.loop-next.next-index in
    let end : length xs ≤ k = c.loop-next-test.false in
    told_whole c.args.self.now.about.now c.args.self.now.max_facts parts_of (map axiom_of xs) k (omega (arith, end, length-map xs axiom_of)) c.loop-next.invariant
