use Rattle.std.proofs.Common.{ℕ, Ok, true, false, arith, subst}
use Rattle.std.proofs.lemmas.Result.{err_from_is_err_and}
use Rattle.std.specs.List.{flat_map, range_with_len}
use Rattle.axioms.specs.View.{axiom_of}
use Rattle.entailment.proofs.Going.{goes_none, goes_on, handed_on, number_at, numbers_all, stops_at, told_whole, untold_at}
use Rattle.entailment.specs.Parts.{parts_before}
use Rattle.entailment.specs.Testers.{IsTold}
use Rattle.entailment.proofs.tester.Tester.list_follows.Goals as goal

pub loop-n-init : goal.loop-n-init
loop-n-init c = goes_none c.args.self.now.about.now c.args.self.now.max_facts

pub loop-n-preserved : goal.loop-n-preserved
loop-n-preserved c =
    let k = c.loop-n.n in
    goes_on c.args.self.now.about.now c.args.self.now.max_facts (parts_before (axiom_of c.args.stated.now)) (range_with_len 0 c.args.count) k k (number_at c.args.count k (omega arith)) _ c.loop-n.invariant c.in_ok-member_follows.ensures c.if-not-branch.false

pub returns-then-not-branch : goal.returns-then-not-branch
returns-then-not-branch c =
    let o = c.args.self.now.about.now in
    let most = c.args.self.now.max_facts in
    let line = parts_before (axiom_of c.args.stated.now) in
    let k = c.loop-n.n in
    let P : ℕ → Type 0 = λ count. IsTold o (flat_map line (range_with_len 0 count)) most (Ok false) in
    subst P c.requires.count (stops_at o most line (range_with_len 0 c.args.count) k k (number_at c.args.count k (omega arith)) _ c.loop-n.invariant c.in_ok-member_follows.ensures c.if-not-branch.true)

pub returns-in_err-member_follows : goal.returns-in_err-member_follows
returns-in_err-member_follows c =
    let o = c.args.self.now.about.now in
    let most = c.args.self.now.max_facts in
    let line = parts_before (axiom_of c.args.stated.now) in
    let k = c.loop-n.n in
    let p = err_from_is_err_and c.from_residual.result c.from_residual.ensures.1 in
    let P : ℕ → Type 0 = λ count. IsTold o (flat_map line (range_with_len 0 count)) most c.from_residual.result in
    let untold = untold_at o most line (range_with_len 0 c.args.count) k k (number_at c.args.count k (omega arith)) _ c.loop-n.invariant c.in_err-member_follows.ensures in
    subst P c.requires.count (handed_on o most (flat_map line (range_with_len 0 c.args.count)) c.from_residual.result p.0 _ p.1 p.2 untold)

pub returns : goal.returns
returns c =
    let o = c.args.self.now.about.now in
    let most = c.args.self.now.max_facts in
    let line = parts_before (axiom_of c.args.stated.now) in
    let P : ℕ → Type 0 = λ count. IsTold o (flat_map line (range_with_len 0 count)) most (Ok true) in
    subst P c.requires.count (told_whole o most line (range_with_len 0 c.args.count) c.loop-n.n (numbers_all c.args.count c.loop-n.n (omega arith)) c.loop-n.invariant)
