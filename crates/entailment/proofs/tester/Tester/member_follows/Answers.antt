use Rattle.std.proofs.Common.{arith}
use Rattle.std.proofs.lemmas.Result.{err_from_is_err_and}
use Rattle.std.specs.List.{range_with_len}
use Rattle.axioms.specs.View.{axiom_of}
use Rattle.entailment.proofs.Going.{goes_none, goes_on, handed_on, number_at, numbers_all, stops_at, told_whole, untold_at}
use Rattle.entailment.specs.Parts.{parts_at, parts_before}
use Rattle.entailment.proofs.tester.Tester.member_follows.Goals as goal

pub loop-m-init : goal.loop-m-init
loop-m-init c = goes_none c.args.self.now.about.now c.args.self.now.max_facts

pub loop-m-preserved : goal.loop-m-preserved
loop-m-preserved c =
    let k = c.loop-m.m in
    goes_on c.args.self.now.about.now c.args.self.now.max_facts (λ m. parts_at (axiom_of c.args.stated.now) m c.args.n) (range_with_len 0 c.args.n) k k (number_at c.args.n k (omega arith)) _ c.loop-m.invariant c.in_ok-pair_follows.ensures c.if-not-branch.false

pub returns-then-not-branch : goal.returns-then-not-branch
returns-then-not-branch c =
    let k = c.loop-m.m in
    stops_at c.args.self.now.about.now c.args.self.now.max_facts (λ m. parts_at (axiom_of c.args.stated.now) m c.args.n) (range_with_len 0 c.args.n) k k (number_at c.args.n k (omega arith)) _ c.loop-m.invariant c.in_ok-pair_follows.ensures c.if-not-branch.true

pub returns-in_err-pair_follows : goal.returns-in_err-pair_follows
returns-in_err-pair_follows c =
    let k = c.loop-m.m in
    let p = err_from_is_err_and c.from_residual.result c.from_residual.ensures.1 in
    handed_on c.args.self.now.about.now c.args.self.now.max_facts (parts_before (axiom_of c.args.stated.now) c.args.n) c.from_residual.result p.0 _ p.1 p.2
    (untold_at c.args.self.now.about.now c.args.self.now.max_facts (λ m. parts_at (axiom_of c.args.stated.now) m c.args.n) (range_with_len 0 c.args.n) k k (number_at c.args.n k (omega arith)) _ c.loop-m.invariant c.in_err-pair_follows.ensures)

pub returns : goal.returns
returns c =
    told_whole c.args.self.now.about.now c.args.self.now.max_facts (λ m. parts_at (axiom_of c.args.stated.now) m c.args.n) (range_with_len 0 c.args.n) c.loop-m.m (numbers_all c.args.n c.loop-m.m (omega arith)) c.loop-m.invariant
