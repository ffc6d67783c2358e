use Rattle.std.proofs.Common.{◌+◌, map, take, refl, sym, subst, arith}
use Rattle.std.proofs.lemmas.List.{length-map}
use Rattle.axioms.specs.Growth.{Numbers}
use Rattle.axioms.specs.View.{expr_numbers}
use Rattle.normalise.specs.Lengths.{IsShorter}
use Rattle.normalise.specs.View.{class_number}
use Rattle.normalise.proofs.Giving.{map-take, shorter_class, more_numbered}
use Rattle.normalise.proofs.made.Made.more_operands.Goals as goal

pub longer-requires-clause-shorter : goal.longer-requires-clause-shorter
longer-requires-clause-shorter c =
    let list = expr_numbers c.args.operands.now in let long = length-map c.args.operands.now (λ e. e.0) in
    subst (λ n. IsShorter c.args.self.now.operands n (map (λ e. e.0) (take (c.args.k + 1) c.args.operands.now))) (sym c.number_of_class.ensures)
    (subst (IsShorter c.args.self.now.operands (class_number c.args.shorter)) (sym (map-take (λ e. e.0) (c.args.k + 1) c.args.operands.now))
    (shorter_class c.args.self.now.operands c.args.shorter list c.args.k c.requires.first (omega arith) c.requires.starts))

pub returns : goal.returns
returns c =
    let list = expr_numbers c.args.operands.now in let long = length-map c.args.operands.now (λ e. e.0) in
    more_numbered c.args.self.now _ list c.args.whole.0 c.args.k c.in_ok-number.number c.requires.first (omega arith) refl refl refl
    (subst (λ xs. Numbers c.args.self.now.operands xs c.longer.new.self c.in_ok-number.number) (map-take (λ e. e.0) (c.args.k + 1) c.args.operands.now) c.in_ok-number.ensures.ok)
