use Rattle.std.proofs.Common.{[], arith}
use Rattle.inference.specs.Completeness.{IsEntered}
use Rattle.inference.proofs.Growth.{grows_same, grows_trans}
use Rattle.inference.proofs.Drawing.{concluded_still, draws, each_next, each, drawn, entered_still}
use Rattle.inference.proofs.rules.Rules.begin_more.Goals as goal

pub loop-number-init : goal.loop-number-init
loop-number-init c = record { grows = grows_same c.requires.derived; entered = c.requires.entered }

pub loop-number-preserved : goal.loop-number-preserved
loop-number-preserved c =
    let k = c.args.self.now.problem.now in
    record {
      grows = grows_trans c.loop-number.invariant.grows c.enter.ensures.grows;
      entered = each_next (λ x. IsEntered k x c.loop-number.facts) (λ x. IsEntered k x c.enter.new.facts) k.roots c.loop-number.number c.at.result.now (rw c.roots-roots.ensures at c.at.ensures)
          c.loop-number.invariant.entered (entered_still c.enter.ensures.grows) c.in_ok-enter.ensures.drawn;
    }

pub returns : goal.returns
returns c =
    let k = c.args.self.now.problem.now in
    let s = c.draw_different.ensures.grows in
    let t = grows_trans c.draw.ensures.grows s in
    draws (grows_trans c.loop-number.invariant.grows t) (drawn k [] c.draw_different.new.facts (λ form f owed. owed) (concluded_still s [] c.in_ok-draw.ensures.drawn)
    (λ x there. entered_still t x (each (λ y. IsEntered k y c.loop-number.facts) k.roots c.roots-roots.result.now.items c.loop-number.number c.roots-roots.ensures (omega (arith, c.len-number-end.ensures, c.loop-number-test.false)) c.loop-number.invariant.entered x there))
    (λ g e. absurd (cc)) (λ e. c.in_ok-draw_different.ensures.drawn) (λ g h e. absurd (cc)))
