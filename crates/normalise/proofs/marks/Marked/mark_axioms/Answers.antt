use Rattle.std.proofs.Common.{◌≡◌, length, map, refl, subst, arith}
use Rattle.axioms.specs.View.{axiom_of}
use Rattle.lemmas.proofs.Mapped.{slice_get_map}
use Rattle.std.proofs.lemmas.Option.{slice_get_read}
use Rattle.normalise.specs.Marks.{AtSide, EachFrom, MarksMore}
use Rattle.normalise.proofs.Marking.{from_none, from_more}
use Rattle.normalise.proofs.marks.Marked.mark_axioms.Goals as goal

pub loop-k-init : goal.loop-k-init
loop-k-init c = from_none (map axiom_of c.args.axioms.now) (AtSide c.args.side) c.args.from c.args.self.now

pub loop-k-preserved : goal.loop-k-preserved
loop-k-preserved c = from_more (map axiom_of c.args.axioms.now) (AtSide c.args.side) c.args.from c.loop-k.k (axiom_of c.index-axioms-k.result) (omega arith) (slice_get_map axiom_of c.args.axioms.now c.loop-k.k _ (slice_get_read c.args.axioms.now (length c.args.axioms.now) c.loop-k.k c.index-axioms-k.result refl c.loop-k-test.true c.index-axioms-k.is)) c.loop-k.invariant c.in_ok-mark_side.ensures

pub returns : goal.returns
returns c = let e : c.loop-k.k ≡ length c.args.axioms.now = omega arith in subst (λ n. MarksMore c.args.self.now c.loop-k.self (EachFrom (map axiom_of c.args.axioms.now) (AtSide c.args.side) c.args.from n)) e c.loop-k.invariant
