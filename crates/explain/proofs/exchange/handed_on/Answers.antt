use Rattle.std.proofs.Common.{subst}
use Rattle.explain.proofs.Handing.{class_linked, class_now, class_stands, source_linked, source_now, target_linked, target_now, target_stands}
use Rattle.explain.specs.LinesOfFacts.{AreShowing}
use Rattle.normalise.specs.Problem.{prefixes_of}
use Rattle.explain.proofs.exchange.handed_on.Goals as goal

pub unreachable-requires : goal.unreachable-requires
unreachable-requires g c =
    class_stands c.args.basis.now.closed.now.saturation.state.problem.forms c.args.handing.form c.args.handing.given c.args.handing.fact c.requires.hands c.requires.two c.in-In-In.class c.in-In-In.field-0-1 c.in-In-In.before c.in-In-In.now c.in-In-In.is-0 c.in-In-In.is-1
    c.in_default-exchanged.ensures

pub class_exchanged-requires-clause-linked : goal.class_exchanged-requires-clause-linked
class_exchanged-requires-clause-linked g c =
    class_linked c.args.basis.now.closed.now.saturation.state.problem.forms c.args.handing.form c.args.handing.given c.args.handing.fact c.requires.hands c.requires.two c.in-In-In.class c.in-In-In.field-0-1 c.in-In-In.before c.in-In-In.now c.in-In-In.is-0 c.in-In-In.is-1
    c.in-Some.old c.in-Some.new c.in-Some.ensures.0 c.in-Some.ensures.1

pub returns-in_ok-numbers-in-In-In-clause-shown : goal.returns-in_ok-numbers-in-In-In-clause-shown
returns-in_ok-numbers-in-In-In-clause-shown g c =
    subst (AreShowing (prefixes_of c.args.basis.now.closed.now.saturation.normal) c.class_exchanged.new.derivation c.in_ok-numbers-in-In-In.numbers.items)
    (class_now c.args.basis.now.closed.now.saturation.state.problem.forms c.args.handing.form c.args.handing.given c.args.handing.fact c.requires.hands c.requires.two c.in-In-In.class c.in-In-In.field-0-1 c.in-In-In.before c.in-In-In.now c.in-In-In.is-0 c.in-In-In.is-1
    c.in-Some.new c.in-Some.ensures.1)
    c.in_ok-numbers-in-In-In.ensures.shown

pub source_exchanged-requires-clause-linked : goal.source_exchanged-requires-clause-linked
source_exchanged-requires-clause-linked g c =
    source_linked c.args.basis.now.closed.now.saturation.state.problem.forms c.args.handing.form c.args.handing.given c.args.handing.fact c.requires.hands c.requires.two c.in-Edge-Edge.source c.in-Edge-Edge.target c.in-Edge-Edge.source_now c.in-Edge-Edge.target_now c.in-Edge-Edge.property c.in-Edge-Edge.field-1-1 c.in-Edge-Edge.is-0 c.in-Edge-Edge.is-1
    c.in-Some-exchanged.old c.in-Some-exchanged.new c.in-Some-exchanged.ensures.0 c.in-Some-exchanged.ensures.1 c.in-Some-exchanged.ensures.2

pub returns-in-Some-exchanged-clause-shown : goal.returns-in-Some-exchanged-clause-shown
returns-in-Some-exchanged-clause-shown g c =
    subst (AreShowing (prefixes_of c.args.basis.now.closed.now.saturation.normal) c.source_exchanged.new.derivation c.in_ok-numbers-in-Edge-Edge.numbers.items)
    (source_now c.args.basis.now.closed.now.saturation.state.problem.forms c.args.handing.form c.args.handing.given c.args.handing.fact c.requires.hands c.requires.two c.in-Edge-Edge.source c.in-Edge-Edge.target c.in-Edge-Edge.source_now c.in-Edge-Edge.target_now c.in-Edge-Edge.property c.in-Edge-Edge.field-1-1 c.in-Edge-Edge.is-0 c.in-Edge-Edge.is-1
    c.in-Some-exchanged.old c.in-Some-exchanged.new c.in-Some-exchanged.ensures.0 c.in-Some-exchanged.ensures.1 c.in-Some-exchanged.ensures.2)
    c.in_ok-numbers-in-Edge-Edge.ensures.shown

pub unreachable-requires-in_default-exchanged-3 : goal.unreachable-requires-in_default-exchanged-3
unreachable-requires-in_default-exchanged-3 g c =
    target_stands c.args.basis.now.closed.now.saturation.state.problem.forms c.args.handing.form c.args.handing.given c.args.handing.fact c.requires.hands c.requires.two c.in-Edge-Edge.source c.in-Edge-Edge.target c.in-Edge-Edge.source_now c.in-Edge-Edge.target_now c.in-Edge-Edge.property c.in-Edge-Edge.field-1-1 c.in-Edge-Edge.is-0 c.in-Edge-Edge.is-1
    c.in_default-exchanged-2.ensures c.in_default-exchanged-3.ensures

pub target_exchanged-requires-clause-linked : goal.target_exchanged-requires-clause-linked
target_exchanged-requires-clause-linked g c =
    target_linked c.args.basis.now.closed.now.saturation.state.problem.forms c.args.handing.form c.args.handing.given c.args.handing.fact c.requires.hands c.requires.two c.in-Edge-Edge.source c.in-Edge-Edge.target c.in-Edge-Edge.source_now c.in-Edge-Edge.target_now c.in-Edge-Edge.property c.in-Edge-Edge.field-1-1 c.in-Edge-Edge.is-0 c.in-Edge-Edge.is-1
    c.in_default-exchanged-2.ensures c.in-Some-exchanged-2.old c.in-Some-exchanged-2.new c.in-Some-exchanged-2.ensures.0 c.in-Some-exchanged-2.ensures.1

pub returns-in_ok-numbers-in-Edge-Edge-2-clause-shown : goal.returns-in_ok-numbers-in-Edge-Edge-2-clause-shown
returns-in_ok-numbers-in-Edge-Edge-2-clause-shown g c =
    subst (AreShowing (prefixes_of c.args.basis.now.closed.now.saturation.normal) c.target_exchanged.new.derivation c.in_ok-numbers-in-Edge-Edge-2.numbers.items)
    (target_now c.args.basis.now.closed.now.saturation.state.problem.forms c.args.handing.form c.args.handing.given c.args.handing.fact c.requires.hands c.requires.two c.in-Edge-Edge.source c.in-Edge-Edge.target c.in-Edge-Edge.source_now c.in-Edge-Edge.target_now c.in-Edge-Edge.property c.in-Edge-Edge.field-1-1 c.in-Edge-Edge.is-0 c.in-Edge-Edge.is-1
    c.in_default-exchanged-2.ensures c.in-Some-exchanged-2.new c.in-Some-exchanged-2.ensures.1)
    c.in_ok-numbers-in-Edge-Edge-2.ensures.shown
