use Rattle.std.proofs.Common.{◌∙◌, ◌∷◌, [], ap, length, sym, subst, arith}
use Rattle.std.proofs.lemmas.Bool.Decides.{Decides-eqb}
use Rattle.std.proofs.lemmas.Slice.Eq.{strip_suffix_is}
use Rattle.source_lines.specs.Sources.{source_state}
use Rattle.speech.specs.Conversations.{LacksPayload}
use Rattle.speech.specs.declared.input_fault.InputFault.{InputFault}
use Rattle.speech.proofs.Coming.{cut_passing, lacks_passing, no_bytes, passed_elsewhere, passed_feedless, passed_whole, passing_more}
use Rattle.speech.proofs.hearing.pass_payload.Goals as goal

pub returns-in-Err-clause-lacks : goal.returns-in-Err-clause-lacks
returns-in-Err-clause-lacks g c =
    let s = source_state g.S.Source c.args.source.now in
    let u = source_state g.S.Source c.advance.new.source in
    let P : InputFault → Type 0 = λ fault. LacksPayload fault c.args.size c.args.lines.now.ahead s u in
    subst P (sym c.input_fault.ensures) (lacks_passing c.in-Err.fault c.args.size c.loop-fault.left c.args.lines.now.ahead
    c.loop-fault.lines s (source_state g.S.Source c.loop-fault.source) u c.loop-fault.invariant c.in-Err.ensures.fault)

pub returns-then-is_empty-clause-lacks : goal.returns-then-is_empty-clause-lacks
returns-then-is_empty-clause-lacks g c =
    cut_passing c.args.size c.loop-fault.left c.args.lines.now.ahead c.loop-fault.lines c.advance.new.self (source_state g.S.Source c.args.source.now) (source_state g.S.Source c.loop-fault.source) (source_state g.S.Source c.advance.new.source)
    c.loop-fault.invariant c.in_default.ensures.ok (sym c.line-line.ensures ∙ no_bytes c.line-line.result.now c.is_empty.result c.is_empty.ensures c.if-is_empty.true)

pub returns-in_default-strip_suffix-clause-lacks : goal.returns-in_default-strip_suffix-clause-lacks
returns-in_default-strip_suffix-clause-lacks g c =
    let none = rw c.in_default-strip_suffix.is at (strip_suffix_is Decides-eqb c.line-line.result.now (10 ∷ []) c.strip_suffix.result c.strip_suffix.ensures.cases) in
    passed_feedless c.args.size c.loop-fault.left c.args.lines.now.ahead c.loop-fault.lines c.advance.new.self (source_state g.S.Source c.args.source.now) (source_state g.S.Source c.loop-fault.source) (source_state g.S.Source c.advance.new.source)
    c.loop-fault.invariant c.in_default.ensures.ok (omega (arith, ap length c.line-line.ensures)) (λ front e. none front (c.line-line.ensures ∙ e))

pub returns-then-front-left-clause-passed : goal.returns-then-front-left-clause-passed
returns-then-front-left-clause-passed g c =
    let is = rw c.in-Some.is at (strip_suffix_is Decides-eqb c.line-line.result.now (10 ∷ []) c.strip_suffix.result c.strip_suffix.ensures.cases) in
    passed_whole c.args.size c.loop-fault.left c.args.lines.now.ahead c.loop-fault.lines c.advance.new.self (source_state g.S.Source c.args.source.now) (source_state g.S.Source c.loop-fault.source) (source_state g.S.Source c.advance.new.source)
    c.in-Some.front.now c.loop-fault.invariant c.in_default.ensures.ok (sym c.line-line.ensures ∙ is) (omega arith)

pub returns-else-front-left-clause-lacks : goal.returns-else-front-left-clause-lacks
returns-else-front-left-clause-lacks g c =
    let is = rw c.in-Some.is at (strip_suffix_is Decides-eqb c.line-line.result.now (10 ∷ []) c.strip_suffix.result c.strip_suffix.ensures.cases) in
    passed_elsewhere c.args.size c.loop-fault.left c.args.lines.now.ahead c.loop-fault.lines c.advance.new.self (source_state g.S.Source c.args.source.now) (source_state g.S.Source c.loop-fault.source) (source_state g.S.Source c.advance.new.source)
    c.in-Some.front.now c.loop-fault.invariant c.in_default.ensures.ok (omega (arith, ap length c.line-line.ensures)) (sym c.line-line.ensures ∙ is) (λ e. omega (arith, e))

pub loop-fault-preserved : goal.loop-fault-preserved
loop-fault-preserved g c =
    passing_more c.args.size c.loop-fault.left _ c.args.lines.now.ahead c.loop-fault.lines c.advance.new.self (source_state g.S.Source c.args.source.now) (source_state g.S.Source c.loop-fault.source) (source_state g.S.Source c.advance.new.source)
    c.loop-fault.invariant c.in_default.ensures.ok (omega (arith, ap length c.line-line.ensures))
