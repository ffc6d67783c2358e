use Rattle.std.proofs.Common.{◌∙◌, ◌∷◌, ◌++◌, [], sym, subst, arith}
use Rattle.std.proofs.lemmas.Bool.Decides.{Decides-eqb}
use Rattle.std.proofs.lemmas.Slice.Eq.{strip_suffix_is}
use Rattle.source_lines.specs.Sources.{source_state}
use Rattle.speech.specs.Conversations.{LacksPayload}
use Rattle.speech.specs.declared.input_fault.InputFault.{InputFault}
use Rattle.speech.proofs.Coming.{comes_more, cut_payload, feedless, hand_comes, is_read_on, lacks_payload, no_bytes, payload_is, payload_more}
use Rattle.speech.proofs.hearing.read_payload.Goals as goal

pub returns-in-Err-clause-lacks : goal.returns-in-Err-clause-lacks
returns-in-Err-clause-lacks g c =
    let s = source_state g.S.Source c.args.source.now in
    let u = source_state g.S.Source c.advance.new.source in
    let P : InputFault → Type 0 = λ fault. LacksPayload fault c.args.size c.args.lines.now.ahead s u in
    subst P (sym c.input_fault.ensures) (lacks_payload c.in-Err.fault c.args.size c.args.lines.now.ahead c.loop-lines.lines s (source_state g.S.Source c.loop-lines.source) u
    c.loop-lines.payload.items c.loop-lines.invariant.comes (omega arith) c.in-Err.ensures.fault)

pub returns-then-is_empty-clause-lacks : goal.returns-then-is_empty-clause-lacks
returns-then-is_empty-clause-lacks g c =
    cut_payload c.args.size c.args.lines.now.ahead c.loop-lines.lines c.advance.new.self (source_state g.S.Source c.args.source.now) (source_state g.S.Source c.loop-lines.source) (source_state g.S.Source c.advance.new.source)
    c.loop-lines.payload.items c.loop-lines.invariant.comes (omega arith) c.in_default.ensures.ok (sym c.line.ensures ∙ no_bytes c.line.result.now c.is_empty.result c.is_empty.ensures c.if-is_empty.true)

pub returns-in-Err-extend_from_slice-clause-lacks : goal.returns-in-Err-extend_from_slice-clause-lacks
returns-in-Err-extend_from_slice-clause-lacks g c =
    let s = source_state g.S.Source c.args.source.now in
    let t = source_state g.S.Source c.loop-lines.source in
    let u = source_state g.S.Source c.advance.new.source in
    is_read_on c.args.lines.now.ahead c.advance.new.self.ahead s u (c.loop-lines.payload.items ++ c.advance.new.self.line)
    (comes_more c.args.lines.now.ahead c.loop-lines.lines.ahead c.advance.new.self.ahead s t u c.loop-lines.payload.items c.advance.new.self.line
    c.loop-lines.invariant.comes (hand_comes c.loop-lines.lines c.advance.new.self t u c.in_default.ensures.ok))

pub loop-lines-preserved : goal.loop-lines-preserved
loop-lines-preserved g c =
    let more = payload_more c.args.size c.args.lines.now.ahead c.loop-lines.lines c.advance.new.self (source_state g.S.Source c.args.source.now) (source_state g.S.Source c.loop-lines.source) (source_state g.S.Source c.advance.new.source)
    c.loop-lines.payload.items c.line-in-loop-lines.result.now c.extend_from_slice.new.self.items c.loop-lines.invariant.comes c.loop-lines.invariant.part (omega arith) c.in_default.ensures.ok
    c.line-in-loop-lines.ensures c.in_default-extend_from_slice.ensures.items in
    record { comes = more.0; part = more.1 }

pub returns-in_default-strip_suffix-clause-lacks : goal.returns-in_default-strip_suffix-clause-lacks
returns-in_default-strip_suffix-clause-lacks g c =
    let none = rw c.in_default-strip_suffix.is at (strip_suffix_is Decides-eqb c.deref.result.now (10 ∷ []) c.strip_suffix.result c.strip_suffix.ensures.cases) in (
      c.loop-lines.payload.items,
      c.loop-lines.lines.ahead,
      c.loop-lines.invariant.comes,
      omega arith,
      feedless c.args.size c.loop-lines.payload.items c.loop-lines.invariant.part (λ front e. none front (c.deref.ensures.value ∙ e)),
    )

pub returns-clause-read : goal.returns-clause-read
returns-clause-read g c =
    let is = rw c.in-Some.is at (strip_suffix_is Decides-eqb c.deref.result.now (10 ∷ []) c.strip_suffix.result c.strip_suffix.ensures.cases) in
    payload_is c.args.size c.args.lines.now.ahead c.loop-lines.lines.ahead (source_state g.S.Source c.args.source.now) (source_state g.S.Source c.loop-lines.source)
    c.loop-lines.payload.items c.in-Some.front.now c.truncate.new.self.items c.loop-lines.invariant.comes (sym c.deref.ensures.value ∙ is) c.truncate.ensures.items (omega arith)
