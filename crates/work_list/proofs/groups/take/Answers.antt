use Rattle.std.proofs.Common.{◌≡◌, ◌-◌, ◌<◌, ◌∷◌, ◌∙◌, get_or, length, sym, suc, arith}
use Rattle.std.proofs.lemmas.List.{get_or_default}
use Rattle.work_list.proofs.Chains.{empty_list, there, is_taken}
use Rattle.work_list.proofs.groups.take.Goals as goal

pub returns-then-number-eq0-clause-none : goal.returns-then-number-eq0-clause-none
returns-then-number-eq0-clause-none c =
    let read : c.index-number.result.now ≡ get_or c.args.heads.now.items c.args.place 0 = c.index-number.ensures ∙ get_or_default c.args.heads.now.items c.args.place c.index-number.result.now 0 c.requires.there in
    empty_list c.args.nodes.now.items c.args.heads.now.items c.args.place (omega (arith, read, c.if-number-eq0.true))

pub index-requires : goal.index-requires
index-requires c =
    let read : c.index-number.result.now ≡ get_or c.args.heads.now.items c.args.place 0 = c.index-number.ensures ∙ get_or_default c.args.heads.now.items c.args.place c.index-number.result.now 0 c.requires.there in
    omega (arith, read, c.args.nodes.now.ok, there c.args.nodes.now.items (c.args.free.now ∷ c.args.heads.now.items) c.requires.chains (suc c.args.place) (omega (arith, read, c.if-number-eq0.false)))

pub index_mut-requires : goal.index_mut-requires
index_mut-requires c =
    let read : c.index-number.result.now ≡ get_or c.args.heads.now.items c.args.place 0 = c.index-number.ensures ∙ get_or_default c.args.heads.now.items c.args.place c.index-number.result.now 0 c.requires.there in
    omega (arith, read, c.args.nodes.now.ok, there c.args.nodes.now.items (c.args.free.now ∷ c.args.heads.now.items) c.requires.chains (suc c.args.place) (omega (arith, read, c.if-number-eq0.false)))

pub returns-clause-chains : goal.returns-clause-chains
returns-clause-chains c =
    let read : c.index-number.result.now ≡ get_or c.args.heads.now.items c.args.place 0 = c.index-number.ensures ∙ get_or_default c.args.heads.now.items c.args.place c.index-number.result.now 0 c.requires.there in
    let low : c.index-number.result.now - 1 < length c.args.nodes.now.items = omega (arith, read, there c.args.nodes.now.items (c.args.free.now ∷ c.args.heads.now.items) c.requires.chains (suc c.args.place) (omega (arith, read, c.if-number-eq0.false))) in
    (is_taken c.args.nodes.now.items c.args.free.now c.args.heads.now.items c.args.place c.index-number.result.now c.index.result.now c.requires.chains (sym read) (omega (arith, c.if-number-eq0.false)) c.requires.there
    (c.index.ensures ∙ get_or_default c.args.nodes.now.items (c.index-number.result.now - 1) c.index.result.now (record { fact = 0; next = 0 }) low)).0

pub returns-clause-same : goal.returns-clause-same
returns-clause-same c =
    let read : c.index-number.result.now ≡ get_or c.args.heads.now.items c.args.place 0 = c.index-number.ensures ∙ get_or_default c.args.heads.now.items c.args.place c.index-number.result.now 0 c.requires.there in
    let low : c.index-number.result.now - 1 < length c.args.nodes.now.items = omega (arith, read, there c.args.nodes.now.items (c.args.free.now ∷ c.args.heads.now.items) c.requires.chains (suc c.args.place) (omega (arith, read, c.if-number-eq0.false))) in
    (is_taken c.args.nodes.now.items c.args.free.now c.args.heads.now.items c.args.place c.index-number.result.now c.index.result.now c.requires.chains (sym read) (omega (arith, c.if-number-eq0.false)) c.requires.there
    (c.index.ensures ∙ get_or_default c.args.nodes.now.items (c.index-number.result.now - 1) c.index.result.now (record { fact = 0; next = 0 }) low)).1

pub returns-clause-first : goal.returns-clause-first
returns-clause-first c =
    let read : c.index-number.result.now ≡ get_or c.args.heads.now.items c.args.place 0 = c.index-number.ensures ∙ get_or_default c.args.heads.now.items c.args.place c.index-number.result.now 0 c.requires.there in
    let low : c.index-number.result.now - 1 < length c.args.nodes.now.items = omega (arith, read, there c.args.nodes.now.items (c.args.free.now ∷ c.args.heads.now.items) c.requires.chains (suc c.args.place) (omega (arith, read, c.if-number-eq0.false))) in
    (is_taken c.args.nodes.now.items c.args.free.now c.args.heads.now.items c.args.place c.index-number.result.now c.index.result.now c.requires.chains (sym read) (omega (arith, c.if-number-eq0.false)) c.requires.there
    (c.index.ensures ∙ get_or_default c.args.nodes.now.items (c.index-number.result.now - 1) c.index.result.now (record { fact = 0; next = 0 }) low)).2
