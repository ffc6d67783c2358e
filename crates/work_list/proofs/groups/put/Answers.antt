use Rattle.std.proofs.Common.{◌-◌, ◌∷◌, ◌∙◌, arith}
use Rattle.std.proofs.lemmas.List.{get_or_default}
use Rattle.work_list.proofs.Chains.{there, is_put}
use Rattle.work_list.proofs.groups.put.Goals as goal

pub index-requires : goal.index-requires
index-requires c = omega (arith, c.args.nodes.now.ok, there c.args.nodes.now.items (c.args.free.now ∷ c.args.heads.now.items) c.requires.chains 0 c.requires.free)

pub index_mut-requires : goal.index_mut-requires
index_mut-requires c = omega (arith, c.args.nodes.now.ok, there c.args.nodes.now.items (c.args.free.now ∷ c.args.heads.now.items) c.requires.chains 0 c.requires.free)

pub returns-clause-chains : goal.returns-clause-chains
returns-clause-chains c =
    let low = there c.args.nodes.now.items (c.args.free.now ∷ c.args.heads.now.items) c.requires.chains 0 c.requires.free in
    (is_put c.args.nodes.now.items c.args.free.now c.args.heads.now.items c.args.place c.args.fact c.index.result.now c.index-2.result.now c.requires.chains c.requires.free c.requires.there
    (c.index.ensures ∙ get_or_default c.args.nodes.now.items (c.args.free.now - 1) c.index.result.now (record { fact = 0; next = 0 }) low)
    (c.index-2.ensures ∙ get_or_default c.args.heads.now.items c.args.place c.index-2.result.now 0 c.requires.there)).0

pub returns-clause-list : goal.returns-clause-list
returns-clause-list c =
    let low = there c.args.nodes.now.items (c.args.free.now ∷ c.args.heads.now.items) c.requires.chains 0 c.requires.free in
    (is_put c.args.nodes.now.items c.args.free.now c.args.heads.now.items c.args.place c.args.fact c.index.result.now c.index-2.result.now c.requires.chains c.requires.free c.requires.there
    (c.index.ensures ∙ get_or_default c.args.nodes.now.items (c.args.free.now - 1) c.index.result.now (record { fact = 0; next = 0 }) low)
    (c.index-2.ensures ∙ get_or_default c.args.heads.now.items c.args.place c.index-2.result.now 0 c.requires.there)).1
