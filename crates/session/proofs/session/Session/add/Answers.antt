use Rattle.std.proofs.Common.{◌∙◌}
use Rattle.session.proofs.Growing.{back, back_whole, grown_from}
use Rattle.session.proofs.session.Session.add.Goals as goal

pub extend-requires : goal.extend-requires
extend-requires c =
    let s = c.self.inside in
    let is = c.self.invariant in
    record { grown = grown_from s.version s.prefixes c.args.text.now s.ontology c.read_addition.new.ontology c.in-Ok.ensures.added c.lengths-old.result c.lengths-old.ensures is.taken.well_formed s.saturation is.sound }

pub truncate-requires : goal.truncate-requires
truncate-requires c =
    back_whole c.self.inside.version c.self.inside.prefixes c.args.text.now c.self.inside.ontology c.read_addition.new.ontology c.in-Ok.ensures.added c.lengths-old.result c.lengths-old.ensures c.self.invariant.taken.well_formed

-- what was added is taken back
pub invariant_of-self-in-Err-extend : goal.invariant_of-self-in-Err-extend
invariant_of-self-in-Err-extend c =
    let same = c.truncate.ensures ∙ back c.self.inside.version c.self.inside.prefixes c.args.text.now c.self.inside.ontology c.read_addition.new.ontology c.in-Ok.ensures.added c.lengths-old.result c.lengths-old.ensures c.self.invariant.taken.well_formed in
    rw (same, c.in-Err-extend.ensures.err) c.self.invariant
