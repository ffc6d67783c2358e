use Rattle.std.proofs.Common.{◌≡◌, Some, length, map, slice_get}
use Rattle.std.specs.String.{string_bytes}
use Rattle.axioms.specs.declared.terms.Kind.TheVariants as kinds
use Rattle.session.proofs.NewNames.{each_some, told_new}
use Rattle.session.specs.Entailments.{IsNewName}
use Rattle.session.proofs.entailing.new_name.Goals as goal

pub returns-clause-some : goal.returns-clause-some
returns-clause-some c =
    let old = c.args.old.now in
    let new = c.args.new.now in
    let names = map string_bytes c.individuals.result.now in
    let count = length c.individuals-2.result.now in
    each_some c.first_behind-3.result (λ name. slice_get names count ≡ Some name.now) (λ name. IsNewName old new name.now)
    (λ name at. told_new old new c.requires c.well_formed-2.ensures kinds.Individual names count c.individuals.ensures.names c.individuals-2.ensures.count name.now at) c.first_behind-3.ensures.some
