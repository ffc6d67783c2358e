use Rattle.std.proofs.Common.{All, ℕ, Contains, ◌<◌, map, List, sym, subst}
use Rattle.std.proofs.lemmas.List.{length-map}
use Rattle.std.specs.String.{string_bytes}
use Rattle.axioms.specs.Expression.{Iri}
use Rattle.answers.specs.Names.{AreNamesOf}
use Rattle.answers.proofs.Naming.{in_order, numbered}
use Rattle.answers.proofs.names.names_of.Goals as goal

pub returns : goal.returns
returns c =
    let names = map string_bytes c.args.names.now in
    let numbers = c.args.numbers.now in
    let within = subst (λ (k : ℕ). All (λ n. n < k) numbers) (sym (length-map c.args.names.now string_bytes)) c.requires.within in
    in_order names (Contains numbers) c.in_ok-named.named.items c.sort.new.self.items
    (subst (λ (found : List Iri). AreNamesOf names (Contains numbers) found) (sym c.in_ok-named.ensures) (numbered names numbers c.requires.distinct c.requires.once within)) c.sort.ensures.permutation c.in_ok-sort.ensures.sorted
