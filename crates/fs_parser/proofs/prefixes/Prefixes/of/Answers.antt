use Rattle.std.proofs.Common.{◌++◌, ap, sym, subst}
use Rattle.fs_parser.specs.Name.{Prefixes, StandForOne, StandForSpelled, standard_prefixes}
use Rattle.fs_parser.specs.View.{prefixes_of_code}
use Rattle.fs_parser.proofs.TokenNames.{both_bases, code_bases, standard_bases}
use Rattle.fs_parser.proofs.prefixes.Prefixes.of.Goals as goal

pub invariant_of-result : goal.invariant_of-result
invariant_of-result c =
    let declared = c.args.declared.now in
    let all = sym (ap (λ (ds : Prefixes). standard_prefixes ++ ds) c.in_ok-owned_list.ensures) in
    (subst StandForOne all c.requires, subst StandForSpelled all (both_bases standard_prefixes (prefixes_of_code declared) standard_bases (code_bases declared)))
