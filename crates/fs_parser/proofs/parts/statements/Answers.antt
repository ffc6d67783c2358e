use Rattle.std.proofs.Common.{sym, subst}
use Rattle.std.specs.Result.{IfErr, IfOk}
use Rattle.fs_parser.specs.Faults.{last_place}
use Rattle.fs_parser.specs.KnownPrefixes.{known_of}
use Rattle.fs_parser.specs.Name.{Prefixes, StandForOne}
use Rattle.fs_parser.specs.FaultMeanings.{IsSaidOfTrees}
use Rattle.fs_parser.specs.State.{IsRefusal}
use Rattle.fs_parser.specs.Tree.{Trees, AreShallow}
use Rattle.fs_parser.specs.View.{tokens_of, trees_of}
use Rattle.fs_parser.proofs.ToEnd.{refused_by}
use Rattle.fs_parser.proofs.parts.statements.Goals as goal

pub trees_to_end-requires : goal.trees_to_end-requires
trees_to_end-requires c = subst StandForOne (sym c.in_ok-known.ensures) c.stand_for_one.ensures

pub returns-clause-found : goal.returns-clause-found
returns-clause-found c =
    subst (λ (ps : Prefixes). IfOk c.trees_to_end.result (λ v. AreShallow 64 ps (trees_of v.items) (tokens_of c.args.tokens.now))) c.in_ok-known.ensures c.trees_to_end.ensures.found

pub returns-clause-refused : goal.returns-clause-refused
returns-clause-refused c =
    subst (λ (ps : Prefixes). IfErr c.trees_to_end.result (λ e. IsRefusal e → (trees : Trees) → AreShallow 64 ps trees (tokens_of c.args.tokens.now) → ⊥)) c.in_ok-known.ensures
    (refused_by (λ v. trees_of v.items) c.trees_to_end.result (λ ts. AreShallow 64 _ ts (tokens_of c.args.tokens.now)) c.trees_to_end.ensures.only)

pub returns-clause-placed : goal.returns-clause-placed
returns-clause-placed c =
    let all = tokens_of c.args.tokens.now in
    let placed = subst (λ here. IfErr c.trees_to_end.result (IsSaidOfTrees 64 here (known_of c.in_ok-known.known) all)) c.end_of.ensures c.trees_to_end.ensures.said in
    subst (λ (ps : Prefixes). IfErr c.trees_to_end.result (IsSaidOfTrees 64 (last_place all) ps all)) c.in_ok-known.ensures placed
