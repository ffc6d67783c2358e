use Rattle.std.proofs.Common.{sym, subst}
use Rattle.std.specs.Result.{IfErr, IfOk}
use Rattle.fs_parser.specs.Faults.{last_place}
use Rattle.fs_parser.specs.KnownPrefixes.{known_of}
use Rattle.fs_parser.specs.Name.{Prefixes, StandForOne}
use Rattle.fs_parser.specs.FaultMeanings.{IsSaidOfTrees}
use Rattle.fs_parser.specs.State.{IsRefusal}
use Rattle.fs_parser.specs.Tree.{Tree, IsShallow}
use Rattle.fs_parser.specs.View.{tokens_of, tree_of}
use Rattle.fs_parser.proofs.ToEnd.{refused_by}
use Rattle.fs_parser.proofs.parts.expression.Goals as goal

pub tree_to_end-requires : goal.tree_to_end-requires
tree_to_end-requires c = subst StandForOne (sym c.in_ok-known.ensures) c.stand_for_one.ensures

pub returns-clause-found : goal.returns-clause-found
returns-clause-found c =
    subst (λ (ps : Prefixes). IfOk c.tree_to_end.result (λ t. IsShallow 63 ps (tree_of t) (tokens_of c.args.tokens.now))) c.in_ok-known.ensures c.tree_to_end.ensures.found

pub returns-clause-refused : goal.returns-clause-refused
returns-clause-refused c =
    subst (λ (ps : Prefixes). IfErr c.tree_to_end.result (λ e. IsRefusal e → (tree : Tree) → IsShallow 63 ps tree (tokens_of c.args.tokens.now) → ⊥)) c.in_ok-known.ensures
    (refused_by tree_of c.tree_to_end.result (λ t. IsShallow 63 _ t (tokens_of c.args.tokens.now)) c.tree_to_end.ensures.only)

pub returns-clause-placed : goal.returns-clause-placed
returns-clause-placed c =
    let all = tokens_of c.args.tokens.now in
    let placed = subst (λ here. IfErr c.tree_to_end.result (IsSaidOfTrees 63 here (known_of c.in_ok-known.known) all)) c.end_of.ensures c.tree_to_end.ensures.said in
    subst (λ (ps : Prefixes). IfErr c.tree_to_end.result (IsSaidOfTrees 63 (last_place all) ps all)) c.in_ok-known.ensures placed
