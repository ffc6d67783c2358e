use Rattle.std.proofs.Common.{map, sym, ◌∙◌}
use Rattle.fs_lexer.specs.Views.{token_of}
use Rattle.fs_parser.specs.KnownPrefixes.{known_of}
use Rattle.fs_parser.specs.State.{state_of}
use Rattle.fs_parser.specs.View.{tree_of}
use Rattle.fs_parser.proofs.Streams.{next_between, ended_by}
use Rattle.fs_parser.proofs.stream.trees_behind.Goals as goal

pub loop-token-preserved : goal.loop-token-preserved
loop-token-preserved c =
    next_between c.args.text.now c.args.start c.loop-token.from c.in-Some.behind (known_of c.args.known.now) c.requires.one (state_of c.loop-token.state) (state_of c.take.new.state)
    (token_of c.in-Some.token) c.expand.result c.loop-token.invariant c.in-Some.ensures.within c.in-Some.ensures.read c.expand.ensures.some c.expand.ensures.none c.in-Ok.ensures.given

pub returns-then-is_ended_by : goal.returns-then-is_ended_by
returns-then-is_ended_by c =
    ended_by (λ v. map tree_of v.items) c.whole_trees.result c.args.text.now c.args.start c.loop-token.from c.in-Some.behind (known_of c.args.known.now) (state_of c.loop-token.state)
    (token_of c.in-Some.token) c.loop-token.invariant c.in-Some.ensures.read (sym c.is_ended_by.ensures ∙ c.if-is_ended_by.true) c.whole_trees.ensures
