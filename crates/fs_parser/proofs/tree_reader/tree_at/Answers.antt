use Rattle.std.proofs.Common.{refl}
use Rattle.fs_lexer.specs.Views.{token_of}
use Rattle.fs_parser.specs.KnownPrefixes.{known_of}
use Rattle.fs_parser.specs.State.{state_of}
use Rattle.fs_parser.specs.View.{tree_of}
use Rattle.fs_parser.proofs.TreeReading.{next_within, tree_read}
use Rattle.fs_parser.proofs.tree_reader.tree_at.Goals as goal

pub returns-in-Some-literal_before : goal.returns-in-Some-literal_before
returns-in-Some-literal_before c =
    tree_read c.args.text.now c.args.start c.loop-token.from (known_of c.args.known.now) (state_of c.loop-token.state) (tree_of c.in-Some-literal_before.literal) c.loop-token.invariant c.in-Some-literal_before.ensures

pub returns-in-Some-whole_tree : goal.returns-in-Some-whole_tree
returns-in-Some-whole_tree c =
    let prefixes = known_of c.args.known.now in
    let s = state_of c.take.new.state in
    tree_read c.args.text.now c.args.start c.in-Some.behind prefixes s (tree_of c.in-Some-whole_tree.tree)
    (next_within c.args.text.now c.args.start c.loop-token.from c.in-Some.behind prefixes c.requires.one (state_of c.loop-token.state) s s (token_of c.in-Some.token) c.expand.result
    c.loop-token.invariant c.in-Some.ensures.within c.in-Some.ensures.read c.expand.ensures.some c.expand.ensures.none c.in-Ok.ensures.given c.in-Some.ensures.later refl)
    c.in-Some-whole_tree.ensures.whole

pub loop-token-preserved : goal.loop-token-preserved
loop-token-preserved c =
    next_within c.args.text.now c.args.start c.loop-token.from c.in-Some.behind (known_of c.args.known.now) c.requires.one (state_of c.loop-token.state) (state_of c.take.new.state) (state_of c.whole_tree.new.state)
    (token_of c.in-Some.token) c.expand.result c.loop-token.invariant c.in-Some.ensures.within c.in-Some.ensures.read c.expand.ensures.some c.expand.ensures.none c.in-Ok.ensures.given c.in-Some.ensures.later
    c.in_default-whole_tree.ensures.unfinished
