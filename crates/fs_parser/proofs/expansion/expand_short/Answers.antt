use Rattle.std.proofs.Common.{Some, None, arith}
use Rattle.std.proofs.lemmas.Str.Pattern.{split_parts}
use Rattle.fs_parser.specs.KnownPrefixes.{known_of}
use Rattle.fs_parser.proofs.Steps.{short_some, short_unknown, short_none}
use Rattle.fs_parser.proofs.expansion.expand_short.Goals as goal

pub returns-in_err-name-clause-none : goal.returns-in_err-name-clause-none
returns-in_err-name-clause-none c =
    let free = split_parts 58 c.args.text.now None c.in_err-name.ensures.cases (omega arith) in
    rw c.from_residual.ensures (short_none (known_of c.args.known.now) c.args.text.now free)

pub returns-in_err-base-clause-none : goal.returns-in_err-base-clause-none
returns-in_err-base-clause-none c =
    let parts = split_parts 58 c.args.text.now (Some (c.in_ok-name.name, c.in_ok-name.local)) c.in_ok-name.ensures.cases (omega arith) in
    rw c.from_residual-in_err-base.ensures (short_unknown (known_of c.args.known.now) c.args.text.now c.in_ok-name.name.now c.in_ok-name.local.now parts.0 parts.1 c.in_err-base.ensures.none)

pub returns-clause-some : goal.returns-clause-some
returns-clause-some c =
    let parts = split_parts 58 c.args.text.now (Some (c.in_ok-name.name, c.in_ok-name.local)) c.in_ok-name.ensures.cases (omega arith) in
    short_some (known_of c.args.known.now) c.args.text.now c.in_ok-name.name.now c.in_ok-name.local.now c.in_ok-base.base.now parts.0 parts.1 c.in_ok-base.ensures.some
