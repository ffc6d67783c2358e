use Rattle.std.proofs.Common.{◌-◌, length}
use Rattle.fs_parser.specs.View.{prefixes_of_code}
use Rattle.fs_parser.proofs.Documents.{HasRead}
use Rattle.fs_parser.proofs.document.forms.Given as goal

-- what was read are declarations that are allowed
abbrev pub invariant-declarations : goal.invariant-declarations
invariant-declarations l = HasRead l.tokens l.read (prefixes_of_code l.known.declared.items)

abbrev pub decreases-declarations : goal.decreases-declarations
decreases-declarations l = length l.tokens - l.read
