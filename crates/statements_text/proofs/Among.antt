-- One of the trees of a document.
use Rattle.std.proofs.Common.{inl, inr, sym, subst}
use Rattle.fs_parser.specs.Tree.{Tree, Trees, Empty, Then}
use Rattle.profile.proofs.TreeNames.{HasNames, HaveNames}
use Rattle.statements_text.specs.TreeTerms.{IsAmong}

-- its names can be spelled
pub among_names : (ts : Trees) (t : Tree) → IsAmong ts t → HaveNames ts → HasNames t
among_names Empty t among h = absurd among
among_names (Then first rest) t (inl e) h = subst HasNames (sym e) h.0
among_names (Then first rest) t (inr among) h = among_names rest t among h.1
