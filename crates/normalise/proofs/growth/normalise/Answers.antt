use Rattle.std.proofs.Common.{sym, subst}
use Rattle.normalise.specs.Growth.{IsNormalFor}
use Rattle.normalise.proofs.Asking.{no_ontology, nothing_normal, nothing_grows}
use Rattle.normalise.proofs.growth.normalise.Goals as goal

pub returns-clause-forms : goal.returns-clause-forms
returns-clause-forms c = c.in_ok-extend.ensures.ok no_ontology (subst (IsNormalFor no_ontology) (sym c.in_ok-normal.ensures) nothing_normal) (nothing_grows c.args.ontology.now)
