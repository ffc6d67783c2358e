use Rattle.std.proofs.Common.{◌≡◌, drop, length, sym, ap, ◌∙◌}
use Rattle.std.proofs.Math.Seq.{drop-append_seam}
use Rattle.std.proofs.lemmas.List.{length-map}
use Rattle.axioms.specs.View.{axiom_of}
use Rattle.entailment.proofs.Stated.{behind_is}
use Rattle.entailment.proofs.following.stated_more.Goals as goal

pub returns : goal.returns
returns c =
    let known = c.args.known.now.axioms in
    let many : length c.axioms-2.result.now ≡ length known = sym (length-map c.axioms-2.result.now axiom_of) ∙ ap length c.axioms-2.ensures in
    behind_is axiom_of known c.args.stated.now.axioms c.requires.axioms.0 c.axioms.result.now (length c.axioms-2.result.now) c.axioms.ensures c.requires.axioms.1 many
    ∙ sym (ap (drop (length known)) c.requires.axioms.1 ∙ drop-append_seam known c.requires.axioms.0)
