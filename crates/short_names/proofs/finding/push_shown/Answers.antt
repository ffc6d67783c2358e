use Rattle.std.proofs.lemmas.Result.{on_ok_weaker}
use Rattle.short_names.specs.Found.{pairs_of}
use Rattle.short_names.proofs.Choosing.{appended}
use Rattle.short_names.proofs.finding.push_shown.Goals as goal

pub returns : goal.returns
returns c =
    on_ok_weaker c.push_found.result
    (λ e. appended (pairs_of c.args.prefixes.now) c.args.inside.now c.args.out.now.items c.push_found.new.out.items c.short_name.result c.short_name.ensures e) c.push_found.ensures
