use Rattle.std.proofs.Common.{◌≡◌, ◌∷◌, [], ◌++◌, List, length, sym, ap, subst, arith}
use Rattle.std.proofs.lemmas.List.{length_push}
use Rattle.number_sets.specs.Pieces.{list_at}
use Rattle.number_sets.proofs.Members.{each_more}
use Rattle.explain.specs.declared.told.Told.{Told}
use Rattle.explain.specs.Search.{AreToldOf, LeadsUp}
use Rattle.explain.proofs.Telling.{all_lists}
use Rattle.explain.proofs.told.all_told.Goals as goal

pub loop-number-preserved : goal.loop-number-preserved
loop-number-preserved c =
    let Leads = LeadsUp c.args.problem.now.forms in
    let before = c.loop-number.invariant in
    let lists = c.loop-number.told in
    let number = c.loop-number.number in
    let list = c.deref.result.now in
    let is : c.push_list.new.self ≡ lists ++ list ∷ [] = c.in_ok-push_list.ensures.ok in
    let last : AreToldOf Leads number list = subst (AreToldOf Leads number) (sym c.deref.ensures.value) c.in_ok-list.ensures in record {
      long = omega (arith, ap length is, length_push lists list, before.long);
      each = λ r low. subst (λ (l : List (List Told)). AreToldOf Leads r (list_at l r)) (sym is) (each_more (AreToldOf Leads) lists list number before.long before.each last r low);
    }

pub returns : goal.returns
returns c =
    all_lists (LeadsUp c.args.problem.now.forms) c.args.properties c.loop-number.told c.requires.within
    (omega (arith, c.loop-number.invariant.long, c.loop-number-test.false, c.loop-number.auto.number-end))
    (λ r low. c.loop-number.invariant.each r (omega (arith, low, c.loop-number-test.false)))
