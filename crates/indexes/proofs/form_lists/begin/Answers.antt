use Rattle.std.proofs.Common.{◌≡◌, ◌++◌, ◌∷◌, [], ℕ, List, ap, ◌∙◌}
use Rattle.std.specs.List.{insert}
use Rattle.indexes.specs.declared.keys.Key.{Key}
use Rattle.indexes.proofs.Changing.{inserted_long, push_one, push_used}
use Rattle.indexes.proofs.form_lists.begin.Goals.{In-Ok}
use Rattle.indexes.proofs.form_lists.begin.Goals as goal

is : (c : In-Ok) → c.push.new.self.items ≡ c.args.changed.now.items ++ (c.args.key, insert c.args.numbers.now c.args.many c.args.number) ∷ []
is c = c.in-Ok.ensures.items ∙ ap (λ (d : Key × List ℕ). c.args.changed.now.items ++ d ∷ []) c.in_ok-list.ensures

pub returns-clause-ok : goal.returns-clause-ok
returns-clause-ok c = push_one c.args.changed.now.items c.push.new.self.items c.args.key (insert c.args.numbers.now c.args.many c.args.number) c.requires.none (is c)

pub returns-clause-used : goal.returns-clause-used
returns-clause-used c = push_used c.args.changed.now.items c.push.new.self.items (c.args.key, insert c.args.numbers.now c.args.many c.args.number) (is c) (inserted_long c.args.numbers.now c.args.many c.args.number c.requires.within)

pub returns-clause-elsewhere : goal.returns-clause-elsewhere
returns-clause-elsewhere c = (push_one c.args.changed.now.items c.push.new.self.items c.args.key (insert c.args.numbers.now c.args.many c.args.number) c.requires.none (is c)).elsewhere
