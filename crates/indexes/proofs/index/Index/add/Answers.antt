use Rattle.std.proofs.Common.{refl, sym, true≢false, ◌∙◌}
use Rattle.indexes.specs.FactIndex.{IsIn, IsFrom, IsInto, IsSecondFrom, IsFillerIn}
use Rattle.indexes.proofs.Adding.{unlisted, tried, listed, here}
use Rattle.indexes.proofs.index.Index.add.Goals as goal

pub returns-in_err-add-in-Edge-2-clause-may : goal.returns-in_err-add-in-Edge-2-clause-may
returns-in_err-add-in-Edge-2-clause-may c = rw c.in-Edge.is (record {
  classes = unlisted IsIn c.args.self.now.classes c.args.number _;
  from = listed IsFrom c.args.self.now.from c.add-in-Edge.new.self c.in-Edge.x c.args.number _ c.in_ok-add-in-Edge.ensures.ok c.in_ok-add-in-Edge.ensures.last refl;
  into = tried IsInto c.args.self.now.into c.add-in-Edge-2.new.self c.args.number _ c.in_err-add-in-Edge-2.ensures.err;
  second_premises = unlisted (IsSecondFrom c.args.is_second) c.args.self.now.second_premises c.args.number _;
  fillers = unlisted (IsFillerIn c.args.is_filler) c.args.self.now.fillers c.args.number _;
})

pub returns-in_err-add-in-Edge-3-clause-may : goal.returns-in_err-add-in-Edge-3-clause-may
returns-in_err-add-in-Edge-3-clause-may c = rw c.in-Edge.is (record {
  classes = unlisted IsIn c.args.self.now.classes c.args.number _;
  from = listed IsFrom c.args.self.now.from c.add-in-Edge.new.self c.in-Edge.x c.args.number _ c.in_ok-add-in-Edge.ensures.ok c.in_ok-add-in-Edge.ensures.last refl;
  into = listed IsInto c.args.self.now.into c.add-in-Edge-2.new.self c.in-Edge.y c.args.number _ c.in_ok-add-in-Edge-2.ensures.ok c.in_ok-add-in-Edge-2.ensures.last refl;
  second_premises = tried (IsSecondFrom c.args.is_second) c.args.self.now.second_premises c.add-then-is_second.new.self c.args.number _ c.in_err-add-in-Edge-3.ensures.err;
  fillers = unlisted (IsFillerIn c.args.is_filler) c.args.self.now.fillers c.args.number _;
})

pub returns-in_ok-add-in-Edge-3-clause-may : goal.returns-in_ok-add-in-Edge-3-clause-may
returns-in_ok-add-in-Edge-3-clause-may c = rw c.in-Edge.is (record {
  classes = unlisted IsIn c.args.self.now.classes c.args.number _;
  from = listed IsFrom c.args.self.now.from c.add-in-Edge.new.self c.in-Edge.x c.args.number _ c.in_ok-add-in-Edge.ensures.ok c.in_ok-add-in-Edge.ensures.last refl;
  into = listed IsInto c.args.self.now.into c.add-in-Edge-2.new.self c.in-Edge.y c.args.number _ c.in_ok-add-in-Edge-2.ensures.ok c.in_ok-add-in-Edge-2.ensures.last refl;
  second_premises = listed (IsSecondFrom c.args.is_second) c.args.self.now.second_premises c.add-then-is_second.new.self c.in-Edge.x c.args.number _ c.in_ok-add-in-Edge-3.ensures.ok c.in_ok-add-in-Edge-3.ensures.last (c.if-is_second.true, refl);
  fillers = unlisted (IsFillerIn c.args.is_filler) c.args.self.now.fillers c.args.number _;
})

pub returns-in_ok-add-in-Edge-3-clause-ok : goal.returns-in_ok-add-in-Edge-3-clause-ok
returns-in_ok-add-in-Edge-3-clause-ok c = rw c.in-Edge.is (record {
  classes = λ x h. absurd h;
  from = here c.args.self.now.from c.add-in-Edge.new.self c.in-Edge.x c.args.number c.in_ok-add-in-Edge.ensures.ok;
  into = here c.args.self.now.into c.add-in-Edge-2.new.self c.in-Edge.y c.args.number c.in_ok-add-in-Edge-2.ensures.ok;
  second_premises = λ x h. here c.args.self.now.second_premises c.add-then-is_second.new.self c.in-Edge.x c.args.number c.in_ok-add-in-Edge-3.ensures.ok x h.1;
  fillers = λ x h. absurd h.1;
})

pub returns-else-is_second-clause-may : goal.returns-else-is_second-clause-may
returns-else-is_second-clause-may c = rw c.in-Edge.is (record {
  classes = unlisted IsIn c.args.self.now.classes c.args.number _;
  from = listed IsFrom c.args.self.now.from c.add-in-Edge.new.self c.in-Edge.x c.args.number _ c.in_ok-add-in-Edge.ensures.ok c.in_ok-add-in-Edge.ensures.last refl;
  into = listed IsInto c.args.self.now.into c.add-in-Edge-2.new.self c.in-Edge.y c.args.number _ c.in_ok-add-in-Edge-2.ensures.ok c.in_ok-add-in-Edge-2.ensures.last refl;
  second_premises = unlisted (IsSecondFrom c.args.is_second) c.args.self.now.second_premises c.args.number _;
  fillers = unlisted (IsFillerIn c.args.is_filler) c.args.self.now.fillers c.args.number _;
})

pub returns-else-is_second-clause-ok : goal.returns-else-is_second-clause-ok
returns-else-is_second-clause-ok c = rw c.in-Edge.is (record {
  classes = λ x h. absurd h;
  from = here c.args.self.now.from c.add-in-Edge.new.self c.in-Edge.x c.args.number c.in_ok-add-in-Edge.ensures.ok;
  into = here c.args.self.now.into c.add-in-Edge-2.new.self c.in-Edge.y c.args.number c.in_ok-add-in-Edge-2.ensures.ok;
  second_premises = λ x h. absurd (true≢false (sym h.0 ∙ c.if-is_second.false));
  fillers = λ x h. absurd h.1;
})

pub returns-in_err-add-in-In-2-clause-may : goal.returns-in_err-add-in-In-2-clause-may
returns-in_err-add-in-In-2-clause-may c = rw c.in-In.is (record {
  classes = listed IsIn c.args.self.now.classes c.add.new.self c.in-In.x c.args.number _ c.in_ok-add-in-In.ensures.ok c.in_ok-add-in-In.ensures.last refl;
  from = unlisted IsFrom c.args.self.now.from c.args.number _;
  into = unlisted IsInto c.args.self.now.into c.args.number _;
  second_premises = unlisted (IsSecondFrom c.args.is_second) c.args.self.now.second_premises c.args.number _;
  fillers = tried (IsFillerIn c.args.is_filler) c.args.self.now.fillers c.add-then-is_filler.new.self c.args.number _ c.in_err-add-in-In-2.ensures.err;
})

pub returns-in_ok-add-in-In-2-clause-may : goal.returns-in_ok-add-in-In-2-clause-may
returns-in_ok-add-in-In-2-clause-may c = rw c.in-In.is (record {
  classes = listed IsIn c.args.self.now.classes c.add.new.self c.in-In.x c.args.number _ c.in_ok-add-in-In.ensures.ok c.in_ok-add-in-In.ensures.last refl;
  from = unlisted IsFrom c.args.self.now.from c.args.number _;
  into = unlisted IsInto c.args.self.now.into c.args.number _;
  second_premises = unlisted (IsSecondFrom c.args.is_second) c.args.self.now.second_premises c.args.number _;
  fillers = listed (IsFillerIn c.args.is_filler) c.args.self.now.fillers c.add-then-is_filler.new.self c.in-In.x c.args.number _ c.in_ok-add-in-In-2.ensures.ok c.in_ok-add-in-In-2.ensures.last (c.if-is_filler.true, refl);
})

pub returns-in_ok-add-in-In-2-clause-ok : goal.returns-in_ok-add-in-In-2-clause-ok
returns-in_ok-add-in-In-2-clause-ok c = rw c.in-In.is (record {
  classes = here c.args.self.now.classes c.add.new.self c.in-In.x c.args.number c.in_ok-add-in-In.ensures.ok;
  from = λ x h. absurd h;
  into = λ x h. absurd h;
  second_premises = λ x h. absurd h.1;
  fillers = λ x h. here c.args.self.now.fillers c.add-then-is_filler.new.self c.in-In.x c.args.number c.in_ok-add-in-In-2.ensures.ok x h.1;
})

pub returns-else-is_filler-clause-may : goal.returns-else-is_filler-clause-may
returns-else-is_filler-clause-may c = rw c.in-In.is (record {
  classes = listed IsIn c.args.self.now.classes c.add.new.self c.in-In.x c.args.number _ c.in_ok-add-in-In.ensures.ok c.in_ok-add-in-In.ensures.last refl;
  from = unlisted IsFrom c.args.self.now.from c.args.number _;
  into = unlisted IsInto c.args.self.now.into c.args.number _;
  second_premises = unlisted (IsSecondFrom c.args.is_second) c.args.self.now.second_premises c.args.number _;
  fillers = unlisted (IsFillerIn c.args.is_filler) c.args.self.now.fillers c.args.number _;
})

pub returns-else-is_filler-clause-ok : goal.returns-else-is_filler-clause-ok
returns-else-is_filler-clause-ok c = rw c.in-In.is (record {
  classes = here c.args.self.now.classes c.add.new.self c.in-In.x c.args.number c.in_ok-add-in-In.ensures.ok;
  from = λ x h. absurd h;
  into = λ x h. absurd h;
  second_premises = λ x h. absurd h.1;
  fillers = λ x h. absurd (true≢false (sym h.0 ∙ c.if-is_filler.false));
})
