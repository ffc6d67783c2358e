use Rattle.std.proofs.lemmas.Result.{on_ok_weaker}
use Rattle.inference.proofs.Owing.{loops_still}
use Rattle.saturate.proofs.extension.begun.Goals as goal

pub begin_more-requires-clause-entered : goal.begin_more-requires-clause-entered
begin_more-requires-clause-entered c = c.requires.entered c.in-Some.many c.in-Some.is

pub returns-in-Some : goal.returns-in-Some
returns-in-Some c = λ served entered.
    let s = c.begin_more.ensures.grows in
    record {
      grows = s;
      limit = c.begin_more.ensures.limit;
      full = c.begin_more.ensures.full;
      drawn = on_ok_weaker c.begin_more.result (λ given. record {
        grows = s;
        given = given;
        loops = λ n there f x at target top. loops_still s x ((entered c.in-Some.many c.in-Some.is).loops n there f x at target top);
      }) c.begin_more.ensures.drawn;
    }

pub returns-in-None : goal.returns-in-None
returns-in-None c = λ served entered. record {
  grows = c.begin_again.ensures.grows;
  limit = c.begin_again.ensures.limit;
  full = c.begin_again.ensures.full;
  drawn = on_ok_weaker c.begin_again.result (λ begun. record {
    grows = begun.grows;
    given = begun.given;
    loops = λ n there. begun.loops n;
  }) c.begin_again.ensures.drawn;
}
