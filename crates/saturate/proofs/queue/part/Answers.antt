use Rattle.std.proofs.Common.{length, ap, ◌∙◌, arith}
use Rattle.saturate.proofs.Parting.{many_asked, many_kept, put_behind}
use Rattle.saturate.proofs.queue.part.Goals as goal

pub copy_from_slice-requires : goal.copy_from_slice-requires
copy_from_slice-requires c =
    let so = c.gather_kept-kept.ensures in
    omega (arith, many_asked c.args.flags.now c.args.numbers.now c.gather_kept-kept.new.numbers c.gather_kept-kept.result c.args.served so.kept so.few so.long c.requires.served, ap length c.deref.ensures.value, ap length so.again, so.long, so.few, c.requires.served)

pub returns-clause-parted : goal.returns-clause-parted
returns-clause-parted c =
    let so = c.gather_kept-kept.ensures in
    put_behind c.args.flags.now c.args.numbers.now c.gather_kept-kept.new.numbers c.gather_kept-kept.result c.args.served so.kept so.few so.long c.requires.served c.copy_from_slice.new.self (c.copy_from_slice.ensures.after ∙ c.deref.ensures.value ∙ so.again) so.rest

pub returns-clause-kept : goal.returns-clause-kept
returns-clause-kept c =
    let so = c.gather_kept-kept.ensures in
    many_kept c.args.flags.now c.args.numbers.now c.gather_kept-kept.new.numbers c.gather_kept-kept.result c.args.served so.kept so.few so.long c.requires.served
