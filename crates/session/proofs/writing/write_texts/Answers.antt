use Rattle.std.proofs.Common.{◌≡◌, ◌∙◌, sym, refl, true, false, is_err}
use Rattle.session.proofs.Outcomes.{takes, fails}
use Rattle.telling.specs.Devices.{Device}
use Rattle.session.proofs.writing.write_texts.Goals as goal

pub returns-then-is_err-clause-written : goal.returns-then-is_err-clause-written
returns-then-is_err-clause-written g c =
    let t : Device = (g.T.Sink.taken c.args.taxonomy.now, g.T.Sink.failures c.args.taxonomy.now) in
    let t' : Device = (g.T.Sink.taken c.write_all.new.sink, g.T.Sink.failures c.write_all.new.sink) in
    let err : is_err c.write_all.result ≡ true = sym c.is_err.ensures.value ∙ c.if-is_err.true in (
      fails c.write_all.result t t' c.deref.result.now c.args.made.now.taxonomy.items c.deref.ensures.value err c.write_all.ensures.begun c.write_all.ensures.failed,
      refl,
      refl,
    )

pub returns-then-is_err-2-clause-written : goal.returns-then-is_err-2-clause-written
returns-then-is_err-2-clause-written g c =
    let t : Device = (g.T.Sink.taken c.args.taxonomy.now, g.T.Sink.failures c.args.taxonomy.now) in
    let t' : Device = (g.T.Sink.taken c.write_all.new.sink, g.T.Sink.failures c.write_all.new.sink) in
    let i : Device = (g.I.Sink.taken c.args.instances.now, g.I.Sink.failures c.args.instances.now) in
    let i' : Device = (g.I.Sink.taken c.write_all-2.new.sink, g.I.Sink.failures c.write_all-2.new.sink) in
    let ok : is_err c.write_all.result ≡ false = sym c.is_err.ensures.value ∙ c.if-is_err.false in
    let err : is_err c.write_all-2.result ≡ true = sym c.is_err-2.ensures.value ∙ c.if-is_err-2.true in (
      takes c.write_all.result t t' c.deref.result.now c.args.made.now.taxonomy.items c.deref.ensures.value ok c.write_all.ensures.ok c.write_all.ensures.unfailed,
      fails c.write_all-2.result i i' c.deref-2.result.now c.args.made.now.instances.items c.deref-2.ensures.value err c.write_all-2.ensures.begun c.write_all-2.ensures.failed,
      refl,
    )

pub returns-then-is_err-3-clause-written : goal.returns-then-is_err-3-clause-written
returns-then-is_err-3-clause-written g c =
    let t : Device = (g.T.Sink.taken c.args.taxonomy.now, g.T.Sink.failures c.args.taxonomy.now) in
    let t' : Device = (g.T.Sink.taken c.write_all.new.sink, g.T.Sink.failures c.write_all.new.sink) in
    let i : Device = (g.I.Sink.taken c.args.instances.now, g.I.Sink.failures c.args.instances.now) in
    let i' : Device = (g.I.Sink.taken c.write_all-2.new.sink, g.I.Sink.failures c.write_all-2.new.sink) in
    let k : Device = (g.C.Sink.taken c.args.certificate.now, g.C.Sink.failures c.args.certificate.now) in
    let k' : Device = (g.C.Sink.taken c.write_all-3.new.sink, g.C.Sink.failures c.write_all-3.new.sink) in
    let ok : is_err c.write_all.result ≡ false = sym c.is_err.ensures.value ∙ c.if-is_err.false in
    let ok-2 : is_err c.write_all-2.result ≡ false = sym c.is_err-2.ensures.value ∙ c.if-is_err-2.false in
    let err : is_err c.write_all-3.result ≡ true = sym c.is_err-3.ensures.value ∙ c.if-is_err-3.true in (
      takes c.write_all.result t t' c.deref.result.now c.args.made.now.taxonomy.items c.deref.ensures.value ok c.write_all.ensures.ok c.write_all.ensures.unfailed,
      takes c.write_all-2.result i i' c.deref-2.result.now c.args.made.now.instances.items c.deref-2.ensures.value ok-2 c.write_all-2.ensures.ok c.write_all-2.ensures.unfailed,
      fails c.write_all-3.result k k' c.deref-3.result.now c.args.made.now.certificate.items c.deref-3.ensures.value err c.write_all-3.ensures.begun c.write_all-3.ensures.failed,
    )

pub returns-clause-written : goal.returns-clause-written
returns-clause-written g c =
    let t : Device = (g.T.Sink.taken c.args.taxonomy.now, g.T.Sink.failures c.args.taxonomy.now) in
    let t' : Device = (g.T.Sink.taken c.write_all.new.sink, g.T.Sink.failures c.write_all.new.sink) in
    let i : Device = (g.I.Sink.taken c.args.instances.now, g.I.Sink.failures c.args.instances.now) in
    let i' : Device = (g.I.Sink.taken c.write_all-2.new.sink, g.I.Sink.failures c.write_all-2.new.sink) in
    let k : Device = (g.C.Sink.taken c.args.certificate.now, g.C.Sink.failures c.args.certificate.now) in
    let k' : Device = (g.C.Sink.taken c.write_all-3.new.sink, g.C.Sink.failures c.write_all-3.new.sink) in
    let ok : is_err c.write_all.result ≡ false = sym c.is_err.ensures.value ∙ c.if-is_err.false in
    let ok-2 : is_err c.write_all-2.result ≡ false = sym c.is_err-2.ensures.value ∙ c.if-is_err-2.false in
    let ok-3 : is_err c.write_all-3.result ≡ false = sym c.is_err-3.ensures.value ∙ c.if-is_err-3.false in (
      takes c.write_all.result t t' c.deref.result.now c.args.made.now.taxonomy.items c.deref.ensures.value ok c.write_all.ensures.ok c.write_all.ensures.unfailed,
      takes c.write_all-2.result i i' c.deref-2.result.now c.args.made.now.instances.items c.deref-2.ensures.value ok-2 c.write_all-2.ensures.ok c.write_all-2.ensures.unfailed,
      takes c.write_all-3.result k k' c.deref-3.result.now c.args.made.now.certificate.items c.deref-3.ensures.value ok-3 c.write_all-3.ensures.ok c.write_all-3.ensures.unfailed,
    )
