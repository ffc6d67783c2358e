-- What files hold once the sinks of the three texts are closed.
use Rattle.std.proofs.Common.{◌≡◌, ◌∙◌, ◌<◌, ℕ, zero, suc, List, [], Bool, true, false, Option, Some, refl, sym, ap, subst}
use Rattle.std.specs.Str.{bytes_eq}
use Rattle.std.proofs.lemmas.Slice.Eq.{bytes_eq-Decides}
use Rattle.cli.proofs.Blamed.{AreCounted, AreWorking}
use Rattle.cli.specs.FileSinks.{HasFresh, HaveNotFailed}
use Rattle.command_line.specs.declared.tasks.Paths.{Paths}
use Rattle.device.specs.Device.{HasFailed}
use Rattle.device.specs.declared.device.Sink as sinks
use Rattle.cli.specs.HeldTexts.{AreApart, AreOthersKept, HoldTexts, HoldTextsUntil}
use Rattle.receiving.specs.HeldTexts.{Stays}
use Rattle.session.specs.WrittenTexts.{AreWritten, AreWrittenUntil, KeepPaths, Sinks, Texts, all_seen}
use Rattle.system_files.specs.Contents.{AreKept, Content, HasTakenSome, IsClosed, nothing_taken}
use Rattle.system_files.specs.declared.files.Files as files
use Rattle.receiving.proofs.Stored.{IsSome, IsLeftBy, sink_holds, sink_begins, sink_stays}

pub record AreSome (texts : Texts) : Type 0 where
  pub taxonomy_is : IsSome texts.taxonomy
  pub instances_is : IsSome texts.instances
  pub certificate_is : IsSome texts.certificate

-- ---- three sinks are closed, one after the other

-- the sinks of the three paths are closed, which have taken these bytes; before that the files hold what they did
pub record AreClosed (paths : Paths) (taxonomy instances certificate : Option (List ℕ)) (content content' : Content) : Type 0 where
  pub before : Content
  pub first : Content
  pub second : Content
  pub same : (path : List ℕ) → before path ≡ content path
  pub taxonomy_closed : IsClosed before first paths.taxonomy.now taxonomy
  pub instances_closed : IsClosed first second paths.instances.now instances
  pub certificate_closed : IsClosed second content' paths.certificate.now certificate

pub others_kept : (paths : Paths) (t i c : Option (List ℕ)) (content content' : Content) → AreClosed paths t i c content content' → AreOthersKept paths content content'
others_kept paths t i c content content' closed = λ path no_taxonomy no_instances no_certificate.
    closed.certificate_closed.others path no_certificate ∙ closed.instances_closed.others path no_instances ∙ closed.taxonomy_closed.others path no_taxonomy ∙ closed.same path

-- what holds before and behind one closing holds of what the file held first and last
left_between : (old new first last taken : Option (List ℕ)) → (HasTakenSome taken → new ≡ taken) → (taken ≡ Some [] → new ≡ old) → old ≡ first → last ≡ new → IsLeftBy first last taken
left_between old new first last taken written unwritten before behind = record {
  written = λ some. behind ∙ written some;
  unwritten = λ none. behind ∙ unwritten none ∙ before;
}

taxonomy_left : (paths : Paths) (t i c : Option (List ℕ)) (content content' : Content) → AreApart paths → AreClosed paths t i c content content' → IsLeftBy (content paths.taxonomy.now) (content' paths.taxonomy.now) t
taxonomy_left paths t i c content content' apart closed =
    let path = paths.taxonomy.now in
    left_between (closed.before path) (closed.first path) (content path) (content' path) t closed.taxonomy_closed.written closed.taxonomy_closed.unwritten (closed.same path)
    (closed.certificate_closed.others path apart.taxonomy_certificate ∙ closed.instances_closed.others path apart.taxonomy_instances)

instances_left : (paths : Paths) (t i c : Option (List ℕ)) (content content' : Content) → AreApart paths → AreClosed paths t i c content content' → IsLeftBy (content paths.instances.now) (content' paths.instances.now) i
instances_left paths t i c content content' apart closed =
    let path = paths.instances.now in
    left_between (closed.first path) (closed.second path) (content path) (content' path) i closed.instances_closed.written closed.instances_closed.unwritten
    (closed.taxonomy_closed.others path (λ e. apart.taxonomy_instances (sym e)) ∙ closed.same path) (closed.certificate_closed.others path apart.instances_certificate)

certificate_left : (paths : Paths) (t i c : Option (List ℕ)) (content content' : Content) → AreApart paths → AreClosed paths t i c content content' → IsLeftBy (content paths.certificate.now) (content' paths.certificate.now) c
certificate_left paths t i c content content' apart closed =
    let path = paths.certificate.now in
    left_between (closed.second path) (content' path) (content path) (content' path) c closed.certificate_closed.written closed.certificate_closed.unwritten
    (closed.instances_closed.others path (λ e. apart.instances_certificate (sym e)) ∙ closed.taxonomy_closed.others path (λ e. apart.taxonomy_certificate (sym e)) ∙ closed.same path) refl

-- ---- what the files hold

-- the sinks were new
pub record AreNew (known : Bool) (old : Sinks) : Type 0 where
  pub taxonomy_is : old.taxonomy.0 ≡ nothing_taken known
  pub instances_is : old.instances.0 ≡ nothing_taken known
  pub certificate_is : old.certificate.0 ≡ nothing_taken known

-- the sinks are closed
abbrev pub AreSinksClosed : Paths → Sinks → (content content' : Content) → Type 0
AreSinksClosed paths sinks content content' = AreClosed paths sinks.taxonomy.0 sinks.instances.0 sinks.certificate.0 content content'

pub texts_held : (known : Bool) (paths : Paths) (old new : Sinks) (texts : Texts) (content content' : Content) → AreSome texts → AreNew known old → AreWritten old new texts → AreSinksClosed paths new content content' → AreApart paths → HoldTexts known paths texts content'
texts_held known paths old new texts content content' some fresh written closed apart = record {
  taxonomy = sink_holds known old.taxonomy new.taxonomy _ _ texts.taxonomy fresh.taxonomy_is some.taxonomy_is written.0 (taxonomy_left paths _ _ _ content content' apart closed);
  instances = sink_holds known old.instances new.instances _ _ texts.instances fresh.instances_is some.instances_is written.1 (instances_left paths _ _ _ content content' apart closed);
  certificate = sink_holds known old.certificate new.certificate _ _ texts.certificate fresh.certificate_is some.certificate_is written.2 (certificate_left paths _ _ _ content content' apart closed);
}

pub texts_held_until : (n : ℕ) (known : Bool) (paths : Paths) (old new : Sinks) (texts : Texts) (content content' : Content) → AreSome texts → AreNew known old → AreWrittenUntil n old new texts → AreSinksClosed paths new content content' → AreApart paths → HoldTextsUntil n known paths texts content content'
texts_held_until zero known paths old new texts content content' some fresh written closed apart = absurd written
texts_held_until (suc zero) known paths old new texts content content' some fresh written closed apart = (
  sink_begins known old.taxonomy new.taxonomy _ _ texts.taxonomy fresh.taxonomy_is written.0 (taxonomy_left paths _ _ _ content content' apart closed),
  sink_stays known old.instances new.instances _ _ fresh.instances_is written.1 (instances_left paths _ _ _ content content' apart closed),
  sink_stays known old.certificate new.certificate _ _ fresh.certificate_is written.2 (certificate_left paths _ _ _ content content' apart closed),
)
texts_held_until (suc (suc zero)) known paths old new texts content content' some fresh written closed apart = (
  sink_holds known old.taxonomy new.taxonomy _ _ texts.taxonomy fresh.taxonomy_is some.taxonomy_is written.0 (taxonomy_left paths _ _ _ content content' apart closed),
  sink_begins known old.instances new.instances _ _ texts.instances fresh.instances_is written.1 (instances_left paths _ _ _ content content' apart closed),
  sink_stays known old.certificate new.certificate _ _ fresh.certificate_is written.2 (certificate_left paths _ _ _ content content' apart closed),
)
texts_held_until (suc (suc (suc zero))) known paths old new texts content content' some fresh written closed apart = (
  sink_holds known old.taxonomy new.taxonomy _ _ texts.taxonomy fresh.taxonomy_is some.taxonomy_is written.0 (taxonomy_left paths _ _ _ content content' apart closed),
  sink_holds known old.instances new.instances _ _ texts.instances fresh.instances_is some.instances_is written.1 (instances_left paths _ _ _ content content' apart closed),
  sink_begins known old.certificate new.certificate _ _ texts.certificate fresh.certificate_is written.2 (certificate_left paths _ _ _ content content' apart closed),
)
texts_held_until (suc (suc (suc (suc n)))) known paths old new texts content content' some fresh written closed apart = absurd written

-- a sink that has taken nothing leaves all files as they were
untaken : (old new : Content) (path : List ℕ) (taken : Option (List ℕ)) → IsClosed old new path taken → taken ≡ Some [] → (other : List ℕ) → new other ≡ old other
untaken old new path taken closed fresh other =
    let decides = bytes_eq-Decides other path in
    (elim (bytes_eq other path) as (λ b. (b ≡ true → other ≡ path) → (other ≡ path → b ≡ true) → new other ≡ old other) [
      | true ↦ λ same back. ap new (same refl) ∙ closed.unwritten fresh ∙ ap old (sym (same refl))
      | false ↦ λ same back. closed.others other (λ e. let bad : false ≡ true = back e in absurd (cc))
    ]) decides.0 decides.1

-- three sinks that have taken nothing leave all files as they were
pub nothing_stored : (known : Bool) (paths : Paths) (old new : Sinks) (content content' : Content) → AreNew known old → new ≡ old → AreSinksClosed paths new content content' → (path : List ℕ) → Stays known (content path) (content' path)
nothing_stored false paths old new content content' fresh same closed path = tt
nothing_stored true paths old new content content' fresh same closed path =
    untaken closed.second content' paths.certificate.now new.certificate.0 closed.certificate_closed (ap (λ (s : Sinks). s.certificate.0) same ∙ fresh.certificate_is) path
    ∙ untaken closed.first closed.second paths.instances.now new.instances.0 closed.instances_closed (ap (λ (s : Sinks). s.instances.0) same ∙ fresh.instances_is) path
    ∙ untaken closed.before closed.first paths.taxonomy.now new.taxonomy.0 closed.taxonomy_closed (ap (λ (s : Sinks). s.taxonomy.0) same ∙ fresh.taxonomy_is) path
    ∙ closed.same path

-- ---- texts that a run wrote with sinks of its own

-- a sink that is closed is that of the path
at_path : (old new : Content) (p q : List ℕ) (taken : Option (List ℕ)) → p ≡ q → IsClosed old new p taken → IsClosed old new q taken
at_path old new p q taken same closed = let P : List ℕ → Type 0 = λ path. IsClosed old new path taken in subst P same closed

-- the sinks were new and had not failed, and were closed behind what was written: the files are left by them, and the writes that failed are
-- counted
pub record AreWrittenBy (old new : Sinks) (paths : Paths) (known : Bool) (content content' : Content) (failed_before failed_behind : ℕ) : Type 0 where
  pub fresh : AreNew known old
  pub working : AreWorking old
  pub closed : AreSinksClosed paths new content content'
  pub counted : AreCounted new failed_before failed_behind

module _ {F In Out : Type 0} (G : files.Ghosts F In Out) (S : sinks.Ghosts Out) where
  -- the sink is closed, and its failures are counted
  abbrev pub Closes : (old new : F) → Out → Type 0
  Closes old new sink =
      IsClosed (G.content old) (G.content new) (S.path sink) (S.taken sink) × (S.failures sink ≡ 0 → G.failed_writes new ≡ G.failed_writes old)
      × (0 < S.failures sink → HasFailed (G.failed_writes old) (G.failed_writes new))

  -- they were made behind the first files, and closed one after the other
  pub three_written : (paths : Paths) (first made one two last : F) (old new : Out × Out × Out) → HasFresh S (G.is_known first) paths (G.has_place made) old.0 old.1 old.2 → HaveNotFailed S old.0 old.1 old.2 → AreKept (G.content first) (G.content made) → G.failed_writes made ≡ G.failed_writes first → KeepPaths S S S old new → Closes made one new.0 → Closes one two new.1 → Closes two last new.2 → AreWrittenBy (all_seen S S S old) (all_seen S S S new) paths (G.is_known first) (G.content first) (G.content last) (G.failed_writes first) (G.failed_writes last)
  three_written paths first made one two last old new fresh working kept unfailed same taxonomy instances certificate = record {
    fresh = record { taxonomy_is = fresh.taxonomy_is.taken; instances_is = fresh.instances_is.taken; certificate_is = fresh.certificate_is.taken };
    working = record { taxonomy = working.0; instances = working.1; certificate = working.2 };
    closed = record {
      before = G.content made;
      first = G.content one;
      second = G.content two;
      same = kept;
      taxonomy_closed = at_path _ _ _ _ _ (same.0 ∙ fresh.taxonomy_is.path_is) taxonomy.0;
      instances_closed = at_path _ _ _ _ _ (same.1 ∙ fresh.instances_is.path_is) instances.0;
      certificate_closed = at_path _ _ _ _ _ (same.2 ∙ fresh.certificate_is.path_is) certificate.0;
    };
    counted = record {
      first = G.failed_writes made;
      second = G.failed_writes one;
      third = G.failed_writes two;
      same = unfailed;
      taxonomy = record { unfailed = taxonomy.1; failed = taxonomy.2 };
      instances = record { unfailed = instances.1; failed = instances.2 };
      certificate = record { unfailed = certificate.1; failed = certificate.2 };
    };
  }
