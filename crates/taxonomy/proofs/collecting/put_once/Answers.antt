use Rattle.std.proofs.Common.{◌≡◌, ◌+◌, ◌&&◌, ◌||◌, ℕ, ltb, eqb, get_or, length, take, sym, ap, ◌∙◌}
use Rattle.std.proofs.lemmas.List.Folds.{list_any_more}
use Rattle.taxonomy.specs.Superclasses.{is_among}
use Rattle.taxonomy.proofs.Once.{HasFound, found_more, found_same}
use Rattle.taxonomy.proofs.collecting.put_once.Goals as goal
use Rattle.taxonomy.proofs.collecting.put_once.Goals.{then-put_new+in_ok-push, else-put_new}

pub loop-d-preserved : goal.loop-d-preserved
loop-d-preserved c =
    let list = c.args.list.now in
    let n = length c.args.seen.now in
    let i = c.loop-d.d-index in
    let d = get_or list i 0 in
    let old = c.loop-d.invariant in
    let among = is_among (take i list) in
    let before : HasFound n c.loop-d.seen c.loop-d.found.items among = record { once = old.once; put = old.put; members = old.members } in
    let room = c.put_new.ensures.len ∙ old.room in
    let more : (k : ℕ) → (among k || eqb d k) ≡ is_among (take (i + 1) list) k = λ k. sym (list_any_more (λ x. eqb x k) list i 0 c.loop-d-test.true) in
    elim c.if-put_new.branch [
      | then-put_new+in_ok-push w ↦
          let now = found_more n d c.loop-d.seen c.put_new.new.seen c.loop-d.found.items among old.room room before c.put_new.ensures.members (sym c.put_new.ensures.result ∙ w.if-put_new.true) in
          record {
            room = room;
            once = rw (w.found-is, w.in_ok-push.ensures.items) now.once;
            put = λ k. rw (w.found-is, w.in_ok-push.ensures.items) (now.put k);
            members = λ k. rw (w.found-is, w.in_ok-push.ensures.items) (now.members k ∙ ap (λ b. b && ltb k n) (more k));
          }
      | else-put_new w ↦
          let now = found_same n d c.loop-d.seen c.put_new.new.seen c.loop-d.found.items among old.room room before c.put_new.ensures.members (sym c.put_new.ensures.result ∙ w.if-put_new.false) in
          record {
            room = room;
            once = rw w.found-is now.once;
            put = λ k. rw w.found-is (now.put k);
            members = λ k. rw w.found-is (now.members k ∙ ap (λ b. b && ltb k n) (more k));
          }
    ]
