use Rattle.std.proofs.Common.{◌≡◌, ◌∙◌, ◌+◌, ◌<◌, ◌≤◌, ℕ, List, [], ◌∷◌, ◌++◌, length, refl, sym, ap, arith}
use Rattle.std.proofs.lemmas.List.{append-nil}
use Rattle.fs_parser.specs.View.{tree_of}
use Rattle.profile.proofs.Takings.{none_behind}
use Rattle.statements_text.specs.Restricting.{kept_of}
use Rattle.statements_text.specs.Terms.{line_text}
use Rattle.statements_text.specs.TreeTerms.{bare_term}
use Rattle.statements_text.proofs.Taking.{counts_faulty, counts_none, kept_stated, none_of_faulty, none_stated}
use Rattle.statements_text.proofs.restriction.Restricting.take.Goals as goal

no_more : (n : ℕ) → n ≡ n + 0
no_more n = omega arith

pub returns-then-len-before : goal.returns-then-len-before
returns-then-len-before c =
    let old = c.args.self.now in
    let t = tree_of c.args.tree.now in
    let less : length old.faults.items < length c.part_faults.new.found.items = omega (arith, c.if-len-before.true, c.len-before.ensures, c.len.ensures) in
    let told = c.in_ok-place.ensures.found in
    let none : kept_of old.version t ≡ [] = none_of_faulty old.version old.place t old.faults.items c.part_faults.new.found.items told less in
    record {
      version = refl;
      place = c.in_ok-place.ensures.behind;
      faults = told;
      lines = rw none (sym (append-nil old.lines.items));
      reader = rw none (none_behind old.reader);
      kept = rw none (omega arith);
      left_out = rw (counts_faulty old.version old.place t old.faults.items c.part_faults.new.found.items told less) refl;
    }

pub returns-in_ok-keep : goal.returns-in_ok-keep
returns-in_ok-keep c =
    let old = c.args.self.now in
    let t = tree_of c.args.tree.now in
    let less : length c.part_faults.new.found.items ≤ length old.faults.items = omega (arith, c.if-len-before.false, c.len-before.ensures, c.len.ensures) in
    let told = c.in_ok-place.ensures.found in
    let kept = c.in_ok-keep.ensures.kept in
    let one : kept_of old.version t ≡ t ∷ [] = kept_stated old.version old.place t old.faults.items c.part_faults.new.found.items told less c.in_ok-place.statement c.in_ok-place.ensures.statement (sym c.is_some.ensures ∙ c.if-is_some.true) in
    record {
      version = kept.version;
      place = kept.place ∙ c.in_ok-place.ensures.behind;
      faults = rw kept.faults told;
      lines = rw one (kept.lines ∙ ap (λ (bytes : List ℕ). old.lines.items ++ bytes) (sym (append-nil (line_text (bare_term t)))));
      reader = rw one kept.reader;
      kept = rw one kept.kept;
      left_out = rw (counts_none old.version old.place t old.faults.items c.part_faults.new.found.items told less) (kept.left_out ∙ no_more old.left_out);
    }

pub returns-else-is_some : goal.returns-else-is_some
returns-else-is_some c =
    let old = c.args.self.now in
    let t = tree_of c.args.tree.now in
    let less : length c.part_faults.new.found.items ≤ length old.faults.items = omega (arith, c.if-len-before.false, c.len-before.ensures, c.len.ensures) in
    let told = c.in_ok-place.ensures.found in
    let none : kept_of old.version t ≡ [] = none_stated old.version old.place t old.faults.items c.part_faults.new.found.items told less c.in_ok-place.statement c.in_ok-place.ensures.statement (sym c.is_some.ensures ∙ c.if-is_some.false) in
    record {
      version = refl;
      place = c.in_ok-place.ensures.behind;
      faults = told;
      lines = rw none (sym (append-nil old.lines.items));
      reader = rw none (none_behind old.reader);
      kept = rw none (omega arith);
      left_out = rw (counts_none old.version old.place t old.faults.items c.part_faults.new.found.items told less) (omega arith);
    }
