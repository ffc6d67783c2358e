-- What the fields of an interpretation stand for.
use Rattle.std.specs.Prelude.{ℕ, List, [], map}
use Rattle.std.specs.Option.{option_map_or}
use Rattle.std.specs.List.{range_with_len}
use Rattle.std.specs.Ordering.{nat_cmp}
use Rattle.std.specs.BTreeMap.{BTreeMap, get}
use Rattle.std.specs.Global.{Vec}
use Rattle.interpretation_spec.specs.declared.interpretation.Interpretation.TheInside.{Inside}
use Rattle.interpretation_spec.specs.NumberedInterpretation.{NumberedInterpretation}

-- the targets that are kept for a source
abbrev pub kept_targets : BTreeMap ℕ (Vec ℕ) → ℕ → List ℕ
kept_targets pairs source = option_map_or (λ (targets : Vec ℕ). targets.items) (get nat_cmp pairs source) []

-- of each element below the size, in order, the targets that are kept for it
abbrev pub kept_pairs : ℕ → BTreeMap ℕ (Vec ℕ) → List (List ℕ)
kept_pairs size pairs = map (kept_targets pairs) (range_with_len 0 size)

abbrev pub kept_interpretation : Inside → NumberedInterpretation
kept_interpretation i = record {
  size = i.size;
  classes = i.classes;
  pairs = map (kept_pairs i.size) i.pairs.items;
  individuals = i.individuals.items;
}
