use Rattle.std.proofs.Common.{◌≡◌, map, drop}
use Rattle.shapes.specs.Shapes.{shape_in}
use Rattle.shapes.specs.View.{shape_view}
use Rattle.shapes.proofs.keywords.shape_of.Given as goal

abbrev pub invariant-loop-shape : goal.invariant-loop-shape
invariant-loop-shape l = shape_in l.version (map shape_view (drop l.shape-index l.shapes)) l.fn.keyword ≡ shape_in l.version (map shape_view l.shapes) l.fn.keyword
