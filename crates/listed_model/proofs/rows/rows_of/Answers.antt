use Rattle.listed_model.proofs.Found.{range_means, range_ordered}
use Rattle.listed_model.proofs.rows.rows_of.Goals as goal

pub slice_bounds-result-count : goal.slice_bounds-result-count
slice_bounds-result-count c = range_ordered c.args.rows.now c.args.property.0 c.start_of-start.result c.end_of-end.result c.start_of-start.ensures.bound c.start_of-start.ensures.place c.end_of-end.ensures.place

pub slice_bounds-result-start : goal.slice_bounds-result-start
slice_bounds-result-start c = range_ordered c.args.rows.now c.args.property.0 c.start_of-start.result c.end_of-end.result c.start_of-start.ensures.bound c.start_of-start.ensures.place c.end_of-end.ensures.place

pub returns : goal.returns
returns c = range_means c.args.rows.now c.args.property.0 c.start_of-start.result c.end_of-end.result c.start_of-start.ensures.bound c.end_of-end.ensures.bound c.start_of-start.ensures.place c.end_of-end.ensures.place
