use Rattle.std.proofs.Common.{◌≡◌, ◌+◌, arith, ◌∙◌}
use Rattle.std.proofs.lemmas.List.{get_or_read}
use Rattle.peak_bounds.specs.Fitting.{use_start}
use Rattle.peak_bounds.proofs.Fits.{ends-le}
use Rattle.peak_bounds.proofs.fitting.fits_at.Goals as goal
use Rattle.peak_bounds.proofs.fitting.fits_at.Goals.{After-index-2}

start : (c : After-index-2) → c.index.result.now ≡ use_start c.args.items.now c.args.item
start c =
    let starts = c.requires.placed.starts in
    get_or_read c.args.fitting.now.starts.items c.args.item c.index.result.now (omega (arith, starts.len, c.requires.item)) c.index.ensures 0
    ∙ starts.each c.args.item (omega (arith, c.requires.item))

end : (c : After-index-2) → c.index-2.result.now ≡ use_start c.args.items.now (c.args.item + 1)
end c =
    let starts = c.requires.placed.starts in
    get_or_read c.args.fitting.now.starts.items (c.args.item + 1) c.index-2.result.now (omega (arith, starts.len, c.requires.item)) c.index-2.ensures 0
    ∙ starts.each (c.args.item + 1) (omega (arith, c.requires.item))

pub slice_bounds-fits-count : goal.slice_bounds-fits-count
slice_bounds-fits-count c =
    let a = (goal.at.slice_bounds-fits-count c).After-index-2 in
    omega (arith, start a, end a, (ends-le c.args.items.now c.args.item c.requires.item).0)

pub slice_bounds-fits-start : goal.slice_bounds-fits-start
slice_bounds-fits-start c =
    let a = (goal.at.slice_bounds-fits-start c).After-index-2 in
    omega (arith, start a, end a, (ends-le c.args.items.now c.args.item c.requires.item).0)

pub slice_bounds-fits-end : goal.slice_bounds-fits-end
slice_bounds-fits-end c =
    let a = (goal.at.slice_bounds-fits-end c).After-index-2 in
    omega (arith, start a, end a, c.requires.len, (ends-le c.args.items.now c.args.item c.requires.item).1)
