use Rattle.std.proofs.Common.{rules, ◌≤◌, length, arith}
use Rattle.shared_systems.proofs.StoredItems.{inside, readers_at}
use Rattle.shared_systems.proofs.items.SharedItems.readers.Goals as goal

pub bounds-start-requires : goal.bounds-start-requires
bounds-start-requires c =
    let s = c.self.inside in
    omega (arith, inside s.entries.items s.readers.items c.args.self.now c.self.view_is c.args.i c.requires, c.deref.ensures.len)

pub slice_bounds-result-count : goal.slice_bounds-result-count
slice_bounds-result-count c =
    let s = c.self.inside in
    rw (c.bounds-start.ensures.start, c.bounds-start.ensures.end, c.deref.ensures.value)
    (c.self.invariant.rising c.args.i (inside s.entries.items s.readers.items c.args.self.now c.self.view_is c.args.i c.requires))

pub slice_bounds-result-start : goal.slice_bounds-result-start
slice_bounds-result-start c =
    let s = c.self.inside in
    let up : c.bounds-start.result.0 ≤ c.bounds-start.result.1 = slice_bounds-result-count c in
    let far : c.bounds-start.result.1 ≤ length c.deref-2.result.now =
    rw (c.bounds-start.ensures.end, c.deref.ensures.value, c.deref-2.ensures.value)
    (c.self.invariant.within c.args.i (inside s.entries.items s.readers.items c.args.self.now c.self.view_is c.args.i c.requires)) in
    search rules

pub returns : goal.returns
returns c =
    let s = c.self.inside in
    rw (c.bounds-start.ensures.start, c.bounds-start.ensures.end, c.deref.ensures.value, c.deref-2.ensures.value)
    (readers_at s.entries.items s.readers.items c.args.self.now c.self.view_is c.args.i c.requires)
