use Rattle.std.proofs.Common.{◌≡◌, ◌<◌, ℕ, List, length, get_or, arith, sym, subst, ◌∙◌, ap, All}
use Rattle.mp_system.specs.Memory.{stands_in}
use Rattle.graphs.specs.Graph.{IsAmong}
use Rattle.std.proofs.lemmas.List.{get_or_read, get_or_default}
use Rattle.row_table.specs.Rows.{numbers_with}
use Rattle.peak_bounds.proofs.Searching.{search_more, search_all, keyed, stands_at}
use Rattle.peak_bounds.proofs.search.spread.Goals as goal
use Rattle.peak_bounds.proofs.search.spread.Goals.{After-row}

row_is : (c : After-row) → c.row.result.now ≡ numbers_with c.args.near.now 0 (get_or c.loop-next.work.items c.loop-next.next 0)
row_is c =
    let work = c.loop-next.work.items in
    let next = c.loop-next.next in
    let lt : next < length work = omega (arith, c.loop-next-test.true, c.len.ensures, c.loop-next.work.ok.0) in
    let u = c.index.result.now in
    let is : u ≡ get_or work next 0 = get_or_read work next u lt c.index.ensures 0 in
    let small = (c.loop-next.invariant.tasks next 0 lt).1 in
    c.row.ensures ∙ c.requires.links.in_rows.each u (omega (arith, small, is)) ∙ ap (λ (v : ℕ). numbers_with c.args.near.now 0 v) is

pub spread_from-requires-clause-places : goal.spread_from-requires-clause-places
spread_from-requires-clause-places c = λ k d lt.
    let row = c.row.result.now in
    let key = keyed c.args.near.now 0 (get_or c.loop-next.work.items c.loop-next.next 0) (get_or row k 0)
    (ap (λ (l : List ℕ). stands_in l (get_or row k 0)) (sym (row_is (goal.at.spread_from-requires-clause-places c).After-row)) ∙ stands_at row k lt) in
    omega (arith, get_or_default row k d 0 lt, key.1, key.3, c.requires.links.same_len)

pub loop-next-preserved : goal.loop-next-preserved
loop-next-preserved c =
    let l = c.loop-next in
    let lt : l.next < length l.work.items = omega (arith, c.loop-next-test.true, c.len.ensures, l.work.ok.0) in
    let e = c.in_ok-spread_from.ensures in
    search_more c.args.near.now c.args.far.now c.args.marks.now c.args.work.now.items l.marks l.work.items l.next l.invariant lt c.requires.links.same_len
    c.row.result.now (row_is (goal.at.loop-next-preserved c).After-row) c.spread_from.new.marks c.spread_from.new.work.items (omega (arith, l.invariant.len, c.spread_from.auto.marks))
    (subst (λ (n : ℕ). All (IsAmong n) c.spread_from.new.work.items) l.invariant.len e.tasks) e.begins e.marks e.work

pub returns : goal.returns
returns c =
    let l = c.loop-next in
    search_all c.args.near.now c.args.far.now c.args.marks.now c.args.work.now.items l.marks l.work.items l.next l.invariant
    (omega (arith, c.loop-next-test.false, c.len.ensures, l.work.ok.0))
