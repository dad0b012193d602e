use Rattle.std.proofs.Common.{◌∙◌, ◌+◌, ◌<◌, ℕ, List, map, sym, ap, subst, arith}
use Rattle.std.proofs.lemmas.List.Elements.{All-same}
use Rattle.row_table.specs.Rows.{numbers_with}
use Rattle.graphs.specs.Queue.{from_of, IsArcRow}
use Rattle.graphs.proofs.CountLemmas.{tails-below}
use Rattle.graphs.proofs.QueueLemmas.{row-is}
use Rattle.graphs.proofs.queue.rows_of.Goals as goal

pub group-requires-clause-below : goal.group-requires-clause-below
group-requires-clause-below c =
    All-same (λ v. v < c.args.count + 1) c.deref.result.now (map from_of c.args.arcs.now) (c.deref.ensures.value ∙ c.in_ok-tails.ensures)
    (tails-below c.args.count c.args.arcs.now c.requires.within)

pub returns-clause-rows : goal.returns-clause-rows
returns-clause-rows c = λ u le.
    let arcs = c.args.arcs.now in
    let is = c.in_ok-rows.ensures.rows u (omega (arith, le))
    ∙ ap (λ (keys : List ℕ). numbers_with keys 0 u) (c.deref.ensures.value ∙ c.in_ok-tails.ensures) in
    subst (λ (row : List ℕ). IsArcRow arcs row u) (sym is) (row-is arcs u (c.numbers_law.ensures.each (map from_of arcs) 0 u))
