use Rattle.std.proofs.Common.{ℕ, get_or, map, ◌<◌, arith}
use Rattle.std.proofs.lemmas.List.{take_all}
use Rattle.row_table.specs.Rows.{has}
use Rattle.joined_systems.proofs.KindSteps.{parted_by}
use Rattle.joined_systems.proofs.kinds.part_makers.Goals as goal

pub returns-clause-parted : goal.returns-clause-parted
returns-clause-parted c =
    let all = take_all c.loop-p.p-index c.args.row.now (omega (arith, c.loop-p-test.false)) in
    let low = λ (u : ℕ). (let h : get_or c.args.kinds.now u 0 < c.len-start.result = omega (arith, c.requires.kinds u, c.len-start.ensures) in h) in
    let inv = rw all at c.loop-p.invariant in
    parted_by c.len-start.result c.loop-p.parts.items c.args.kinds.now c.loop-p.kinds (has (map (λ i. get_or c.args.makers.now i 0) c.args.row.now))
    inv.parts low inv.left inv.parted
