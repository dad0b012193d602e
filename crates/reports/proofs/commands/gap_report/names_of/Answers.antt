use Rattle.std.proofs.Common.{◌∙◌, ◌+◌, ◌<◌, ◌++◌, List, ap, sym, length, map, arith}
use Rattle.shared_systems.specs.Shared.{shared_item_at}
use Rattle.spill_plan.specs.Gaps.{gaps_of_item}
use Rattle.reports.specs.declared.commands.gap_report.GapName.{GapName}
use Rattle.reports.specs.SpilledGaps.{name_of_gap}
use Rattle.reports.proofs.GapLemmas.{names_of_one_more}
use Rattle.reports.proofs.commands.gap_report.names_of.Goals as goal

pub loop-i-preserved : goal.loop-i-preserved
loop-i-preserved c =
    let items = c.items-items.result.now in
    let i = c.loop-i.i in
    let lt : i < length items = omega (arith, c.loop-i-test.true, c.len-i-end.ensures) in
    let here = map (name_of_gap (i + 1)) (gaps_of_item (shared_item_at items i)) in
    c.in_ok-push_names.ensures ∙ ap (λ (names : List GapName). names ++ here) c.loop-i.invariant
    ∙ sym (names_of_one_more items i lt)
