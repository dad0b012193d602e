use Rattle.std.proofs.Common.{◌≡◌, ◌∙◌, ◌+◌, ◌++◌, List, ℕ, ap, sym, length, map, take, arith}
use Rattle.std.proofs.lemmas.List.{take_all}
use Rattle.shared_systems.specs.Shared.{shared_item_at}
use Rattle.spill_plan.specs.Gaps.{gaps_to}
use Rattle.reports.specs.declared.commands.gap_report.GapName.{GapName}
use Rattle.reports.specs.SpilledGaps.{name_of_gap}
use Rattle.reports.proofs.GapLemmas.{name_to, names_of_some, some_if_not_none}
use Rattle.reports.proofs.commands.gap_report.push_names.Goals as goal

pub returns : goal.returns
returns c =
    let number = c.args.i + 1 in
    let x = shared_item_at c.args.items.now c.args.i in
    let readers = c.readers-readers.result.now in
    let was = c.args.names.now.items in
    let all : c.loop-reader.reader-index ≡ length readers = omega (arith, c.loop-reader-test.false, c.loop-reader.auto.reader-index-end) in
    let some = some_if_not_none (length readers) (sym c.is_empty.ensures ∙ c.if-is_empty.false) in
    c.loop-reader.invariant ∙ ap (λ (k : ℕ). was ++ map (name_to number) (take k readers)) all
    ∙ ap (λ (rs : List ℕ). was ++ map (name_to number) rs) (take_all (length readers) readers (omega arith))
    ∙ ap (λ (names : List GapName). was ++ names) (sym (names_of_some number x readers some))
    ∙ ap (λ (rs : List ℕ). was ++ map (name_of_gap number) (gaps_to x rs)) c.readers-readers.ensures
