use Rattle.std.proofs.Common.{◌≡◌, ◌∙◌, ◌-◌, ◌<◌, ◌++◌, List, ℕ, ap, length, get_or, arith}
use Rattle.mp_text.specs.Report.{text_of_lines}
use Rattle.sp_terms.specs.declared.position.Values.{Values}
use Rattle.sp_terms.specs.Values.{values_of, term_at}
use Rattle.sp_cuts.specs.Stairs.{all_of}
use Rattle.reports.proofs.StairPages.{row_printed, rows_before, rows_of_all}
use Rattle.reports.proofs.commands.segments.print_rows.Goals as goal

pub loop-i-preserved : goal.loop-i-preserved
loop-i-preserved c =
    let ps = c.args.numbered.now.terms in
    let stairs = c.args.stairs.now in
    let numbered = c.args.numbered.now.positions.items in
    let i = c.loop-i.i in
    let same = c.deref-position-items.ensures.value in
    let h : i < length numbered = omega (arith, c.loop-i-test.true, c.deref-position-items.ensures.len) in
    let k = get_or numbered i 0 in
    let listed : get_or c.deref-position-items.result.now i 0 ≡ k = ap (λ (ks : List ℕ). get_or ks i 0) same in
    let at = c.requires.within i 0 h in
    let few : k - 1 < length stairs = omega (arith, at.0, at.1, c.requires.stairs) in
    let none : Values = record { initial = 0; fin = 0; least = 0; width = 0 } in
    let v = get_or c.args.values.now (get_or c.deref-position-items.result.now i 0 - 1) none in
    let v_is : v ≡ values_of (term_at ps (k - 1)) =
    ap (λ (j : ℕ). get_or c.args.values.now (j - 1) none) listed ∙ c.requires.known (k - 1) none (omega (arith, at.0, at.1)) in
    let s = c.index-stairs-at.result in
    let s_is : s ≡ get_or stairs (k - 1) s = c.index-stairs-at.is ∙ ap (λ (j : ℕ). get_or stairs (j - 1) s) listed in
    record {
      text = row_printed ps stairs numbered i h c.printed_lines.ensures.parts v s
          s few v_is s_is c.args.report.now c.loop-i.report c.print_both.new.report
          c.loop-i.invariant.text c.in_ok-print_both.ensures.text;
      start = c.in_ok-print_both.ensures.start;
    }

pub returns-clause-text : goal.returns-clause-text
returns-clause-text c =
    let ps = c.args.numbered.now.terms in
    let all = all_of c.args.stairs.now in
    let numbered = c.args.numbered.now.positions.items in
    let old = c.args.report.now in
    let end : c.loop-i.i ≡ length numbered = omega (arith, c.loop-i.auto.i-end, c.loop-i-test.false, c.deref-position-items.ensures.len) in
    c.loop-i.invariant.text ∙ ap (λ (i : ℕ). old ++ text_of_lines (rows_before ps all numbered i)) end
    ∙ ap (λ (lines : List (List (List ℕ))). old ++ text_of_lines lines) (rows_of_all ps all numbered)
