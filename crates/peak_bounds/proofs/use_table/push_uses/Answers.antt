use Rattle.std.proofs.Common.{◌≢◌, ◌≤◌, ◌++◌, ℕ, List, length, map, arith, sym, ap, ◌∙◌}
use Rattle.std.proofs.lemmas.Bool.{eqb-false}
use Rattle.std.proofs.lemmas.List.{take_all}
use Rattle.peak_bounds.proofs.UseLists.{makers_each, takers_each}
use Rattle.peak_bounds.proofs.use_table.push_uses.Goals as goal

pub returns-clause-makers : goal.returns-clause-makers
returns-clause-makers c =
    let readers = c.args.readers.now in
    let none : length readers ≢ 0 = eqb-false (length readers) 0 (sym c.is_empty.ensures ∙ c.if-is_empty.false) in
    let some : 1 ≤ length readers = omega arith in
    let all = take_all c.loop-reader.reader-index readers c.loop-reader-test.false in
    c.loop-reader.invariant.makers
    ∙ ap (λ (l : List ℕ). c.args.makers.now.items ++ map (λ reader. c.unwrap_or-from.result) l) all
    ∙ ap (λ (v : ℕ). c.args.makers.now.items ++ map (λ reader. v) readers) c.unwrap_or-from.ensures
    ∙ ap (λ (l : List ℕ). c.args.makers.now.items ++ l) (sym (makers_each c.args.from readers some))

pub returns-clause-takers : goal.returns-clause-takers
returns-clause-takers c =
    let readers = c.args.readers.now in
    let none : length readers ≢ 0 = eqb-false (length readers) 0 (sym c.is_empty.ensures ∙ c.if-is_empty.false) in
    let some : 1 ≤ length readers = omega arith in
    let all = take_all c.loop-reader.reader-index readers c.loop-reader-test.false in
    c.loop-reader.invariant.takers
    ∙ ap (λ (l : List ℕ). c.args.takers.now.items ++ l) (all ∙ sym (takers_each c.args.from readers some))
