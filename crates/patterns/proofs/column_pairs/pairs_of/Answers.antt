use Rattle.std.proofs.Common.{◌≡◌, ◌∙◌, ◌+◌, ◌-◌, ◌++◌, ℕ, All, List, ap, arith, get_or, length, map, sym, subst}
use Rattle.std.specs.List.{flat_map, range_with_len}
use Rattle.std.proofs.lemmas.List.{length-append, length-map}
use Rattle.patterns.specs.Pattern.{IsPairWithin}
use Rattle.patterns.specs.Columns.{column_pairs, column_count}
use Rattle.patterns.proofs.Entries.{one_column_more, one_more, paired}
use Rattle.patterns.proofs.Starts.{span}
use Rattle.patterns.proofs.column_pairs.pairs_of.Goals as goal

pub loop-j-preserved : goal.loop-j-preserved
loop-j-preserved c =
    let base = c.args.base in
    let starts = c.args.starts.now in
    let rows = c.args.rows.now in
    let j = c.loop-j.j in
    let s = span base starts rows c.requires j c.loop-j.auto.j c.loop-j-test.true in
    let column : List ℕ = c.rows_of.result.now in
    let more : List (ℕ × ℕ) = map (paired base j) column in
    let old : List (ℕ × ℕ) = c.loop-j.pairs.items in
    let is : c.push_column.new.pairs.items ≡ old ++ more = c.in_ok-push_column.ensures in
    let here : more ≡ column_pairs base starts rows j = ap (map (paired base j)) c.rows_of.ensures.rows in
    let front : List (ℕ × ℕ) = flat_map (column_pairs base starts rows) (range_with_len 1 (j - 1)) in
    let at : j + 1 - 1 ≡ j = omega arith in
    let long : length more ≡ get_or starts j 0 - get_or starts (j - 1) 0 = length-map column (paired base j) ∙ c.rows_of.ensures.len in
    record {
      value = is ∙ ap (λ front. front ++ more) c.loop-j.invariant.value ∙ ap (λ end. front ++ end) here
          ∙ sym (one_more (column_pairs base starts rows) j c.loop-j.auto.j);
      long = ap length is ∙ subst (λ (k : ℕ). length (old ++ more) ≡ get_or starts k 0 - base) (sym at)
          (omega (arith, length-append old more, long, c.loop-j.invariant.long, s.0, s.1));
      within = subst (All (IsPairWithin (column_count starts))) (sym is)
          (one_column_more base (column_count starts) j old column c.loop-j.auto.j (omega (arith, c.loop-j-test.true))
          c.loop-j.invariant.within c.rows_of.ensures.numbers);
    }
