use Rattle.std.proofs.Common.{◌≡◌, ◌+◌, ℕ, false, length, get_or, arith, ap, ◌∙◌}
use Rattle.std.proofs.lemmas.Bool.{both_ways}
use Rattle.std.proofs.lemmas.List.{length-replicate, get_or-replicate}
use Rattle.min_tree.specs.Least.{greatest}
use Rattle.bit_rows.specs.Bits.{bit_in}
use Rattle.bit_rows.proofs.RowBits.{none_in}
use Rattle.elimination.proofs.dense.DenseSearch.new.Goals as goal
use Rattle.elimination.proofs.dense.DenseSearch.new.Goals.{In_ok-new}

none : (c : In_ok-new) (x : ℕ) → bit_in c.in_ok-new.field-0 x ≡ false
none c x = ap (λ z. bit_in z x) c.in_ok-new.ensures ∙ none_in (c.args.order + 1) x

pub returns-clause-none : goal.returns-clause-none
returns-clause-none c = none (goal.at.returns-clause-none c).In_ok-new

pub returns-clause-filling : goal.returns-clause-filling
returns-clause-filling c = λ stage is.
    let none' = none (goal.at.returns-clause-filling c).In_ok-new in
    record {
      order_is = is;
      few = let r = c.requires in omega arith;
      rows_len = c.in_ok-empty_rows.ensures ∙ ap (λ n. n + 1) is;
      none_open = c.new.ensures.items;
      alive_width = ap length c.in_ok-new.ensures ∙ length-replicate (c.args.order + 1) false ∙ ap (λ n. n + 1) is;
      alive_from = λ x t. absurd (both_ways _ (none' x) t);
      full = λ x t. absurd (both_ways _ (none' x) t);
      bounds_len = ap length c.in_ok-new-2.ensures ∙ length-replicate (c.args.order + 1) greatest ∙ ap (λ n. n + 1) is;
      low = λ x t. absurd (both_ways _ (none' x) t);
      off = λ x le f. ap (λ z. get_or z x 0) c.in_ok-new-2.ensures ∙ get_or-replicate (c.args.order + 1) x greatest 0 (omega arith);
    }
