use Rattle.std.proofs.Common.{◌≡◌, ◌≢◌, ◌<◌, ◌≤◌, ℕ, true, length, get_or, set, length-set, arith, inl, inr, sym, ap, ◌∙◌, subst}
use Rattle.std.proofs.lemmas.Bool.{cases_eq, both_ways}
use Rattle.bit_rows.specs.Bits.{bit_in}
use Rattle.elimination.specs.Elimination.{degree_of}
use Rattle.elimination.specs.Dense.{Stage, IsStanding, IsFullRow, IsFilling, row_of}
use Rattle.elimination.specs.declared.dense.DenseSearch.{DenseSearch}
use Rattle.elimination.proofs.DenseBits.{row_here, row_other, put_own, put_others}
use Rattle.elimination.proofs.DenseSteps.{at_other, at_here}
use Rattle.elimination.proofs.dense.DenseSearch.put.Goals as goal

-- the vertex has a place in the row of those that are left
place : (stage : Stage) (search : DenseSearch) (v : ℕ) → IsFilling stage search → IsStanding stage v → v < length search.alive
place stage search v s here = let vn = here.0.1 in let width = s.alive_width in omega arith

pub insert-requires : goal.insert-requires
insert-requires c = place c.requires.0 c.args.self.now c.args.v c.requires.1 c.requires.2

pub returns-clause-put : goal.returns-clause-put
returns-clause-put c =
    put_own c.args.self.now.alive c.insert.new.self c.args.v true c.insert.ensures
    (place c.requires.0 c.args.self.now c.args.v c.requires.1 c.requires.2)

pub returns-clause-others : goal.returns-clause-others
returns-clause-others c = put_others c.args.self.now.alive c.insert.new.self c.args.v true c.insert.ensures

pub returns-clause-bound : goal.returns-clause-bound
returns-clause-bound c =
    let len = c.requires.1.bounds_len in
    let vn = c.requires.2.0.1 in
    ap (λ z. get_or z c.args.v 0) c.put.ensures ∙ at_here c.args.self.now.bounds c.args.v c.args.bound (omega arith)

pub returns-clause-filled : goal.returns-clause-filled
returns-clause-filled c = λ stage s here full bound.
    let v = c.args.v in
    let vn = here.0.1 in
    let old = c.args.self.now.alive in
    let alive = c.insert.new.self in
    let width = s.alive_width in
    let order = s.order_is in
    let other : (x : ℕ) → x ≢ v → bit_in alive x ≡ bit_in old x = put_others old alive v true c.insert.ensures in
    let own : bit_in alive v ≡ true = put_own old alive v true c.insert.ensures (omega arith) in
    let rows_len = s.rows_len in
    let bounds_len = s.bounds_len in
    record {
      order_is = s.order_is;
      few = s.few;
      rows_len = length-set c.args.self.now.rows.items v c.args.row ∙ s.rows_len;
      none_open = s.none_open;
      alive_width = ap length c.insert.ensures ∙ length-set old v true ∙ s.alive_width;
      alive_from = λ x t. elim (cases_eq x v) [
        | inl e ↦ subst (IsStanding stage) (sym e) here
        | inr ne ↦ s.alive_from x (sym (other x ne) ∙ t)
      ];
      full = λ x t. elim (cases_eq x v) [
        | inl e ↦ subst (λ z. IsFullRow stage z (row_of (set c.args.self.now.rows.items v c.args.row) z)) (sym e)
            (subst (IsFullRow stage v) (sym (row_here c.args.self.now.rows.items v c.args.row (omega arith))) full)
        | inr ne ↦ subst (IsFullRow stage x) (sym (row_other c.args.self.now.rows.items v x c.args.row ne))
            (s.full x (sym (other x ne) ∙ t))
      ];
      bounds_len = ap length c.put.ensures ∙ length-set c.args.self.now.bounds v c.args.bound ∙ s.bounds_len;
      low = λ x t. elim (cases_eq x v) [
        | inl e ↦ (
            let h = ap (λ z. get_or z v 0) c.put.ensures ∙ at_here c.args.self.now.bounds v c.args.bound (omega arith) in
            subst (λ z. get_or c.put.new.self z 0 ≤ degree_of stage.left stage.order z) (sym e) (omega arith)
            )
        | inr ne ↦ (
            let h = ap (λ z. get_or z x 0) c.put.ensures ∙ at_other c.args.self.now.bounds v c.args.bound x ne in
            let l = s.low x (sym (other x ne) ∙ t) in
            omega arith
            )
      ];
      off = λ x le f. elim (cases_eq x v) [
        | inl e ↦ absurd (both_ways _ f (ap (bit_in alive) e ∙ own))
        | inr ne ↦ ap (λ z. get_or z x 0) c.put.ensures ∙ at_other c.args.self.now.bounds v c.args.bound x ne
            ∙ s.off x le (sym (other x ne) ∙ f)
      ];
    }
