use Rattle.std.proofs.Common.{◌≡◌, ◌≢◌, ◌&&◌, inl, inr, ℕ, ◌-◌, ◌+◌, ◌<◌, false, get_or, set}
use Rattle.std.proofs.Common.{length, length-set, arith, subst, sym, ap, ◌∙◌, IsTrue}
use Rattle.std.specs.List.{count_by, range_with_len}
use Rattle.std.proofs.lemmas.Bool.{and_right, false_from_ne_true}
use Rattle.bit_rows.specs.Bits.{bit_in}
use Rattle.elimination.specs.Dense.{row_of, width_of}
use Rattle.patterns.proofs.NumberLists.{has_at}
use Rattle.elimination.proofs.DenseBits.{row_get, row_here, row_other, count_vertices}
use Rattle.elimination.proofs.DenseLooks.{open_apart, looked}
use Rattle.elimination.proofs.dense.look.Goals as goal
use Rattle.elimination.proofs.dense.look.Goals.{After-replace-row}

inside : (c : After-replace-row) → c.args.v < length c.args.rows.now
inside c = let le = c.requires.stand.2.0.1 in let len = c.requires.stand.3 in omega arith

-- the row that was taken out
taken : (c : After-replace-row) → c.replace-row.result ≡ row_of c.args.rows.now c.args.v
taken c = c.replace-row.ensures.value ∙ row_get c.args.rows.now c.args.v c.index-rows-v.result (inside c)

width : (c : After-replace-row) → length c.replace-row.result ≡ width_of c.requires.stand.0.order
width c = let stand = c.requires.stand in ap length (taken c) ∙ stand.1.row_width c.args.v stand.2

-- the other rows stay
others : (c : After-replace-row) (y : ℕ) → y ≢ c.args.v
    → row_of (set c.args.rows.now c.args.v c.replace-row.new.dest) y ≡ row_of c.args.rows.now y
others c y ne = row_other c.args.rows.now c.args.v y c.replace-row.new.dest ne

pub unite_open-requires-clause-within : goal.unite_open-requires-clause-within
unite_open-requires-clause-within c = λ j lt.
    let stand = c.requires.stand in
    let g = (stand.1.open_gone (get_or c.args.pivots.now j 0) (has_at c.args.pivots.now j lt)).0.1 in
    let len = stand.3 in
    let set_len = length-set c.args.rows.now c.args.v c.replace-row.new.dest in
    omega arith

pub unite_open-requires-clause-widths : goal.unite_open-requires-clause-widths
unite_open-requires-clause-widths c = λ j lt.
    let stand = c.requires.stand in
    let p = get_or c.args.pivots.now j 0 in
    let h = has_at c.args.pivots.now j lt in
    let c' = (goal.at.unite_open-requires-clause-widths c).After-replace-row in
    let ne = open_apart stand.0 (row_of c.args.rows.now) c.args.pivots.now c.args.alive.now stand.1 c.args.v stand.2 p h in
    ap length (others c' p ne) ∙ stand.1.open_width p h ∙ sym (width c')

pub unite_open-requires-clause-v : goal.unite_open-requires-clause-v
unite_open-requires-clause-v c =
    let w = width (goal.at.unite_open-requires-clause-v c).After-replace-row in
    let le = c.requires.stand.2.0.1 in
    omega arith

pub count_common-requires : goal.count_common-requires
count_common-requires c =
    let w = width (goal.at.count_common-requires c).After-replace-row in
    let len = c.unite_open.ensures.len in
    let alive = c.requires.stand.1.alive_width in
    omega arith

pub returns-clause-looked : goal.returns-clause-looked
returns-clause-looked c = λ stage s here.
    let c' = (goal.at.returns-clause-looked c).After-replace-row in
    let v = c.args.v in
    let rows = c.args.rows.now in
    let opened = c.args.pivots.now in
    let alive = c.args.alive.now in
    let rows1 = set c.args.rows.now c.args.v c.replace-row.new.dest in
    let row = c.unite_open.new.row in
    let len = length-set rows v c.replace-row.new.dest in
    let own : row_of (set rows1 v row) v ≡ row = row_here rows1 v row (let lt = inside c' in omega arith) in
    let apart = open_apart stage (row_of rows) opened alive s v here in
    let is = taken c' in
    let width : length row ≡ stage.order + 1 = c.unite_open.ensures.len ∙ ap length is ∙ s.row_width v here in
    let none : (bit_in row 0 && bit_in alive 0) ≡ false = and_right (bit_in row 0) (bit_in alive 0)
    (false_from_ne_true (bit_in alive 0) (λ t. absurd (let one = (s.alive_from 0 t).0.0 in omega arith))) in
    let count : c.count_common.result ≡ count_by (λ x. bit_in row x && bit_in alive x) (range_with_len 1 stage.order) =
    c.count_common.ensures ∙ ap (λ n. count_by (λ x. bit_in row x && bit_in alive x) (range_with_len 0 n)) width
    ∙ count_vertices (λ x. bit_in row x && bit_in alive x) stage.order none in
    looked stage (row_of rows) (row_of (set rows1 v row)) opened alive s v here
    (λ y ne. row_other rows1 v y row ne ∙ others c' y ne)
    (ap length own ∙ c.unite_open.ensures.len ∙ ap length is)
    (λ x t. subst (λ z. IsTrue (bit_in z x)) (sym own) (c.unite_open.ensures.kept x (subst (λ z. IsTrue (bit_in z x)) (sym is) t)))
    (λ x t. elim (c.unite_open.ensures.from x (subst (λ z. IsTrue (bit_in z x)) own t)) [
      | inl t ↦ inl (subst (λ z. IsTrue (bit_in z x)) is t)
      | inr o ↦ (let e = others c' o.0 (apart o.0 o.1) in inr
          (o.0, o.1, subst (λ z. IsTrue (bit_in z v)) e o.2, subst (λ z. IsTrue (bit_in z x)) e o.3))
    ])
    (λ p x h u t. (
    let e = sym (others c' p (apart p h)) in
    subst (λ z. IsTrue (bit_in z x)) (sym own)
    (c.unite_open.ensures.to x (p, h, subst (λ z. IsTrue (bit_in z v)) e u, subst (λ z. IsTrue (bit_in z x)) e t))
    ))
    c.saturating_sub-degree.result
    (c.saturating_sub-degree.ensures ∙ ap (λ k. k - 1) (count
    ∙ ap (λ z. count_by (λ x. bit_in z x && bit_in c.args.alive.now x) (range_with_len 1 stage.order)) (sym own)))
