use Rattle.std.proofs.Common.{◌≡◌, ℕ, ◌+◌, Bool, true, false, List, get_or, length, arith, sym, ap, ◌∙◌}
use Rattle.bit_rows.specs.Bits.{bit_in}
use Rattle.std.proofs.lemmas.Bool.{not_from_true, not_from_false}
use Rattle.std.proofs.lemmas.List.{get_or_default, get_or-drop}
use Rattle.std.proofs.lemmas.List.Filters.{FiltersInPlace, FiltersInPlace-all, FiltersInPlace-more_no, FiltersInPlace-more_set}
use Rattle.elimination.specs.Dense.{lacks, row_of}
use Rattle.elimination.proofs.DenseBits.{row_get}
use Rattle.elimination.proofs.dense.keep_apart.Goals as goal
use Rattle.elimination.proofs.dense.keep_apart.Goals.{After-index-rows-p}

-- what is left to read is as it was
still : (p : ℕ → Bool) (xs ys : List ℕ) (k i : ℕ) → FiltersInPlace p xs ys k i → get_or ys i 0 ≡ get_or xs i 0
still p xs ys k i f =
    let e : i + 0 ≡ i = omega arith in
    ap (λ z. get_or ys z 0) (sym e) ∙ sym (get_or-drop i ys 0 0) ∙ ap (λ z. get_or z 0 0) f.rest ∙ get_or-drop i xs 0 0
    ∙ ap (λ z. get_or xs z 0) e

pub bounds-rows-p : goal.bounds-rows-p
bounds-rows-p c =
    let lt = c.requires.within c.loop-i.i (omega arith) in
    let e = still (lacks (row_of c.args.rows.now) c.args.v) c.args.pivots.now c.loop-i.pivots c.loop-i.kept c.loop-i.i c.loop-i.invariant in
    omega arith

-- the row that is looked at
other_is : (c : After-index-rows-p) → c.index-rows-p.result ≡ row_of c.args.rows.now (get_or c.loop-i.pivots c.loop-i.i 0)
other_is c =
    let lt = c.requires.within c.loop-i.i (omega arith) in
    let e = still (lacks (row_of c.args.rows.now) c.args.v) c.args.pivots.now c.loop-i.pivots c.loop-i.kept c.loop-i.i c.loop-i.invariant in
    c.index-rows-p.is ∙ row_get c.args.rows.now (get_or c.loop-i.pivots c.loop-i.i 0) c.index-rows-p.result (omega arith)

pub has-requires : goal.has-requires
has-requires c =
    let w = c.requires.widths c.loop-i.i (omega arith) in
    let e = still (lacks (row_of c.args.rows.now) c.args.v) c.args.pivots.now c.loop-i.pivots c.loop-i.kept c.loop-i.i c.loop-i.invariant in
    let l = ap length (other_is (goal.at.has-requires c).After-index-rows-p) in
    let m = ap (λ z. length (row_of c.args.rows.now z)) e in
    omega arith

pub loop-i-preserved-then-has : goal.loop-i-preserved-then-has
loop-i-preserved-then-has c =
    let x = get_or c.loop-i.pivots c.loop-i.i 0 in
    let has_v : bit_in (row_of c.args.rows.now (get_or c.loop-i.pivots c.loop-i.i 0)) c.args.v ≡ true =
    sym (ap (λ z. bit_in z c.args.v) (other_is (goal.at.loop-i-preserved-then-has c).After-index-rows-p)) ∙ sym c.has.ensures
    ∙ c.if-has.true in
    FiltersInPlace-more_no {x = get_or c.loop-i.pivots c.loop-i.i 0} c.loop-i.invariant (omega arith) (not_from_true _ has_v)
    (get_or_default c.loop-i.pivots c.loop-i.i 0 x (omega arith))

pub loop-i-preserved : goal.loop-i-preserved
loop-i-preserved c =
    let x = get_or c.loop-i.pivots c.loop-i.i 0 in
    let has_v : bit_in (row_of c.args.rows.now (get_or c.loop-i.pivots c.loop-i.i 0)) c.args.v ≡ false =
    sym (ap (λ z. bit_in z c.args.v) (other_is (goal.at.loop-i-preserved c).After-index-rows-p)) ∙ sym c.has.ensures ∙ c.if-has.false in
    FiltersInPlace-more_set {x = get_or c.loop-i.pivots c.loop-i.i 0} c.loop-i.invariant (omega arith) (not_from_false _ has_v)
    (get_or_default c.loop-i.pivots c.loop-i.i 0 x (omega arith))

pub returns : goal.returns
returns c = FiltersInPlace-all c.loop-i.invariant (omega arith)
