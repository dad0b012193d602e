use Rattle.std.proofs.Common.{◌≡◌, inl, inr, ℕ, ◌||◌, get_or, length, refl, arith, subst, sym, ap, ◌∙◌, IsTrue}
use Rattle.std.proofs.lemmas.Bool.{cases_eq, or_cases, or_left, or_right, both_ways}
use Rattle.bit_rows.specs.Bits.{bit_in}
use Rattle.elimination.specs.Dense.{row_of}
use Rattle.patterns.proofs.NumberLists.{place_of}
use Rattle.patterns.proofs.NumberLists.{has_at}
use Rattle.elimination.proofs.DenseBits.{row_get}
use Rattle.elimination.proofs.dense.unite_open.Goals as goal
use Rattle.elimination.proofs.dense.unite_open.Goals.{then-has, else-has}

pub loop-p-init : goal.loop-p-init
loop-p-init c = record { len = refl; kept = λ x t. t; from = λ x t. inl t; to = λ j x lt. absurd (omega arith) }

pub has-requires : goal.has-requires
has-requires c =
    let p = get_or c.args.pivots.now c.loop-p.p-index 0 in
    let is : c.index-rows-p.result ≡ row_of c.args.rows.now p = c.index-rows-p.is
    ∙ row_get c.args.rows.now p c.index-rows-p.result (c.requires.within c.loop-p.p-index (omega arith)) in
    let e = ap length is in
    let w = c.requires.widths c.loop-p.p-index (omega arith) in
    let v = c.requires.v in
    omega arith

pub unite-requires : goal.unite-requires
unite-requires c =
    let p = get_or c.args.pivots.now c.loop-p.p-index 0 in
    let is : c.index-rows-p.result ≡ row_of c.args.rows.now p = c.index-rows-p.is
    ∙ row_get c.args.rows.now p c.index-rows-p.result (c.requires.within c.loop-p.p-index (omega arith)) in
    let e = ap length is in
    let w = c.requires.widths c.loop-p.p-index (omega arith) in
    let len = c.loop-p.invariant.len in
    omega arith

pub loop-p-preserved : goal.loop-p-preserved
loop-p-preserved c =
    let i = c.loop-p.p-index in
    let p = get_or c.args.pivots.now c.loop-p.p-index 0 in
    let rows = row_of c.args.rows.now in
    let is : c.index-rows-p.result ≡ row_of c.args.rows.now p = c.index-rows-p.is
    ∙ row_get c.args.rows.now p c.index-rows-p.result (c.requires.within c.loop-p.p-index (omega arith)) in
    let inv = c.loop-p.invariant in
    elim c.if-has.branch [
      | then-has w ↦ (
          let has_v : IsTrue (bit_in (row_of c.args.rows.now (get_or c.args.pivots.now c.loop-p.p-index 0)) c.args.v) =
          subst (λ z. IsTrue (bit_in z c.args.v)) is (sym c.has.ensures ∙ w.if-has.true) in
          let more : (x : ℕ) → bit_in c.if-has.row x ≡
          (bit_in c.loop-p.row x || bit_in (row_of c.args.rows.now (get_or c.args.pivots.now c.loop-p.p-index 0)) x) = λ x.
          ap (λ z. bit_in z x) w.row-is ∙ w.unite.ensures.bits x ∙ ap (λ z. bit_in c.loop-p.row x || bit_in z x) is in
          record {
            len = ap length w.row-is ∙ w.unite.ensures.len ∙ inv.len;
            kept = λ x t. more x ∙ or_left _ _ (inv.kept x t);
            from = λ x t. elim (or_cases _ _ (sym (more x) ∙ t)) [
              | inl t ↦ inv.from x t
              | inr u ↦ inr (p, has_at c.args.pivots.now i (omega arith), has_v, u)
            ];
            to = λ j x lt u t. elim (cases_eq j i) [
              | inl e ↦ more x ∙ or_right (bit_in c.loop-p.row x) _
                  (subst (λ z. IsTrue (bit_in (rows (get_or c.args.pivots.now z 0)) x)) e t)
              | inr ne ↦ more x ∙ or_left _ _ (inv.to j x (omega arith) u t)
            ];
          }
          )
      | else-has w ↦ (
          record {
            len = ap length w.row-is ∙ inv.len;
            kept = λ x t. subst (λ z. IsTrue (bit_in z x)) (sym w.row-is) (inv.kept x t);
            from = λ x t. inv.from x (subst (λ z. IsTrue (bit_in z x)) w.row-is t);
            to = λ j x lt u t. subst (λ z. IsTrue (bit_in z x)) (sym w.row-is) (elim (cases_eq j i) [
              | inl e ↦ absurd (both_ways _ (sym (ap (λ z. bit_in z c.args.v) is) ∙ sym c.has.ensures ∙ w.if-has.false)
                  (subst (λ z. IsTrue (bit_in (rows (get_or c.args.pivots.now z 0)) c.args.v)) e u))
              | inr ne ↦ inv.to j x (omega arith) u t
            ]);
          }
          )
    ]

pub returns-clause-len : goal.returns-clause-len
returns-clause-len c = c.loop-p.invariant.len

pub returns-clause-kept : goal.returns-clause-kept
returns-clause-kept c = c.loop-p.invariant.kept

pub returns-clause-from : goal.returns-clause-from
returns-clause-from c = c.loop-p.invariant.from

pub returns-clause-to : goal.returns-clause-to
returns-clause-to c = λ x (p, h, u, t).
    let at = place_of c.args.pivots.now p h in
    let lt = at.1 in
    c.loop-p.invariant.to at.0 x (omega arith) (subst (λ z. IsTrue (bit_in (row_of c.args.rows.now z) c.args.v)) (sym at.2) u)
    (subst (λ z. IsTrue (bit_in (row_of c.args.rows.now z) x)) (sym at.2) t)
