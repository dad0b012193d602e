use Rattle.std.proofs.Common.{◌||◌, ℕ, eqb, List, [], IsTrue, length, get_or, arith, inl, inr, refl, sym, ap, ◌∙◌, subst}
use Rattle.std.proofs.lemmas.Bool.{cases_eq, both_ways}
use Rattle.patterns.specs.Pattern.{IsPattern, is_joined, has}
use Rattle.elimination.specs.Elimination.{IsVertex, IsAdjacency}
use Rattle.bit_rows.specs.Bits.{bit_in}
use Rattle.elimination.specs.Dense.{IsFilling, IsDense, IsDenseUnderWay, stage_of, width_of}
use Rattle.elimination.specs.declared.dense.DenseSearch.{DenseSearch}
use Rattle.patterns.proofs.NumberLists.{has_at}
use Rattle.elimination.proofs.Orders.{begun_none}
use Rattle.elimination.proofs.DenseFilling.{filled}
use Rattle.elimination.proofs.dense_tests.full_search.Goals as goal

adjacent : (rows : List (List ℕ)) → IsPattern rows → IsAdjacency (is_joined rows)
adjacent rows p = record {
  symmetric = p.symmetric;
  irreflexive = λ a t. both_ways _ (p.irreflexive a) t;
  none_of_0 =
      λ b t. both_ways _ refl t;
}

begun : (rows : List (List ℕ)) (search : DenseSearch) → IsPattern rows → IsFilling (stage_of (is_joined rows) (length rows) []) search
    → ((x : ℕ) → IsVertex (length rows) x → IsTrue (bit_in search.alive x)) → IsDenseUnderWay (is_joined rows) [] search
begun rows search p s all =
    let joined = is_joined rows in
    let dense = filled (stage_of (is_joined rows) (length rows) []) search (adjacent rows p)
    (λ a b t. (p.inside b a (p.symmetric a b t), refl)) s (λ x lx. all x lx.0) in
    record {
      begun = begun_none joined search.order;
      dense = subst (λ n. IsDense (stage_of (is_joined rows) n []) search) (sym s.order_is) dense;
    }

pub loop-v-init : goal.loop-v-init
loop-v-init c = record {
  filling = c.in_ok-search.ensures.filling (stage_of (is_joined c.args.pattern.now) (length c.args.pattern.now) []) c.rows-n.ensures.value;
  passed = λ x one lt. absurd (omega arith);
}

pub set_bits-requires : goal.set_bits-requires
set_bits-requires c = λ j lt.
    let p = c.rows-n.ensures.pattern in
    let h = subst (λ z. IsTrue (has z (get_or c.neighbours.result.now j 0))) c.neighbours.ensures (has_at c.neighbours.result.now j lt) in
    let v = (p.inside c.loop-v.v (get_or c.neighbours.result.now j 0) h).1 in
    let n = c.rows-n.ensures.value in
    let l = c.in_ok-row.ensures.len in
    omega arith

pub put-requires : goal.put-requires
put-requires c = (
  stage_of (is_joined c.args.pattern.now) (length c.args.pattern.now) [],
  c.loop-v.invariant.filling,
  ((let n = c.rows-n.ensures.value in (omega arith, omega arith)), refl),
)

pub loop-v-preserved : goal.loop-v-preserved
loop-v-preserved c =
    let v = c.loop-v.v in
    let rows = c.args.pattern.now in
    let stage = stage_of (is_joined c.args.pattern.now) (length c.args.pattern.now) [] in
    let n = c.rows-n.ensures.value in
    record {
      filling = c.put.ensures.filled stage c.loop-v.invariant.filling ((omega arith, omega arith), refl)
          (record {
            width = c.set_bits.ensures.len ∙ c.in_ok-row.ensures.len ∙ ap width_of n;
            exact = λ x lx.
                c.set_bits.ensures.bits x
                ∙ ap (λ b. b || has c.neighbours.result.now x) (c.in_ok-row.ensures.bits x)
                ∙ ap (λ z. eqb v x || has z x) c.neighbours.ensures;
          })
          (omega arith);
      passed = λ x one lt. elim (cases_eq x v) [
        | inl e ↦ ap (bit_in c.put.new.self.alive) e ∙ c.put.ensures.put
        | inr ne ↦ c.put.ensures.others x ne ∙ c.loop-v.invariant.passed x one (omega arith)
      ];
    }

pub returns-clause-order : goal.returns-clause-order
returns-clause-order c = c.loop-v.invariant.filling.order_is

pub returns-clause-begins : goal.returns-clause-begins
returns-clause-begins c =
    let n = c.rows-n.ensures.value in
    begun c.args.pattern.now c.loop-v.search c.rows-n.ensures.pattern c.loop-v.invariant.filling
    (λ x vx. let one = vx.0 in let le = vx.1 in c.loop-v.invariant.passed x one (omega arith))
