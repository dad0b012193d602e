-- The orders of a term are ways through its states from the first to the last, so they are traversals.
use Rattle.std.proofs.Common.{ℕ, ◌+◌, max, List, [], ◌∷◌, ◌++◌, append_assoc, refl, subst, inl, inr}
use Rattle.mp_system.specs.Traversal.{IsTraversal}
use Rattle.sp_terms.specs.Term.{Term, hold, series, par, Parts, no_parts, part, forward, backward, hill_of, IsAllowed}
use Rattle.sp_terms.specs.SystemOfTerm.{task_count, own_number, system_of_term}
use Rattle.sp_term_laws.specs.Moves.{memory_of, first_state, first_states}
use Rattle.sp_term_laws.specs.Ways.{Way, Ways, still, stills, onward}
use Rattle.sp_term_laws.proofs.Parts.{has_parts}
use Rattle.sp_term_laws.proofs.Runs.{way-traversal}
use Rattle.sp_term_laws.proofs.Ways.{way_joined, in_first, in_second, in_par, in_head, in_tail, ways_joined}
use Rattle.term_orders.specs.declared.side.Side.{Side}
use Rattle.term_orders.specs.declared.side.Side.TheVariants.{FirstPart, LastPart}
use Rattle.term_orders.specs.TermOrders.{order_of, order_of_parts}

-- a way through a whole term, with some greatest memory
record Whole (base : ℕ) (t : Term) (order : List ℕ) : Type 0 where
  most : ℕ
  way : Way forward base t (first_state forward t) order most (first_state backward t)

record WholeParts (base : ℕ) (ts : Parts) (order : List ℕ) : Type 0 where
  most : ℕ
  ways : Ways forward base ts (first_states forward ts) order most (first_states backward ts)

mutual
  order_way : (side : Side) (base : ℕ) (t : Term) → Whole base t (order_of side base t)
  order_way side base (hold size) = record { most = size; way = still tt }
  order_way side base (series a v b) =
      let one = order_way side base a in
      let two = order_way side (base + task_count a) b in
      let own = own_number base a b in
      let hill = max one.most (max (hill_of a v b) (memory_of b (first_state forward b))) in
      let until : Way forward base (series a v b) (inl (first_state forward a)) (order_of side base a ++ own ∷ []) hill
      (inr (first_state forward b)) =
      onward own (hill_of a v b) (in_first v b one.way) (refl, refl, refl, refl) in
      subst (Whole base (series a v b)) (append_assoc (order_of side base a) (own ∷ []) (order_of side (base + task_count a) b))
      (record { most = max hill two.most; way = way_joined until (in_second a v two.way) })
  order_way side base (par ts) =
      let all = order_ways side base ts in
      record { most = all.most; way = in_par all.ways }

  order_ways : (side : Side) (base : ℕ) (ts : Parts) → WholeParts base ts (order_of_parts side base ts)
  order_ways side base no_parts = record { most = 0; ways = stills tt }
  order_ways FirstPart base (part t ts) =
      let one = order_way FirstPart base t in
      let others = order_ways FirstPart (base + task_count t) ts in
      record {
        most = _;
        ways = ways_joined (in_head ts (first_states forward ts) one.way) (in_tail t (first_state backward t) others.ways);
      }
  order_ways LastPart base (part t ts) =
      let one = order_way LastPart base t in
      let others = order_ways LastPart (base + task_count t) ts in
      record {
        most = _;
        ways = ways_joined (in_tail t (first_state forward t) others.ways) (in_head ts (first_states backward ts) one.way);
      }

pub order_traversal : (side : Side) (t : Term) → IsAllowed t → IsTraversal (system_of_term t) (order_of side 1 t)
order_traversal side t allowed =
    let whole = order_way side 1 t in
    (way-traversal t (has_parts t allowed) (order_of side 1 t) whole.most whole.way).0
