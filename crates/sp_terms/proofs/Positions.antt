-- The terms at the positions of a list that denotes a term.
use Rattle.std.proofs.Common.{◌≡◌, ℕ, suc, ◌+◌, ◌-◌, ◌<◌, ◌≤◌, refl, sym, subst, ap, arith, ◌∙◌}
use Rattle.std.proofs.Common.{List, [], ◌∷◌, ◌++◌, length, take, drop, map, get_or, Some, All}
use Rattle.std.proofs.lemmas.List.{take-append-drop, take_all}
use Rattle.std.proofs.lemmas.List.Elements.{All-nil, All-cons}
use Rattle.std.specs.List.{sum_by}
use Rattle.std.proofs.lemmas.List.Sums.{sum_by-append, sum_by-take-le}
use Rattle.limits.specs.Limits.{most_total}
use Rattle.mp_system.specs.declared.system.Task.{Task}
use Rattle.sp_terms.specs.declared.position.Position.{Position}
use Rattle.sp_terms.specs.declared.position.Position.TheVariants.{Hold}
use Rattle.sp_terms.specs.Term.{Term, hold, series, par, Parts, no_parts, part, width_of, width_of_parts}
use Rattle.sp_terms.specs.Term.{forward, backward, initial_of, final_of, IsAllowed}
use Rattle.sp_terms.specs.Places.{term_of_position, list_of_parts, parts_of, positions_after, part_positions, IsTermAt}
use Rattle.sp_terms.specs.Postfix.{push_all, postfix, at_task}
use Rattle.sp_terms.specs.Values.{stack_from, last_term, term_at, term_of, IsTerms, AllAllowed, added_size}
use Rattle.sp_terms.proofs.Stacks.{onto, Pushed, held, ran, beside, place, under, prefix}
use Rattle.sp_terms.proofs.Standing.{back_allowed}
use Rattle.sp_terms.proofs.ValuesLemmas.{ends, first-le-weight}

-- where the parts on top of a stack stand, which was left after n positions
record OnStack (ps : List Position) (n : ℕ) (ts : Parts) (rest : List Term) : Type 0 where
  start : ℕ
  width : start + width_of_parts ts ≡ n
  below : push_all (take start ps) [] ≡ Some rest
  terms : map (term_of_position ps) (positions_after start (list_of_parts ts)) ≡ list_of_parts ts
  inside : All (λ j. (1 ≤ j) × (j < suc n)) (positions_after start (list_of_parts ts))

on_stack : (ps : List Position) (n : ℕ) (ts : Parts) (rest : List Term)
    → n ≤ length ps → push_all (take n ps) [] ≡ Some (onto ts rest) → OnStack ps n ts rest
on_stack ps n no_parts rest le e = record { start = n; width = omega arith; below = e; terms = refl; inside = All-nil _ }
on_stack ps n (part t ts) rest le e =
    let more = on_stack ps n ts (t ∷ rest) le e in
    let few : more.start ≤ n = omega (arith, more.width) in
    let u = under ps more.start t rest (omega (arith, few, le)) more.below in
    let end : (more.start - width_of t) + width_of t ≡ more.start = omega (arith, u.room) in
    let here : term_of_position ps more.start ≡ t = ends ps more.start t rest (omega (arith, u.room, u.some)) more.below in
    record {
      start = more.start - width_of t;
      width = omega (arith, end, more.width);
      below = u.is;
      terms = ap (λ m. term_of_position ps m ∷ map (term_of_position ps) (positions_after m (list_of_parts ts))) end
          ∙ (λ i. here i ∷ more.terms i);
      inside = subst (λ m. All (λ j. (1 ≤ j) × (j < suc n)) (m ∷ positions_after m (list_of_parts ts))) (sym end)
          (All-cons (λ j. (1 ≤ j) × (j < suc n)) more.start _ (omega (arith, u.room, u.some), omega (arith, few)) more.inside);
    }

-- what stands at a position
record At (ps : List Position) (k : ℕ) (p : Position) : Type 0 where
  term : Term
  is : term_of_position ps k ≡ term
  own : IsTermAt p term
  parts : map (term_of_position ps) (part_positions k term) ≡ parts_of term
  before : All (λ j. (1 ≤ j) × (j < k)) (part_positions k term)

module _ (ps : List Position) (n : ℕ) (le : n ≤ length ps) where
  parts_at : (t : Term) (ts : Parts) (rest : List Term) → width_of t ≡ suc (width_of_parts ts)
      → parts_of t ≡ list_of_parts ts → push_all (take n ps) [] ≡ Some (onto ts rest)
      → (map (term_of_position ps) (part_positions (suc n) t) ≡ parts_of t) × All (λ j. (1 ≤ j) × (j < suc n)) (part_positions (suc n) t)
  parts_at t ts rest width parts e =
      let o = on_stack ps n ts rest le e in
      let start : suc n - width_of t ≡ o.start = omega (arith, width, o.width) in
      let places : part_positions (suc n) t ≡ positions_after o.start (list_of_parts ts) = (λ i. positions_after (start i) (parts i)) in
      (ap (map (term_of_position ps)) places ∙ o.terms ∙ sym parts, subst (All (λ j. (1 ≤ j) × (j < suc n))) (sym places) o.inside)

  top : (t : Term) (stack : List Term) → push_all (take (suc n) ps) [] ≡ Some (t ∷ stack) → term_of_position ps (suc n) ≡ t
  top t stack e = ap (term_at ps) same ∙ ap (λ o. last_term (stack_from o)) e
    where
      same : suc n - 1 ≡ n
      same = omega arith

  at : (p : Position) (before after : List Term) → push_all (take n ps) [] ≡ Some before
      → push_all (take (suc n) ps) [] ≡ Some after → Pushed p before after → At ps (suc n) p
  at p before after e f (held size stack) =
      let x = parts_at (hold size) no_parts stack refl refl e in
      record { term = hold size; is = top (hold size) stack f; own = refl; parts = x.0; before = x.1 }
  at p before after e f (ran v a b stack) =
      let x = parts_at (series a v b) (part a (part b no_parts)) stack (omega arith) refl e in
      record { term = series a v b; is = top (series a v b) stack f; own = (a, b, refl); parts = x.0; before = x.1 }
  at p before after e f (beside ts stack g) =
      let x = parts_at (par ts) ts stack refl refl e in
      record { term = par ts; is = top (par ts) stack f; own = (ts, refl, refl); parts = x.0; before = x.1 }

module _ (ps : List Position) (k : ℕ) (terms : IsTerms ps) (low : 1 ≤ k) (high : k ≤ length ps) where
  one : suc (k - 1) ≡ k
  one = omega (arith, low)

  here : (d : Position) → At ps k (get_or ps (k - 1) d)
  here d =
      let p = place ps (term_of ps ∷ []) (k - 1) d terms.is (omega (arith, low, high)) in
      subst (λ m. At ps m (get_or ps (k - 1) d)) one
      (at ps (k - 1) (omega (arith, high)) (get_or ps (k - 1) d) p.before p.after p.is p.then p.step)

  pub own_at : (d : Position) → IsTermAt (get_or ps (k - 1) d) (term_of_position ps k)
  own_at d = let h = here d in subst (IsTermAt (get_or ps (k - 1) d)) (sym h.is) h.own

  pub parts_here : map (term_of_position ps) (part_positions k (term_of_position ps k)) ≡ parts_of (term_of_position ps k)
  parts_here = let h = here (Hold 0) in subst (λ t. map (term_of_position ps) (part_positions k t) ≡ parts_of t) (sym h.is) h.parts

  pub before_here : All (λ j. (1 ≤ j) × (j < k)) (part_positions k (term_of_position ps k))
  before_here = let h = here (Hold 0) in subst (λ t. All (λ j. (1 ≤ j) × (j < k)) (part_positions k t)) (sym h.is) h.before

  pub allowed_here : IsAllowed (term_of_position ps k)
  allowed_here =
      let (stack, e, h) = prefix (take k ps) (drop k ps) (term_of ps ∷ []) (ap (λ z. push_all z []) (take-append-drop k ps) ∙ terms.is) in
      go stack e (back_allowed (drop k ps) stack (term_of ps ∷ []) h terms.allowed)
    where
      go : (stack : List Term) → push_all (take k ps) [] ≡ Some stack → AllAllowed stack → IsAllowed (term_of_position ps k)
      go [] e g = subst (λ o. IsAllowed (last_term (stack_from o))) (sym (ap (λ m. push_all (take m ps) []) one ∙ e)) tt
      go (t ∷ stack) e g = subst (λ o. IsAllowed (last_term (stack_from o))) (sym (ap (λ m. push_all (take m ps) []) one ∙ e)) g.0

  -- while the task of a series runs, memory is at most the total of sizes, even without its share
  pub small_here : (a : Term) (v : Task) (b : Term) → term_of_position ps k ≡ series a v b
      → final_of a + (v.extra + initial_of b) ≤ most_total
  small_here a v b is =
      let p = place ps (term_of ps ∷ []) (k - 1) (Hold 0) terms.is (omega (arith, low, high)) in
      go p.after (subst (λ m. push_all (take m ps) [] ≡ Some p.after) one p.then)
    where
      no_series : hold 0 ≡ series a v b → ⊥
      no_series e = cc

      stands : (stack : List Term) → push_all (take k ps) [] ≡ Some stack → last_term stack ≡ series a v b
      stands stack e = sym (ap (λ o. last_term (stack_from o)) (ap (λ m. push_all (take m ps) []) one ∙ e)) ∙ is

      go : (stack : List Term) → push_all (take k ps) [] ≡ Some stack → final_of a + (v.extra + initial_of b) ≤ most_total
      go [] e = absurd (no_series (stands [] e))
      go (t ∷ stack) e =
          let u = under ps k t stack high e in
          let cut : take (k - width_of t) ps ++ postfix (series a v b) ≡ take k ps =
          ap (λ s. take (k - width_of t) ps ++ postfix s) (sym (stands (t ∷ stack) e)) ∙ u.cut in
          omega (
            arith,
            terms.total,
            sum_by-take-le added_size ps k,
            ap (sum_by added_size) cut,
            sum_by-append added_size (take (k - width_of t) ps) (postfix (series a v b)),
            sum_by-append added_size (postfix a) (postfix b ++ at_task v ∷ []),
            sum_by-append added_size (postfix b) (at_task v ∷ []),
            first-le-weight backward a,
            first-le-weight forward b,
          )

pub last_is : (ps : List Position) → IsTerms ps → term_of_position ps (length ps) ≡ term_of ps
last_is ps terms = ap (λ qs. last_term (stack_from (push_all qs []))) (take_all (suc (length ps - 1)) ps (omega arith))
