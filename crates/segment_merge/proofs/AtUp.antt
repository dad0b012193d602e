-- Merged runs, `up` by `up`.
use Rattle.std.proofs.Common.{◌≡◌, ◌≢◌, ℕ, ◌+◌, eqb, cond, Bool, true, false, List, [], ◌∷◌, ◌++◌}
use Rattle.std.proofs.Common.{refl, ap, sym, ◌∙◌, arith, subst, inl, inr, append_assoc}
use Rattle.std.specs.List.{flat_map, sum_by}
use Rattle.std.proofs.lemmas.Bool.Decides.{nat_tests}
use Rattle.std.proofs.lemmas.List.Sums.{sum_by-cons}
use Rattle.hill_valley.specs.Laws.{RunLaws}
use Rattle.hill_valley.specs.Side.{Run, tasks_of, join_runs, insert_run}
use Rattle.segment_merge.specs.Merging.{insert_runs, merge_runs, runs_at, AreMerged}
use Rattle.segment_merge.proofs.Interleaving.{rising_merge}
use Rattle.segment_merge.proofs.Order.{in_front, further, joined}
use Rattle.lists.proofs.Orders.{compare as order}

-- one has a run where the other has one, and their `net` values and their tasks are the same in all
record Same (xs ys : List Run) : Type 0 where
  none : xs ≡ [] → ys ≡ []
  none_back : ys ≡ [] → xs ≡ []
  net : sum_by (λ r. r.net) xs ≡ sum_by (λ r. r.net) ys
  tasks : tasks_of xs ≡ tasks_of ys

same_self : (xs ys : List Run) → xs ≡ ys → Same xs ys
same_self xs ys e =
    record { none = λ n. sym e ∙ n; none_back = λ n. e ∙ n; net = ap (sum_by (λ (r : Run). r.net)) e; tasks = ap tasks_of e }

same_on : (xs ys zs : List Run) → Same xs ys → Same ys zs → Same xs zs
same_on xs ys zs h k =
    record { none = λ n. k.none (h.none n); none_back = λ n. h.none_back (k.none_back n); net = h.net ∙ k.net; tasks = h.tasks ∙ k.tasks }

not_empty : (x : Run) (xs : List Run) → x ∷ xs ≡ [] → ⊥
not_empty x xs e = cc

same_cons : (b : Bool) (s : Run) (xs ys : List Run) → Same xs ys → Same (cond b (s ∷ xs) xs) (cond b (s ∷ ys) ys)
same_cons false s xs ys h = h
same_cons true s xs ys h = record {
  none = λ n. absurd (not_empty s xs n);
  none_back = λ n. absurd (not_empty s ys n);
  net = sum_by-cons (λ (r : Run). r.net) s xs ∙ ap (λ (n : ℕ). s.net + n) h.net ∙ sym (sum_by-cons (λ (r : Run). r.net) s ys);
  tasks = ap (λ (l : List ℕ). s.tasks ++ l) h.tasks;
}

same_joined : (b : Bool) (s e : Run) (xs : List Run)
    → Same (cond b (join_runs true s e ∷ xs) xs) (cond b (s ∷ cond b (e ∷ xs) xs) (cond b (e ∷ xs) xs))
same_joined false s e xs = same_self xs xs refl
same_joined true s e xs = record {
  none = λ n. absurd (not_empty (join_runs true s e) xs n);
  none_back = λ n. absurd (not_empty s (e ∷ xs) n);
  net = omega (
    arith,
    sum_by-cons (λ (r : Run). r.net) (join_runs true s e) xs,
    sum_by-cons (λ (r : Run). r.net) s (e ∷ xs),
    sum_by-cons (λ (r : Run). r.net) e xs,
  );
  tasks = append_assoc s.tasks e.tasks (tasks_of xs);
}

swapped : (up : ℕ) (s e : Run) (xs : List Run) → s.up ≢ e.up → runs_at up (e ∷ s ∷ xs) ≡ runs_at up (s ∷ e ∷ xs)
swapped up s e xs h = grind (arith, nat_tests)

at_inserted : (up : ℕ) (s : Run) (es : List Run) → Same (runs_at up (insert_run true s es)) (runs_at up (s ∷ es))
at_inserted up s [] = same_self (runs_at up (s ∷ [])) (runs_at up (s ∷ [])) refl
at_inserted up s (e ∷ es) = elim (order s.up e.up) [
  | inl h ↦ same_self (runs_at up (insert_run true s (e ∷ es))) (runs_at up (s ∷ e ∷ es)) (ap (runs_at up) (in_front true s e es h))
  | inr h ↦ elim h [
    | inl h ↦
        subst (λ (l : List Run). Same (runs_at up l) (runs_at up (s ∷ e ∷ es))) (sym (joined s e es h))
        (subst (λ (b : Bool). Same (runs_at up (join_runs true s e ∷ es)) (cond b (s ∷ runs_at up (e ∷ es)) (runs_at up (e ∷ es))))
        (ap (λ (n : ℕ). eqb n up) (sym h))
        (same_joined (eqb e.up up) s e (runs_at up es)))
    | inr h ↦
        subst (λ (l : List Run). Same (runs_at up l) (runs_at up (s ∷ e ∷ es))) (sym (further true s e es h))
        (same_on (runs_at up (e ∷ insert_run true s es)) (runs_at up (e ∷ s ∷ es)) (runs_at up (s ∷ e ∷ es))
        (same_cons (eqb e.up up) e (runs_at up (insert_run true s es)) (runs_at up (s ∷ es)) (at_inserted up s es))
        (same_self (runs_at up (e ∷ s ∷ es)) (runs_at up (s ∷ e ∷ es)) (swapped up s e es (λ q. omega arith))))
  ]
]

at_inserts : (up : ℕ) (ss es all : List Run) → Same (runs_at up es) (runs_at up all)
    → Same (runs_at up (insert_runs ss es)) (runs_at up (ss ++ all))
at_inserts up [] es all h = h
at_inserts up (s ∷ ss) es all h =
    same_on (runs_at up (insert_run true s (insert_runs ss es))) (runs_at up (s ∷ insert_runs ss es))
    (runs_at up (s ∷ (ss ++ all))) (at_inserted up s (insert_runs ss es))
    (same_cons (eqb s.up up) s (runs_at up (insert_runs ss es)) (runs_at up (ss ++ all)) (at_inserts up ss es all h))

at_merged : (up : ℕ) (sides : List (List Run)) → Same (runs_at up (merge_runs sides)) (runs_at up (flat_map (λ side. side) sides))
at_merged up [] = same_self [] [] refl
at_merged up (side ∷ sides) = at_inserts up side (merge_runs sides) (flat_map (λ s. s) sides) (at_merged up sides)

pub are_merged : RunLaws → (sides : List (List Run)) → AreMerged sides (merge_runs sides)
are_merged laws sides = record {
  rising = rising_merge laws sides;
  none = λ up. ((at_merged up sides).none, (at_merged up sides).none_back);
  net = λ up. (at_merged up sides).net;
  tasks = λ up. (at_merged up sides).tasks;
}
