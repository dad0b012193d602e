-- The tasks of the merged side are those of the sides, each in their order.
use Rattle.std.proofs.Common.{◌≡◌, ℕ, ◌<◌, List, [], ◌∷◌, ◌++◌, refl, ap, sym, ◌∙◌, arith, subst, true, ◌⊎◌, inl, inr, append_assoc}
use Rattle.side_laws.specs.Segments.{IsRising, StartsAbove}
use Rattle.side_laws.specs.Merging.{AllEmpty, AllRising, IsInterleaving}
use Rattle.hill_valley.specs.Side.{Run, run_profile, tasks_of, insert_run}
use Rattle.segment_merge.specs.Merging.{insert_runs, merge_runs, run_profiles, all_tasks_of}
use Rattle.hill_valley.specs.Laws.{RunLaws}
use Rattle.segment_merge.proofs.Order.{in_front, further, joined, put_nil}
use Rattle.lists.proofs.Orders.{compare as order}
use Rattle.std.proofs.lemmas.Bool.Decides.{nat_tests}

-- zs has the elements of xs and of ys, each in their order
abbrev IsShuffle : List ℕ → List ℕ → List ℕ → Type 0
IsShuffle xs ys [] = (xs ≡ []) × (ys ≡ [])
IsShuffle xs ys (z ∷ zs) =
    ((rest : List ℕ) × (xs ≡ z ∷ rest) × IsShuffle rest ys zs) ⊎ ((rest : List ℕ) × (ys ≡ z ∷ rest) × IsShuffle xs rest zs)

shuffle_right : (ys : List ℕ) → IsShuffle [] ys ys
shuffle_right [] = (refl, refl)
shuffle_right (y ∷ ys) = inr (ys, refl, shuffle_right ys)

shuffle_left : (xs : List ℕ) → IsShuffle xs [] xs
shuffle_left [] = (refl, refl)
shuffle_left (x ∷ xs) = inl (xs, refl, shuffle_left xs)

shuffle_before : (ts xs ys zs : List ℕ) → IsShuffle xs ys zs → IsShuffle (ts ++ xs) ys (ts ++ zs)
shuffle_before [] xs ys zs h = h
shuffle_before (t ∷ ts) xs ys zs h = inl (ts ++ xs, refl, shuffle_before ts xs ys zs h)

shuffle_beside : (ts xs ys zs : List ℕ) → IsShuffle xs ys zs → IsShuffle xs (ts ++ ys) (ts ++ zs)
shuffle_beside [] xs ys zs h = h
shuffle_beside (t ∷ ts) xs ys zs h = inr (ts ++ ys, refl, shuffle_beside ts xs ys zs h)

past : (u : ℕ) (s : Run) (ss : List Run) → u < s.up → IsRising (run_profile (s ∷ ss)) → StartsAbove u (run_profile ss)
past u s [] h r = tt
past u s (t ∷ ss) h r = let q = r.0 in omega arith

-- a run that is lower than all of a side stays in front
pub put_cons : (ss : List Run) (e : Run) (es : List Run) → StartsAbove e.up (run_profile ss)
    → IsRising (run_profile ss) → insert_runs ss (e ∷ es) ≡ e ∷ insert_runs ss es
put_cons [] e es a r = refl
put_cons (s ∷ ss) e es a r = ap (insert_run true s) (put_cons ss e es (past e.up s ss a r) r.1) ∙ further true s e (insert_runs ss es) a

in_place_before : (s e : Run) (es : List Run) → s.up ≡ e.up → tasks_of (insert_run true s (e ∷ es)) ≡ s.tasks ++ (e.tasks ++ tasks_of es)
in_place_before s e es h = ap tasks_of (joined s e es h) ∙ append_assoc s.tasks e.tasks (tasks_of es)

pub after_step : (u : ℕ) (s e : Run) (es : List Run) → u < s.up → u < e.up → StartsAbove u (run_profile (insert_run true s (e ∷ es)))
after_step u s e es hs he = grind (arith, nat_tests)

pub after_insert : (u : ℕ) (s : Run) (es : List Run) → u < s.up
    → StartsAbove u (run_profile es) → StartsAbove u (run_profile (insert_run true s es))
after_insert u s [] hs he = hs
after_insert u s (e ∷ es) hs he = after_step u s e es hs he

after_put : (u : ℕ) (ss es : List Run) → StartsAbove u (run_profile ss) → IsRising (run_profile ss)
    → StartsAbove u (run_profile es) → StartsAbove u (run_profile (insert_runs ss es))
after_put u [] es a r h = h
after_put u (s ∷ ss) es a r h = after_insert u s (insert_runs ss es) a (after_put u ss es (past u s ss a r) r.1 h)

pub cons_front : (s : Run) (es : List Run) → StartsAbove s.up (run_profile es) → insert_run true s es ≡ s ∷ es
cons_front s [] h = refl
cons_front s (e ∷ es) h = in_front true s e es h

lowest_first : (s : Run) (ss : List Run) (e : Run) (es : List Run) → IsRising (run_profile (s ∷ ss))
    → s.up < e.up → insert_runs (s ∷ ss) (e ∷ es) ≡ s ∷ insert_runs ss (e ∷ es)
lowest_first s ss e es r h = cons_front s (insert_runs ss (e ∷ es)) (after_put s.up ss (e ∷ es) r.0 r.1 h)

module _ (s : Run) (ss : List Run) (rising : IsRising (run_profile (s ∷ ss)))
    (ih : (es : List Run) → IsRising (run_profile es) → IsShuffle (tasks_of ss) (tasks_of es) (tasks_of (insert_runs ss es))) where
  one_more : (es : List Run) → IsRising (run_profile es) → IsShuffle (tasks_of (s ∷ ss)) (tasks_of es) (tasks_of (insert_runs (s ∷ ss) es))
  one_more [] r = subst (λ (l : List Run). IsShuffle (tasks_of (s ∷ ss)) [] (tasks_of l))
      (sym (put_nil (s ∷ ss) rising)) (shuffle_left (tasks_of (s ∷ ss)))
  one_more (e ∷ es) r = elim (order s.up e.up) [
    | inl h ↦
        subst (λ (l : List Run). IsShuffle (tasks_of (s ∷ ss)) (tasks_of (e ∷ es)) (tasks_of l)) (sym (lowest_first s ss e es rising h))
        (shuffle_before s.tasks (tasks_of ss) (tasks_of (e ∷ es)) (tasks_of (insert_runs ss (e ∷ es))) (ih (e ∷ es) r))
    | inr h ↦ elim h [
      | inl h ↦
          let c = put_cons ss e es (subst (λ (u : ℕ). StartsAbove u (run_profile ss)) h rising.0) rising.1 in
          let t = ap (λ (l : List Run). tasks_of (insert_run true s l)) c ∙ in_place_before s e (insert_runs ss es) h in
          subst (λ (l : List ℕ). IsShuffle (tasks_of (s ∷ ss)) (tasks_of (e ∷ es)) l) (sym t)
          (shuffle_before s.tasks (tasks_of ss) (tasks_of (e ∷ es)) (e.tasks ++ tasks_of (insert_runs ss es))
          (shuffle_beside e.tasks (tasks_of ss) (tasks_of es) (tasks_of (insert_runs ss es)) (ih es r.1)))
      | inr h ↦
          subst (λ (l : List Run). IsShuffle (tasks_of (s ∷ ss)) (tasks_of (e ∷ es)) (tasks_of l)) (sym (put_cons (s ∷ ss) e es h rising))
          (shuffle_beside e.tasks (tasks_of (s ∷ ss)) (tasks_of es) (tasks_of (insert_runs (s ∷ ss) es)) (one_more es r.1))
    ]
  ]

shuffled : (ss es : List Run) → IsRising (run_profile ss) → IsRising (run_profile es)
    → IsShuffle (tasks_of ss) (tasks_of es) (tasks_of (insert_runs ss es))
shuffled [] es rs re = shuffle_right (tasks_of es)
shuffled (s ∷ ss) es rs re = one_more s ss rs (λ fs rf. shuffled ss fs rs.1 rf) es re

-- ---- many lists

empty_at : (lists rests : List (List ℕ)) → lists ≡ rests → AllEmpty rests → AllEmpty lists
empty_at lists rests e h = rw e h

-- one more list
woven : (zs xs ys : List ℕ) (lists : List (List ℕ)) → IsShuffle xs ys zs → IsInterleaving lists ys → IsInterleaving (xs ∷ lists) zs
woven [] xs ys lists h k =
    let (rests, takes, ends) = rw h.1 at k in
    (xs ∷ lists, refl, (h.0, empty_at lists rests takes ends))
woven (z ∷ zs) xs ys lists (inl (rest, e, h)) k =
    let (rests, takes, ends) = woven zs rest ys lists h k in
    (rests, (rest ∷ lists, inl (e, refl), takes), ends)
woven (z ∷ zs) xs ys lists (inr (rest, e, h)) k =
    let (rests, (next, first, takes), ends) = rw e at k in
    let (rests', takes', ends') = woven zs xs rest next h (rests, takes, ends) in
    (rests', (xs ∷ next, inr (refl, first), takes'), ends')

module _ (laws : RunLaws) where
  rising_inserts : (ss es : List Run) → IsRising (run_profile es) → IsRising (run_profile (insert_runs ss es))
  rising_inserts [] es r = r
  rising_inserts (s ∷ ss) es r = laws.rises true s (insert_runs ss es) (rising_inserts ss es r)

  pub rising_merge : (sides : List (List Run)) → IsRising (run_profile (merge_runs sides))
  rising_merge [] = tt
  rising_merge (side ∷ sides) = rising_inserts side (merge_runs sides) (rising_merge sides)

  pub interleaved : (sides : List (List Run)) → AllRising (run_profiles sides)
      → IsInterleaving (all_tasks_of sides) (tasks_of (merge_runs sides))
  interleaved [] r = ([], refl, tt)
  interleaved (side ∷ sides) r =
      woven (tasks_of (insert_runs side (merge_runs sides))) (tasks_of side) (tasks_of (merge_runs sides)) (all_tasks_of sides)
      (shuffled side (merge_runs sides) r.0 (rising_merge sides)) (interleaved sides r.1)
