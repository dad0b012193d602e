-- The greatest memory of a way is the peak that its system says.
use Rattle.std.proofs.Common.{◌≡◌, ℕ, max, refl, ap, arith, List, [], ◌∷◌, ◌++◌, reverse, append_assoc, None}
use Rattle.std.proofs.lemmas.List.{append-nil}
use Rattle.mp_system.specs.Memory.{peak_from}
use Rattle.mp_system.specs.System.{TaskSystem}
use Rattle.sp_terms.specs.SystemOfTerm.{system_of_term}
use Rattle.sp_terms.specs.Term.{Term, forward, backward, IsAllowed}
use Rattle.sp_term_laws.specs.Along.{memory_after, memory_while}
use Rattle.sp_term_laws.specs.Moves.{State, memory_of, first_state}
use Rattle.sp_term_laws.specs.Ways.{Run, Way, still, onward}
use Rattle.cut_laws.specs.Below.{TermLaws}
use Rattle.cut_laws.proofs.Needs.{run_needs}

-- one more task at the end

no_more : (system : TaskSystem) (before : List ℕ) (v : ℕ)
    → peak_from system before (v ∷ [])
    ≡ max (memory_after system before) (max (memory_while system (before ++ []) v) (memory_after system (before ++ v ∷ [])))
no_more system before v = rw (append-nil before) refl

pub peak_snoc : (system : TaskSystem) (before xs : List ℕ) (v : ℕ)
    → peak_from system before (xs ++ v ∷ [])
    ≡ max (peak_from system before xs) (max (memory_while system (before ++ xs) v) (memory_after system (before ++ (xs ++ v ∷ []))))
peak_snoc system before [] v = no_more system before v
peak_snoc system before (x ∷ xs) v =
    let ih = peak_snoc system (before ++ x ∷ []) xs v in
    let p : memory_while system ((before ++ x ∷ []) ++ xs) v ≡ memory_while system (before ++ x ∷ xs) v =
    ap (λ l. memory_while system l v) (append_assoc before (x ∷ []) xs) in
    let q : memory_after system ((before ++ x ∷ []) ++ (xs ++ v ∷ [])) ≡ memory_after system (before ++ x ∷ (xs ++ v ∷ [])) =
    ap (memory_after system) (append_assoc before (x ∷ []) (xs ++ v ∷ [])) in
    omega (arith, ih, p, q)

module _ (laws : TermLaws) (t : Term) (allowed : IsAllowed t) where
  -- some way leads from each state to the end
  pub to_end : (s : State t) → (ys : List ℕ) × (k : ℕ) × Way forward 1 t s ys k (first_state backward t)
  to_end s =
      let (ys, k, way) = laws.each backward 1 t s in
      (reverse ys, k, laws.back backward 1 t (first_state backward t) s ys k way)

  pub memory_at : (s : State t) (done : List ℕ) (h : ℕ) → Way forward 1 t (first_state forward t) done h s
      → memory_after (system_of_term t) done ≡ memory_of t s
  memory_at s done h w =
      let (ys, k, on) = to_end s in
      (laws.joined t allowed s done ys h k w on).1

  running_at : (s : State t) (done : List ℕ) (h v r : ℕ) (s' : State t) → Way forward 1 t (first_state forward t) done h s
      → Run forward 1 t s v r s' → memory_while (system_of_term t) done v ≡ r
  running_at s done h v r s' w step =
      let needs = run_needs laws 1 None None t s v r s' step (λ l m. refl) in
      omega (arith, memory_at s done h w, needs.is)

  pub peak_along : {s s' : State t} {xs : List ℕ} {k : ℕ} (done : List ℕ) (h : ℕ)
      → Way forward 1 t (first_state forward t) done h s → Way forward 1 t s xs k s' → peak_from (system_of_term t) done xs ≡ k
  peak_along done h w (still s) = memory_at s done h w
  peak_along done h w (onward {s = s} {s' = m} {s'' = u} {xs = xs} {h = k} v r on step) =
      let before = laws.ways_joined forward 1 t (first_state forward t) s m done xs h k w on in
      let after = laws.ways_joined forward 1 t (first_state forward t) s u done
      (xs ++ v ∷ []) h (max k (max r (memory_of t u))) w (onward v r on step) in
      omega (
        arith,
        peak_snoc (system_of_term t) done xs v,
        peak_along done h w on,
        running_at m (done ++ xs) (max h k) v r u before step,
        memory_at u (done ++ (xs ++ v ∷ [])) (max h (max k (max r (memory_of t u)))) after,
      )
