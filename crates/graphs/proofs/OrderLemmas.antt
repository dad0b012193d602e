-- Of so many tasks, each can be ordered or not: a list of tasks, each after its suppliers, grows until no task can follow.
use Rattle.std.proofs.Common.{◌≡◌, ℕ, zero, suc, ◌+◌, ◌<◌, Bool, true, false, cond, not, ◌&&◌, eqb, eq-eqb}
use Rattle.std.proofs.Common.{List, [], ◌∷◌, ◌++◌, get_or, refl, sym, subst, ◌∙◌, arith, inl, inr, ◌⊎◌}
use Rattle.std.specs.List.{count_by, range_with_len, All}
use Rattle.std.proofs.lemmas.List.Sums.{sum_by-cons}
use Rattle.std.proofs.lemmas.Bool.{cases_eq, cases_lt, cases_Bool, ne_eqb, eqb-true, and_parts, not-true, true_from_ne_false}
use Rattle.mp_system.specs.Memory.{stands_in}
use Rattle.graphs.specs.declared.arc.Arc.{Arc}
use Rattle.graphs.specs.Graph.{IsAmong, IsArcWithin, IsSupplied, AreSupplied, CanBeOrdered}
use Rattle.graphs.specs.Queue.{waits_of}
use Rattle.graphs.proofs.Standing.{stands-new, push-split, count-at, count-some, count-task}
use Rattle.graphs.proofs.QueueLemmas.{supplied, stands-other, IsClosed, ordered-stands}
use Rattle.graphs.proofs.RankLemmas.{nothing-supplied}

-- ---- how many tasks are left

abbrev is_left : List ℕ → ℕ → Bool
is_left list v = not (stands_in list v)

-- how many of so many tasks do not stand in the list
abbrev left : ℕ → List ℕ → ℕ
left n list = count_by (is_left list) (range_with_len 1 n)

one-left : (list : List ℕ) (w v : ℕ) → stands_in list w ≡ false
    → cond {A = ℕ} (is_left list v) 1 0 ≡ cond {A = ℕ} (eqb w v) 1 0 + cond {A = ℕ} (is_left (list ++ w ∷ []) v) 1 0
one-left list w v new = elim (cases_eq w v) [
  | inl e ↦
      subst (λ (u : ℕ). cond {A = ℕ} (is_left list u) 1 0 ≡ cond {A = ℕ} (eqb w u) 1 0 + cond {A = ℕ} (is_left (list ++ w ∷ []) u) 1 0) e
      (rw (new, stands-new list w, eq-eqb w w refl) (omega arith))
  | inr ne ↦ rw (stands-other list w v (λ e. ne (sym e)), ne_eqb w v ne) (omega arith)
]

fewer : (list : List ℕ) (w : ℕ) → stands_in list w ≡ false → (xs : List ℕ)
    → count_by (is_left list) xs ≡ count_by (λ v. eqb w v) xs + count_by (is_left (list ++ w ∷ [])) xs
fewer list w new [] = refl
fewer list w new (x ∷ xs) =
    omega (
      arith,
      sum_by-cons (λ v. cond {A = ℕ} (is_left list v) 1 0) x xs,
      sum_by-cons (λ v. cond {A = ℕ} (eqb w v) 1 0) x xs,
      sum_by-cons (λ v. cond {A = ℕ} (is_left (list ++ w ∷ []) v) 1 0) x xs,
      one-left list w x new,
      fewer list w new xs,
    )

-- ---- the list grows

supplied-push : (arcs : List Arc) (list : List ℕ) (w : ℕ) → AreSupplied arcs list
    → IsSupplied arcs list w → AreSupplied arcs (list ++ w ∷ [])
supplied-push arcs list w h own = record {
  each = λ before rest v split. elim (push-split list w before v rest split) [
    | inl last ↦ subst (IsSupplied arcs before) last.1 (subst (λ (xs : List ℕ). IsSupplied arcs xs w) last.0 own)
    | inr more ↦ h.each before more.0 v more.1
  ];
}

-- a list of tasks, each after its suppliers, that no task can follow
record IsGrown (n : ℕ) (arcs : List Arc) : Type 0 where
  list : List ℕ
  supplied : AreSupplied arcs list
  closed : IsClosed n arcs list

-- whether task v can follow
abbrev is_next : List Arc → List ℕ → ℕ → Bool
is_next arcs list v = is_left list v && eqb (waits_of arcs list v) 0

grow : (n : ℕ) (arcs : List Arc) (m : ℕ) (list : List ℕ) → AreSupplied arcs list → left n list < m → IsGrown n arcs
grow n arcs zero list sup few = absurd (omega arith)
grow n arcs (suc m) list sup few = elim (cases_lt 0 (count_by (is_next arcs list) (range_with_len 1 n))) [
  | inr none ↦ record {
    list = list;
    supplied = sup;
    closed = λ v among idle. true_from_ne_false (stands_in list v) (λ missing.
        let next : is_next arcs list v ≡ true = rw (missing, eq-eqb (waits_of arcs list v) 0 idle) refl in
        absurd (omega (arith, none, count-task (is_next arcs list) n v among next)));
  }
  | inl some ↦ (
      let r = count-some (is_next arcs list) 0 (range_with_len 1 n) (omega (arith, some)) in
      let w = get_or (range_with_len 1 n) r.0 0 in
      let parts = and_parts (is_left list w) (eqb (waits_of arcs list w) 0) r.2 in
      let new : stands_in list w ≡ false = not-true (stands_in list w) parts.0 in
      let own : IsSupplied arcs list w = supplied arcs list list w (eqb-true (waits_of arcs list w) 0 parts.1) (λ u there. there) in
      let one = count-at (λ v. eqb w v) (range_with_len 1 n) r.0 0 r.1 (eq-eqb w w refl) in
      grow n arcs m (list ++ w ∷ []) (supplied-push arcs list w sup own) (omega (arith, few, one, fewer list w new (range_with_len 1 n)))
      )
]

pub ordered_or_not : (n : ℕ) (arcs : List Arc) → All (IsArcWithin n) arcs
    → (v : ℕ) → IsAmong n v → CanBeOrdered arcs v ⊎ (CanBeOrdered arcs v → ⊥)
ordered_or_not n arcs within v among =
    let g = grow n arcs (suc (left n [])) [] (nothing-supplied arcs) (omega arith) in
    elim (cases_Bool (stands_in g.list v)) [
      | inl stands ↦ inl (record { list = g.list; supplied = g.supplied; stands = stands })
      | inr missing ↦ inr (λ ordered. absurd (cc (sym (ordered-stands n arcs g.list g.closed within v among ordered) ∙ missing)))
    ]
