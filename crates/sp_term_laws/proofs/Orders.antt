-- A traversal of a term's system is a walk through the term.
use Rattle.std.proofs.Common.{◌≡◌, ℕ, suc, ◌+◌, ◌≤◌, inl, inr, Bool, true, false, cond, refl, sym, subst, ap, arith, ◌∙◌}
use Rattle.std.proofs.Common.{List, [], ◌∷◌, ◌++◌, length, length-append, Option, Some, None, eq-eqb, append_assoc}
use Rattle.std.specs.Prelude.{◌==◌, ◌||◌, ◌&&◌, not, All}
use Rattle.std.specs.List.{count_by, list_all}
use Rattle.std.proofs.Math.Seq.{get_or-append_seam}
use Rattle.std.proofs.lemmas.List.{append-nil}
use Rattle.std.proofs.lemmas.List.Sums.{sum_by-append, sum_by-cons}
use Rattle.mp_system.specs.Memory.{stands_in, is_produced, peak_from}
use Rattle.mp_system.specs.System.{TaskSystem, IsTask, is_input, is_named}
use Rattle.mp_system.specs.Traversal.{IsTraversal}
use Rattle.mp_system.specs.declared.system.Item.{Item}
use Rattle.sp_terms.specs.SystemOfTerm.{own_number, task_count, task_count_of_parts, system_of_term}
use Rattle.sp_terms.specs.Term.{Term, hold, series, par, Parts, no_parts, part, forward, backward}
use Rattle.sp_term_laws.proofs.Parts.{HasParts}
use Rattle.sp_term_laws.specs.Along.{memory_after}
use Rattle.sp_term_laws.specs.Moves.{State, States, memory_of, first_state, first_states}
use Rattle.sp_term_laws.proofs.At.{Ended, At, AllAt, held-at}
use Rattle.sp_term_laws.proofs.Ends.{In, clash}
use Rattle.sp_term_laws.proofs.Next.{Ready, fresh-at}

-- each task in turn is new, and its producers are done
abbrev pub IsLegal : ℕ → List Item → List ℕ → List ℕ → Type 0
IsLegal count all done [] = Unit {0}
IsLegal count all done (v ∷ rest) =
    ((1 ≤ v) × (v ≤ count)) × (stands_in done v ≡ false) × Ready done all v × IsLegal count all (done ++ v ∷ []) rest

-- an element within a list
pub all-here : (P : ℕ → Type 0) (done rest : List ℕ) (v : ℕ) → All P (done ++ v ∷ rest) → P v
all-here P done rest v h = subst P (get_or-append_seam done v rest v) (h (length done) v (omega (arith, length-append done (v ∷ rest))))

-- what a task that is ready consumes has been produced
supplied : (input produced : Bool) → input ≡ true → (not input || produced) ≡ true → produced ≡ true
supplied true produced e h = h
supplied false produced e h = absurd cc

and-true : (x y : Bool) → (x && y) ≡ true → (x ≡ true) × (y ≡ true)
and-true true y e = (refl, e)
and-true false y e = absurd cc

pub ready-items : (done : ℕ → Bool) (items : List Item) (v : ℕ)
    → list_all (λ item. not (is_input v item) || is_produced done item) items ≡ true
    → (item : Item) → In item items → item.to ≡ Some v → is_produced done item ≡ true
ready-items done [] v h item l to = absurd l
ready-items done (x ∷ xs) v h item (inl e) to =
    subst (λ (i : Item). is_produced done i ≡ true) (sym e)
    (supplied (is_input v x) (is_produced done x)
    (ap (λ (o : Option ℕ). is_named o v) (sym (ap (λ (i : Item). i.to) e) ∙ to) ∙ eq-eqb v v refl) (and-true _ _ h).0)
ready-items done (x ∷ xs) v h item (inr l) to = ready-items done xs v (and-true _ _ h).1 item l to

pub has-count : (done : List ℕ) (v : ℕ) → stands_in done v ≡ true → 1 ≤ count_by (λ x. x == v) done
has-count [] v h = absurd (clash (sym h))
has-count (x ∷ xs) v h = rw (sum_by-cons (λ y. cond (y == v) 1 0) x xs) (go (x == v) (has-count xs v) h)
  where
    go : (b : Bool) → (stands_in xs v ≡ true → 1 ≤ count_by (λ y. y == v) xs)
        → (b || stands_in xs v) ≡ true → 1 ≤ cond b 1 0 + count_by (λ y. y == v) xs
    go true k h' = omega arith
    go false k h' = omega (arith, k h')

pub count-has : (done : List ℕ) (v : ℕ) → 1 ≤ count_by (λ x. x == v) done → stands_in done v ≡ true
count-has [] v h = absurd (omega arith)
count-has (x ∷ xs) v h = go (x == v) (count-has xs v) (rw (sum_by-cons (λ y. cond (y == v) 1 0) x xs) at h)
  where
    go : (b : Bool) → (1 ≤ count_by (λ y. y == v) xs → stands_in xs v ≡ true)
        → 1 ≤ cond b 1 0 + count_by (λ y. y == v) xs → (b || stands_in xs v) ≡ true
    go true k h' = refl
    go false k h' = k (omega arith)

count-here : (done rest : List ℕ) (v : ℕ)
    → count_by (λ x. x == v) (done ++ v ∷ rest) ≡ count_by (λ x. x == v) done + suc (count_by (λ x. x == v) rest)
count-here done rest v =
    let a = sum_by-append (λ y. cond (y == v) 1 0) done (v ∷ rest) in
    let b = sum_by-cons (λ y. cond (y == v) 1 0) v rest ∙ ap (λ x. cond x 1 0 + count_by (λ y. y == v) rest) (eq-eqb v v refl) in
    omega (arith, a, b)

pub bool_cases : {A : Type 0} (b : Bool) → (b ≡ true → A) → (b ≡ false → A) → A
bool_cases true f g = f refl
bool_cases false f g = g refl

-- the order of a traversal is legal, from any place on
module _ (s : TaskSystem) (order : List ℕ) (t : IsTraversal s order) where
  legal_from : (done rest : List ℕ) → order ≡ done ++ rest → IsLegal (length s.tasks) s.items done rest
  legal_from done [] e = tt
  legal_from done (v ∷ rest) e =
      let n = ap (count_by (λ x. x == v)) e ∙ count-here done rest v in
      let known : IsTask s v = all-here (IsTask s) done rest v (subst (All (IsTask s)) e t.tasks) in (
        known,
        bool_cases (stands_in done v) (λ k. absurd (omega (arith, t.once v known, n, has-count done v k))) (λ k. k),
        ready-items (stands_in done) s.items v (t.after_suppliers done rest v e),
        legal_from (done ++ v ∷ []) rest (e ∙ sym (append_assoc done (v ∷ []) rest)),
      )

  pub traversal-legal : IsLegal (length s.tasks) s.items [] order
  traversal-legal = legal_from [] order refl

  pub traversal-ended : Ended 1 (length s.tasks) order
  traversal-ended v l m = count-has order v (omega (arith, t.once v (l, omega arith)))

pub legal_split : (count : ℕ) (all : List Item) (done p q : List ℕ)
    → IsLegal count all done (p ++ q) → IsLegal count all done p × IsLegal count all (done ++ p) q
legal_split count all done [] q h = (tt, rw append-nil h)
legal_split count all done (v ∷ p) q (a, b, c, h) =
    let r = legal_split count all (done ++ v ∷ []) p q h in
    ((a, b, c, r.0), rw append_assoc at r.1)

-- the walk

pub memory-le-top : (s : TaskSystem) (done rest : List ℕ) → memory_after s done ≤ peak_from s done rest
memory-le-top s done [] = omega arith
memory-le-top s done (v ∷ rest) = omega arith

mutual
  pub ended_last : (base : ℕ) (done : List ℕ) (t : Term) (s : State t)
      → At base done t s → Ended base (task_count t) done → s ≡ first_state backward t
  ended_last base done (hold size) s h e = refl
  ended_last base done (series a w b) (inl s) (h, k) e =
      absurd (clash (sym (e (own_number base a b) (omega arith) (omega arith)) ∙ k (own_number base a b) (omega arith) (omega arith)))
  ended_last base done (series a w b) (inr s) (k, h) e =
      ap inr (ended_last (base + task_count a) done b s h (λ u l m. e u (omega arith) (omega arith)))
  ended_last base done (par ts) ss h e = all_ended_last base done ts ss h e

  pub all_ended_last : (base : ℕ) (done : List ℕ) (ts : Parts) (ss : States ts)
      → AllAt base done ts ss → Ended base (task_count_of_parts ts) done → ss ≡ first_states backward ts
  all_ended_last base done no_parts ss h e = refl
  all_ended_last base done (part t ts) (s, ss) (h, k) e =
      let p = ended_last base done t s h (λ u l m. e u l (omega arith)) in
      let q = all_ended_last (base + task_count t) done ts ss k (λ u l m. e u (omega arith) (omega arith)) in
      λ i. (p i, q i)

module _ (t : Term) (g : HasParts t) where
  pub memory_at : (done : List ℕ) (s : State t) → At 1 done t s → memory_after (system_of_term t) done ≡ memory_of t s
  memory_at done s h = held-at 1 None None done t s h refl refl

  pub start_at : At 1 [] t (first_state forward t)
  start_at = fresh-at 1 [] t (λ v l m. refl)
