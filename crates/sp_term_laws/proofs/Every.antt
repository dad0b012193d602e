-- Every state of a term stands after some of its tasks, and whatever was done can be completed.
use Rattle.std.proofs.Common.{◌≡◌, ℕ, ◌+◌, ◌≤◌, inl, inr, Bool, true, false, cond, refl, sym, subst, ap}
use Rattle.std.proofs.Common.{arith, ◌∙◌, List, [], ◌∷◌, ◌++◌, length, append_assoc, Option, Some, None}
use Rattle.std.specs.Prelude.{◌==◌, ◌||◌, not, All}
use Rattle.std.specs.List.{count_by, list_all}
use Rattle.std.proofs.lemmas.Bool.{eqb-true}
use Rattle.std.proofs.lemmas.List.{append-nil}
use Rattle.std.proofs.lemmas.List.Sums.{sum_by-cons}
use Rattle.std.proofs.lemmas.List.Elements.{All-nil, All-cons}
use Rattle.mp_system.specs.Memory.{stands_in, is_produced}
use Rattle.mp_system.specs.System.{TaskSystem, IsTask, is_input, is_named}
use Rattle.mp_system.specs.Traversal.{IsTraversal}
use Rattle.mp_system.specs.declared.system.Item.{Item}
use Rattle.sp_term_laws.proofs.At.{Ended}
use Rattle.sp_term_laws.proofs.Ends.{In, clash}
use Rattle.sp_term_laws.proofs.Next.{has-more, has-new}
use Rattle.sp_term_laws.proofs.Orders.{IsLegal, legal_split, has-count, bool_cases}

-- a legal order of all tasks is a traversal

no_input : (input produced : Bool) → (input ≡ true → produced ≡ true) → (not input || produced) ≡ true
no_input true produced h = h refl
no_input false produced h = refl

named_some : (o : Option ℕ) (v : ℕ) → is_named o v ≡ true → o ≡ Some v
named_some None v e = absurd cc
named_some (Some u) v e = ap Some (eqb-true u v e)

-- a task is ready where each producer of what it consumes is done
items-ready : (done : ℕ → Bool) (items : List Item) (v : ℕ)
    → ((item : Item) → In item items → item.to ≡ Some v → is_produced done item ≡ true)
    → list_all (λ item. not (is_input v item) || is_produced done item) items ≡ true
items-ready done [] v h = refl
items-ready done (x ∷ xs) v h =
    rw (
      no_input (is_input v x) (is_produced done x) (λ e. h x (inl refl) (named_some x.to v e)),
      items-ready done xs v (λ item l. h item (inr l)),
    ) refl

legal-tasks : (s : TaskSystem) (done rest : List ℕ) → IsLegal (length s.tasks) s.items done rest → All (IsTask s) rest
legal-tasks s done [] h = All-nil (IsTask s)
legal-tasks s done (v ∷ rest) (m, n, r, l) = All-cons (IsTask s) v rest m (legal-tasks s (done ++ v ∷ []) rest l)

record Counted (count : ℕ) (done rest : List ℕ) (v : ℕ) : Type 0 where
  once : count_by (λ x. x == v) rest ≤ 1
  done_before : stands_in done v ≡ true → count_by (λ x. x == v) rest ≡ 0

counted : (count : ℕ) (all : List Item) (done rest : List ℕ) (v : ℕ) → IsLegal count all done rest → Counted count done rest v
counted count all done [] v h = record { once = omega arith; done_before = λ x. refl }
counted count all done (x ∷ rest) v (m, n, r, l) =
    let y = counted count all (done ++ x ∷ []) rest v l in
    let e = sum_by-cons (λ z. cond (z == v) 1 0) x rest in
    bool_cases (x == v)
    (λ k. let same : x ≡ v = grind arith in
    let zero_rest = y.done_before (subst (λ z. stands_in (done ++ x ∷ []) z ≡ true) same (has-new done x)) in
    let e' = e ∙ ap (λ b. cond b 1 0 + count_by (λ z. z == v) rest) k in
    record {
      once = omega (arith, e', zero_rest);
      done_before = λ h. absurd (clash (sym h ∙ subst (λ z. stands_in done z ≡ false) same n));
    })
    (λ k. let e' = e ∙ ap (λ b. cond b 1 0 + count_by (λ z. z == v) rest) k in
    record { once = omega (arith, e', y.once); done_before = λ h. omega (arith, e', y.done_before (has-more done x v h)) })

pub legal_traversal : (s : TaskSystem) (order : List ℕ)
    → IsLegal (length s.tasks) s.items [] order → Ended 1 (length s.tasks) order → IsTraversal s order
legal_traversal s order h e = record {
  once = λ v range. let c = counted (length s.tasks) s.items [] order v h in
      omega (arith, c.once, has-count order v (e v range.0 (omega (arith, range.1))));
  tasks = legal-tasks s [] order h;
  after_suppliers = λ before rest v eq.
      let k = legal_split (length s.tasks) s.items [] before (v ∷ rest) (subst (IsLegal (length s.tasks) s.items []) eq h) in
      items-ready (stands_in before) s.items v k.1.2;
}

pub legal_append : (count : ℕ) (all : List Item) (done p q : List ℕ)
    → IsLegal count all done p → IsLegal count all (done ++ p) q → IsLegal count all done (p ++ q)
legal_append count all done [] q h k = rw append-nil at k
legal_append count all done (v ∷ p) q (m, n, r, h) k = (m, n, r, legal_append count all (done ++ v ∷ []) p q h (rw append_assoc k))
