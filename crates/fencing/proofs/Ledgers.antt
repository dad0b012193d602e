-- What is free along an order, one task after the other.
use Rattle.std.proofs.Common.{◌≡◌, ◌≢◌, ℕ, ◌+◌, ◌-◌, ◌<◌, ◌≤◌, Bool, true, false, cond, eqb, eq-eqb, List, [], ◌∷◌, ◌++◌, append_assoc, length, get_or, refl, sym, ap, subst, ◌∙◌, arith, ⊎_elim}
use Rattle.std.specs.Prelude.{All}
use Rattle.std.specs.List.{sum_by}
use Rattle.std.proofs.lemmas.Bool.{cases_Bool, cases_eq, ne_eqb}
use Rattle.lists.proofs.Bools.{or_false}
use Rattle.lists.proofs.Orders.{lt_or_le}
use Rattle.std.proofs.lemmas.List.{length-append}
use Rattle.std.proofs.lemmas.List.Elements.{All-nil, All-append, All-head, All-tail}
use Rattle.std.proofs.lemmas.List.Sums.{count_by-le-length, sum_by-append, sum_by-cons}
use Rattle.mp_system.specs.System.{TaskSystem, IsTask, inputs_of, outputs_of}
use Rattle.mp_system.specs.Memory.{state_memory, stands_in}
use Rattle.mp_system.specs.Traversal.{IsTraversal}
use Rattle.fences.specs.Moments.{numbers_of}
use Rattle.fences.proofs.Swaps.{count_of, once_in_range}
use Rattle.fences.proofs.Chains.{task as task_at_split}
use Rattle.fences.proofs.ChainAmounts.{pushed, stands_once}
use Rattle.fencing.specs.Needs.{taken_need}
use Rattle.fencing.specs.declared.ledger.Piece.{Piece}
use Rattle.fencing.specs.declared.ledger.Taking.{Taking}
use Rattle.fencing.specs.Takings.{AreTakings, GoesForward, IsCarried, IsLedger, Takes, amount_from, amount_to, draws_of, fences_among, is_fence, kept_of, pieces_with, taken_by, taken_from, taking_amount}
use Rattle.fencing.proofs.Taken.{all_with, kept_with, long_with}
use Rattle.fencing.proofs.Sums.{all_taken, changed, from_among, sum_none, sums_add, sums_same, taken_aimed}

-- before the first task
pub ledger_start : (system : TaskSystem) (bound pool : ℕ) → pool + state_memory system (λ _. false) ≡ bound → IsLedger system bound [] pool [] []
ledger_start system bound pool left = record {
  whole = omega (arith, left);
  drawn = omega (arith, left, sum_none (draws_of system [] []) (λ v. refl) (numbers_of system));
  taken = λ v. omega arith;
  given = λ v. omega arith;
  forward = All-nil (GoesForward []);
  carried = All-nil (IsCarried system.items);
  solid = All-nil (λ (t : Taking). 1 ≤ t.amount);
  few = omega arith;
  unfenced = λ some. refl;
}

-- after one more
module _ (system : TaskSystem) (bound : ℕ) (before : List ℕ) (v : ℕ) (task : IsTask system v) (fresh : stands_in before v ≡ false) where
  abbrev later_tasks : List ℕ
  later_tasks = before ++ v ∷ []

  here_stands : stands_in later_tasks v ≡ true
  here_stands = pushed before v v ∙ rw (fresh, eq-eqb v v refl) refl

  other_stands : (u : ℕ) → v ≢ u → stands_in later_tasks u ≡ stands_in before u
  other_stands u other = pushed before v u ∙ rw (ne_eqb u v (λ e. other (sym e))) (or_false (stands_in before u))

  module _
      (pool left : ℕ) (pieces later : List Piece) (takings more : List Taking) (amount freed : ℕ)
      (is : IsLedger system bound before pool pieces takings) (takes : Takes system.items v amount pieces later takings more) where
    taken_here : taken_by more v ≡ amount
    taken_here =
        let none : taken_by takings v ≤ 0 = subst (λ (b : Bool). taken_by takings v ≤ cond b (taken_need system v) 0) fresh (is.taken v) in
        let all : taken_by takes.added v ≡ sum_by taking_amount takes.added = taken_aimed v takes.added takes.aimed v ∙ rw (eq-eqb v v refl) refl in
        omega (arith, none, all, takes.total, ap (λ (l : List Taking). taken_by l v) takes.more_are, sum_by-append (amount_to v) takings takes.added)

    taken_there : (u : ℕ) → v ≢ u → taken_by more u ≡ taken_by takings u
    taken_there u other =
        let none : taken_by takes.added u ≡ 0 = taken_aimed v takes.added takes.aimed u ∙ rw (ne_eqb v u other) refl in
        omega (arith, none, ap (λ (l : List Taking). taken_by l u) takes.more_are, sum_by-append (amount_to u) takings takes.added)

    given_all : (u : ℕ) → kept_of (pieces_with later v freed) u + taken_from more u ≡ kept_of pieces u + taken_from takings u + cond (eqb v u) freed 0
    given_all u =
        omega (
          arith,
          kept_with later v freed u,
          takes.each u,
          ap (λ (l : List Taking). taken_from l u) takes.more_are,
          sum_by-append (amount_from u) takings takes.added,
        )

    given_here : kept_of (pieces_with later v freed) v + taken_from more v ≡ freed
    given_here =
        let none : kept_of pieces v + taken_from takings v ≤ 0 =
        subst (λ (b : Bool). kept_of pieces v + taken_from takings v ≤ cond b (inputs_of system v + taken_need system v - outputs_of system v) 0) fresh (is.given v) in
        let here : cond (eqb v v) freed 0 ≡ freed = rw (eq-eqb v v refl) refl in
        omega (arith, none, here, given_all v)

    given_there : (u : ℕ) → v ≢ u → kept_of (pieces_with later v freed) u + taken_from more u ≡ kept_of pieces u + taken_from takings u
    given_there u other =
        let none : ◌≡◌ {A = ℕ} (cond (eqb v u) freed 0) 0 = rw (ne_eqb v u other) refl in
        omega (arith, none, given_all u)

    draws_here : draws_of system later_tasks more v ≡ taken_need system v - amount
    draws_here = rw (here_stands, taken_here) refl

    draws_before : draws_of system before takings v ≡ 0
    draws_before = rw fresh refl

    draws_there : (u : ℕ) → v ≢ u → draws_of system before takings u ≡ draws_of system later_tasks more u
    draws_there u other = rw (other_stands u other, taken_there u other) refl

    old_forward : (taking : Taking) → GoesForward before taking → GoesForward later_tasks taking
    old_forward taking goes = record {
      before = goes.before;
      rest = goes.rest ++ v ∷ [];
      split = ap (λ (l : List ℕ). l ++ v ∷ []) goes.split ∙ append_assoc goes.before (taking.to ∷ goes.rest) (v ∷ []);
      stands = goes.stands;
    }

    stands_for : (u x : ℕ) → 1 ≤ x → x ≤ kept_of pieces u → stands_in before u ≡ true
    stands_for u x some among =
        ⊎_elim
        (λ s. s)
        (λ n.
        let none : kept_of pieces u + taken_from takings u ≤ 0 =
        subst (λ (b : Bool). kept_of pieces u + taken_from takings u ≤ cond b (inputs_of system u + taken_need system u - outputs_of system u) 0) n (is.given u) in
        absurd (omega arith))
        (cases_Bool (stands_in before u))

    new_forward : All (GoesForward later_tasks) takes.added
    new_forward k d lt =
        let taking = get_or takes.added k d in
        let aimed : taking.to ≡ v = takes.aimed k d lt in
        let among = from_among takes.added k d lt in
        let solid : 1 ≤ taking.amount = takes.solid k d lt in
        record {
          before = before;
          rest = [];
          split = ap (λ (w : ℕ). before ++ w ∷ []) (sym aimed);
          stands = stands_for taking.from taking.amount solid (omega (arith, among, takes.each taking.from));
        }

    pub ledger_next :
        freed + outputs_of system v ≡ inputs_of system v + taken_need system v
        → state_memory system (stands_in later_tasks) + inputs_of system v ≡ state_memory system (stands_in before) + outputs_of system v
        → amount ≤ taken_need system v
        → amount + pool ≡ taken_need system v + left
        → fences_among more + length later ≤ fences_among takings + length pieces + 1
        → (1 ≤ left → fences_among more ≡ fences_among takings)
        → IsLedger system bound later_tasks left (pieces_with later v freed) more
    ledger_next all_freed stepped within drawn few same =
        let numbers = numbers_of system in
        let sums = changed (draws_of system before takings) (draws_of system later_tasks more) v draws_there numbers (once_in_range 1 (length system.tasks) v task.0 (omega (arith, task.1))) in
        record {
          whole = omega (arith, is.whole, all_with later v freed, takes.less, all_freed, stepped, drawn);
          drawn = omega (arith, is.drawn, sums, draws_here, draws_before, within, drawn);
          taken = λ u. ⊎_elim
              (λ (same : v ≡ u). rw (← same, here_stands, taken_here) within)
              (λ other. rw (other_stands u other, taken_there u other) (is.taken u))
              (cases_eq v u);
          given = λ u. ⊎_elim
              (λ (same : v ≡ u). rw (← same, here_stands) (omega (arith, given_here, all_freed)))
              (λ other. rw (other_stands u other) (omega (arith, given_there u other, is.given u)))
              (cases_eq v u);
          forward = rw takes.more_are (All-append (GoesForward later_tasks) takings takes.added (λ k d lt. old_forward (get_or takings k d) (is.forward k d lt)) new_forward);
          carried = rw takes.more_are (All-append (IsCarried system.items) takings takes.added is.carried takes.carried);
          solid = rw takes.more_are (All-append (λ (t : Taking). 1 ≤ t.amount) takings takes.added is.solid takes.solid);
          few = omega (arith, is.few, few, long_with later v freed, length-append before (v ∷ []));
          unfenced = λ some. same some ∙ is.unfenced (omega (arith, drawn, within));
        }

-- what is taken is at least as much as there are takings
as_many : (takings : List Taking) → All (λ (t : Taking). 1 ≤ t.amount) takings → length takings ≤ sum_by taking_amount takings
as_many [] solid = omega arith
as_many (taking ∷ takings) solid =
    omega (
      arith,
      All-head (λ (t : Taking). 1 ≤ t.amount) taking takings solid,
      as_many takings (All-tail (λ (t : Taking). 1 ≤ t.amount) taking takings solid),
      sum_by-cons taking_amount taking takings,
    )

-- after all of them
module _ (system : TaskSystem) (bound : ℕ) (order : List ℕ) (pool : ℕ) (pieces : List Piece) (takings : List Taking) (is : IsLedger system bound order pool pieces takings)
    (traversal : IsTraversal system order) where
  all_stand : (v : ℕ) → IsTask system v → stands_in order v ≡ true
  all_stand v task = stands_once order v (omega (arith, traversal.once v task))

  taken : (v : ℕ) → IsTask system v → taken_by takings v ≤ taken_need system v
  taken v task = subst (λ (b : Bool). taken_by takings v ≤ cond b (taken_need system v) 0) (all_stand v task) (is.taken v)

  drawn : state_memory system (λ _. false) + sum_by (λ v. taken_need system v - taken_by takings v) (numbers_of system) + pool ≡ bound
  drawn =
      omega (
        arith,
        is.drawn,
        sums_same (draws_of system order takings) (λ v. taken_need system v - taken_by takings v) 1 (length system.tasks) (λ v low high. rw (all_stand v (low, omega (arith, high))) refl),
      )

  aimed : All (λ (t : Taking). count_of (numbers_of system) t.to ≡ 1) takings
  aimed k d lt =
      let goes = is.forward k d lt in
      let to = task_at_split system order traversal goes.before goes.rest (get_or takings k d).to goes.split in
      once_in_range 1 (length system.tasks) (get_or takings k d).to to.0 (omega (arith, to.1))

  both : sum_by (λ v. taken_need system v - taken_by takings v) (numbers_of system) + sum_by taking_amount takings ≡ sum_by (taken_need system) (numbers_of system)
  both =
      omega (
        arith,
        all_taken takings (numbers_of system) aimed,
        sums_add (λ v. taken_need system v - taken_by takings v) (taken_by takings) (taken_need system) 1 (length system.tasks) (λ v low high. omega (arith, taken v (low, omega (arith, high)))),
      )

  none : state_memory system (λ _. false) + sum_by (taken_need system) (numbers_of system) ≤ bound → fences_among takings ≡ 0
  none enough =
      ⊎_elim
      (λ (some : 0 < pool). is.unfenced (omega arith))
      (λ empty. omega (arith, empty, enough, drawn, both, as_many takings is.solid, count_by-le-length is_fence takings))
      (lt_or_le 0 pool)

  pub takings_are : length order ≡ length system.tasks → AreTakings system order bound takings
  takings_are long = record {
    drawn = omega (arith, drawn);
    taken = taken;
    given = λ v task. (
        let given = subst (λ (b : Bool). kept_of pieces v + taken_from takings v ≤ cond b (inputs_of system v + taken_need system v - outputs_of system v) 0) (all_stand v task) (is.given v) in
        omega (arith, given));
    forward = is.forward;
    carried = is.carried;
    solid = is.solid;
    few = omega (arith, is.few, long);
    none = none;
  }
