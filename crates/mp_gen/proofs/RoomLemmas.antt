-- What a builder has room for, one position further: so none of a random workflow is refused, and one term is left at the end,
-- within the limits.
use Rattle.std.proofs.Common.{◌≡◌, ℕ, zero, suc, ◌+◌, ◌-◌, ◌*◌, ◌≤◌, Bool, true, false, cond, Option, Some, None}
use Rattle.std.proofs.Common.{lit<, List, [], ◌∷◌, ◌++◌, length, refl, sym, ap, subst, ◌∙◌, arith, length-append}
use Rattle.std.specs.Prelude.{◌==◌, ◌&&◌, nat_le, option_and_then}
use Rattle.std.proofs.lemmas.Bool.{leb-true, leb-false}
use Rattle.std.proofs.lemmas.List.Elements.{All-push}
use Rattle.std.proofs.lemmas.List.Sums.{sum_by_push}
use Rattle.limits.specs.Limits.{most_tasks, most_positions, most_total}
use Rattle.rand_pcg.specs.Lcg.{Lcg}
use Rattle.sp_terms.specs.declared.position.Position.{Position}
use Rattle.sp_terms.specs.declared.position.Position.TheVariants.{Hold, Par}
use Rattle.sp_terms.specs.declared.position.Position.TheVariants as at
use Rattle.sp_terms.specs.Term.{Term, hold, series, par, Parts, no_parts, part, count, AreAllowed}
use Rattle.sp_terms.specs.Postfix.{gather, push, push_all}
use Rattle.sp_terms.specs.Values.{stack_from, stack_of, last_term, added_tasks, added_size, IsWithinLimits, AllAllowed, Leaves, IsTerms}
use Rattle.sp_terms.specs.Builder.{IsOneTerm}
use Rattle.mp_gen.specs.Dice.{dice_of, draw}
use Rattle.mp_gen.specs.RandomWorkflow.{height_of, with_hold, with_data, with_task, with_par, with_one, with_tasks, closed, workflow_of}
use Rattle.mp_gen.specs.Room.{HasRoomFor}
use Rattle.mp_gen.proofs.DrawLemmas.{draw-below}

-- ---- the stack after a position

pushed : (ps : List Position) (p : Position) (start stack out : List Term)
    → push_all ps start ≡ Some stack → push p stack ≡ Some out → push_all (ps ++ p ∷ []) start ≡ Some out
pushed [] p start stack out e f =
    let same : start ≡ stack = cc in
    ap (λ (s : List Term). option_and_then (push_all []) (push p s)) same ∙ ap (option_and_then (push_all [])) f
pushed (q ∷ ps) p start stack out e f = go (push q start) e (λ mid g. pushed ps p mid stack out g f)
  where
    go : (o : Option (List Term)) → option_and_then (push_all ps) o ≡ Some stack
        → ((mid : List Term) → push_all ps mid ≡ Some stack → push_all (ps ++ p ∷ []) mid ≡ Some out)
        → option_and_then (push_all (ps ++ p ∷ [])) o ≡ Some out
    go None e rest = cc
    go (Some mid) e rest = rest mid e

-- so many of the terms of a stack, in front of those that were taken
record Gathered (k : ℕ) (stack : List Term) (ts : Parts) : Type 0 where
  pub taken : Parts × List Term
  pub is : gather k stack ts ≡ Some taken
  pub left : length taken.1 + k ≡ length stack
  pub parts : count taken.0 ≡ k + count ts
  pub allowed : AreAllowed taken.0 × AllAllowed taken.1

gathered : (k : ℕ) (stack : List Term) (ts : Parts) → k ≤ length stack → AreAllowed ts → AllAllowed stack → Gathered k stack ts
gathered zero stack ts le a all = record { taken = (ts, stack); is = refl; left = omega arith; parts = omega arith; allowed = (a, all) }
gathered (suc k) [] ts le a all = absurd (omega arith)
gathered (suc k) (t ∷ stack) ts le a all =
    let g = gathered k stack (part t ts) (omega arith) (all.0, a) all.1 in
    record { taken = g.taken; is = g.is; left = omega (arith, g.left); parts = omega (arith, g.parts); allowed = g.allowed }

-- a position finds enough terms, and leaves so many
record Takes (p : Position) (stack : List Term) (height : ℕ) : Type 0 where
  pub out : List Term
  pub is : push p stack ≡ Some out
  pub len : length out ≡ height
  pub allowed : AllAllowed out

takes-task : (extra time : ℕ) (stack : List Term) → 2 ≤ length stack → AllAllowed stack
    → Takes (at.Task extra 0 time) stack (length stack - 1)
takes-task extra time [] two all = absurd (omega arith)
takes-task extra time (b ∷ []) two all = absurd (omega arith)
takes-task extra time (b ∷ (a ∷ stack)) two all = record {
  out = series a (record { extra = extra; share = 0; time = time }) b ∷ stack;
  is = refl;
  len = omega arith;
  allowed = ((omega arith, omega arith, all.1.0, all.0), all.1.1);
}

takes-par : (k : ℕ) (stack : List Term) → k ≤ length stack → 2 ≤ k → AllAllowed stack
    → Takes (Par k) stack (suc (length stack) - k)
takes-par k stack le two all =
    let g = gathered k stack no_parts le tt all in record {
      out = par g.taken.0 ∷ g.taken.1;
      is = ap (option_and_then (λ (p : Parts × List Term). Some (par p.0 ∷ p.1))) g.is;
      len = omega (arith, g.left);
      allowed = ((omega (arith, g.parts), g.allowed.0), g.allowed.1);
    }

-- ---- room

height-is : (ps : List Position) (a t s : ℕ) (room : HasRoomFor ps a t s) → height_of ps ≡ length room.stack
height-is ps a t s room = ap (λ (o : Option (List Term)). length (stack_from o)) room.leaves.is

pub less : (ps : List Position) (a t s a' t' s' : ℕ) → HasRoomFor ps a t s → a' ≤ a → t' ≤ t → s' ≤ s → HasRoomFor ps a' t' s'
less ps a t s a' t' s' room less_a less_t less_s = record {
  stack = room.stack;
  leaves = room.leaves;
  positions_fit = omega (arith, room.positions_fit);
  tasks_fit = omega (arith, room.tasks_fit);
  size_fits = omega (arith, room.size_fits);
}

-- room, and how many terms stand
pub record Stands (ps : List Position) (a t s height : ℕ) : Type 0 where
  pub room : HasRoomFor ps a t s
  pub height_is : height_of ps ≡ height

-- one position more
more : (ps : List Position) (p : Position) (a t s height : ℕ) (room : HasRoomFor ps (suc a) (t + added_tasks p) (s + added_size p))
    → IsWithinLimits p → Takes p room.stack height → Stands (ps ++ p ∷ []) a t s height
more ps p a t s height room small takes =
    let len = length-append ps (p ∷ []) in
    let tasks = sum_by_push added_tasks ps p in
    let size = sum_by_push added_size ps p in
    let after : HasRoomFor (ps ++ p ∷ []) a t s = record {
      stack = takes.out;
      leaves = record {
        is = pushed ps p [] room.stack takes.out room.leaves.is takes.is;
        allowed = takes.allowed;
        within = All-push IsWithinLimits ps p room.leaves.within small;
        few = omega (arith, len, room.positions_fit);
        few_tasks = omega (arith, tasks, room.tasks_fit);
        total = omega (arith, size, room.size_fits);
      };
      positions_fit = omega (arith, len, room.positions_fit);
      tasks_fit = omega (arith, tasks, room.tasks_fit);
      size_fits = omega (arith, size, room.size_fits);
    } in
    record { room = after; height_is = height-is (ps ++ p ∷ []) a t s after ∙ takes.len }

hold-more : (ps : List Position) (size a t s : ℕ) → HasRoomFor ps (suc a) t (s + 1000) → size ≤ 1000
    → Stands (ps ++ Hold size ∷ []) a t s (height_of ps + 1)
hold-more ps size a t s room small =
    let enough = less ps _ _ _ (suc a) (t + 0) (s + size) room (omega arith) (omega arith) (omega arith) in
    more ps (Hold size) a t s _ enough (omega arith) (record {
      out = hold size ∷ enough.stack;
      is = refl;
      len = omega (arith, height-is ps _ _ _ enough);
      allowed = (tt, enough.leaves.allowed);
    })

task-more : (ps : List Position) (extra time a t s : ℕ) → HasRoomFor ps (suc a) (suc t) (s + 1000) → extra ≤ 1000 → 1 ≤ time → time ≤ 16
    → 2 ≤ height_of ps → Stands (ps ++ at.Task extra 0 time ∷ []) a t s (height_of ps - 1)
task-more ps extra time a t s room small some short two =
    let enough = less ps _ _ _ (suc a) (t + 1) (s + extra) room (omega arith) (omega arith) (omega arith) in
    let height = height-is ps _ _ _ enough in
    let takes = takes-task extra time enough.stack (omega arith) enough.leaves.allowed in
    more ps (at.Task extra 0 time) a t s _ enough (omega arith, some, omega arith)
    (subst (Takes (at.Task extra 0 time) enough.stack) (omega (arith, height)) takes)

par-more : (ps : List Position) (k a t s : ℕ) → HasRoomFor ps (suc a) t s → k ≤ height_of ps → 2 ≤ k
    → Stands (ps ++ Par k ∷ []) a t s (suc (height_of ps) - k)
par-more ps k a t s room high two =
    let enough = less ps _ _ _ (suc a) (t + 0) (s + 0) room (omega arith) (omega arith) (omega arith) in
    let height = height-is ps _ _ _ enough in
    let takes = takes-par k enough.stack (omega arith) two enough.leaves.allowed in
    more ps (Par k) a t s _ enough two (subst (Takes (Par k) enough.stack) (omega (arith, height)) takes)

-- ---- the steps of a random workflow

pub hold-room : (ps : List Position) (dice : Lcg) (a t s : ℕ) → HasRoomFor ps (suc a) t (s + 1000)
    → Stands (with_hold ps dice).0 a t s (height_of ps + 1)
unfolding with_hold
hold-room ps dice a t s room = hold-more ps _ a t s room (omega (arith, draw-below 1000 dice (lit< tt)))

-- room, and so many terms stand at least
pub record StandsWith (ps : List Position) (a t s least : ℕ) : Type 0 where
  pub room : HasRoomFor ps a t s
  pub some : least ≤ height_of ps

pub data-room : (ps : List Position) (dice : Lcg) (a t s : ℕ)
    → HasRoomFor ps (2 + a) t (s + 2000) → StandsWith (with_data ps dice).0 a t s 2
unfolding with_data
data-room ps dice a t s room = go (nat_le 2 (height_of ps)) ((draw 2 dice).0 == 0) refl
  where
    both : (next : Lcg) → StandsWith (with_hold (with_hold ps next).0 (with_hold ps next).1).0 a t s 2
    both next =
        let enough = less ps _ _ _ (suc (suc a)) t (s + 1000 + 1000) room (omega arith) (omega arith) (omega arith) in
        let one = hold-room ps next (suc a) t (s + 1000) enough in
        let two = hold-room (with_hold ps next).0 (with_hold ps next).1 a t s one.room in
        record { room = two.room; some = omega (arith, two.height_is, one.height_is) }

    go : (high even : Bool) → nat_le 2 (height_of ps) ≡ high
        → let after : Lcg = (draw 2 dice).1 in
        let next : List Position × Lcg = cond (high && even) (ps, after) (with_hold (with_hold ps after).0 (with_hold ps after).1) in
        StandsWith next.0 a t s 2
    go true true e = record { room = less ps _ _ _ a t s room (omega arith) (omega arith) (omega arith); some = leb-true _ _ e }
    go true false e = both (draw 2 dice).1
    go false even e = both (draw 2 dice).1

pub task-room : (ps : List Position) (dice : Lcg) (a t s : ℕ) → HasRoomFor ps (suc a) (suc t) (s + 1000) → 2 ≤ height_of ps
    → StandsWith (with_task ps dice).0 a t s 1
unfolding with_task
task-room ps dice a t s room two =
    let (extra, left) = draw 1000 dice in
    let time = draw-below 16 left (lit< tt) in
    let small = draw-below 1000 dice (lit< tt) in
    let after = task-more ps extra (1 + (draw 16 left).0) a t s room (omega (arith, small)) (omega arith) (omega (arith, time)) two in
    record { room = after.room; some = omega (arith, after.height_is) }

par-room : (ps : List Position) (dice : Lcg) (a t s : ℕ) → HasRoomFor ps (suc a) t s → 1 ≤ height_of ps
    → StandsWith (with_par ps dice).0 a t s 1
unfolding with_par
par-room ps dice a t s room one = go (nat_le 2 (height_of ps)) ((draw 3 dice).0 == 0) refl
  where
    same : StandsWith ps a t s 1
    same = record { room = less ps _ _ _ a t s room (omega arith) (omega arith) (omega arith); some = one }

    go : (high third : Bool) → nat_le 2 (height_of ps) ≡ high → StandsWith (cond (high && third) (ps ++ Par 2 ∷ []) ps) a t s 1
    go true true e =
        let two = leb-true 2 (height_of ps) e in
        let after = par-more ps 2 a t s room two (omega arith) in
        record { room = after.room; some = omega (arith, after.height_is) }
    go true false e = same
    go false third e = same

one-room : (ps : List Position) (dice : Lcg) (a t s : ℕ)
    → HasRoomFor ps (4 + a) (suc t) (s + 3000) → StandsWith (with_one ps dice).0 a t s 1
unfolding with_one
one-room ps dice a t s room =
    let (ready, after_data) = with_data ps dice in
    let (run, after_task) = with_task ready after_data in
    let enough = less ps _ _ _ (2 + (2 + a)) (suc t) (s + 1000 + 2000) room (omega arith) (omega arith) (omega arith) in
    let one = data-room ps dice (2 + a) (suc t) (s + 1000) enough in
    let two = task-room ready after_data (suc a) t s (less ready _ _ _ _ _ _ one.room (omega arith) (omega arith) (omega arith)) one.some in
    par-room run after_task a t s two.room two.some

-- ---- all steps

-- after i tasks there is room for as many more as the limits say
pub tasks-room : (i : ℕ) (dice : Lcg) (a t s : ℕ) → 4 * i + a ≤ most_positions → i + t ≤ most_tasks → 3000 * i + s ≤ most_total
    → HasRoomFor (with_tasks i dice).0 a t s
unfolding with_tasks
tasks-room zero dice a t s fit_a fit_t fit_s = record {
  stack = [];
  leaves = record {
    is = refl;
    allowed = tt;
    within = λ k d lt. absurd (omega arith);
    few = omega arith;
    few_tasks = omega arith;
    total = omega arith;
  };
  positions_fit = omega arith;
  tasks_fit = omega arith;
  size_fits = omega arith;
}
tasks-room (suc i) dice a t s fit_a fit_t fit_s =
    let (ps, left) = with_tasks i dice in
    let before = tasks-room i dice (4 + a) (suc t) (s + 3000) (omega arith) (omega arith) (omega arith) in
    (one-room ps left a t s before).room

-- and at least one term stands
tasks-stand : (n : ℕ) (dice : Lcg) → 1 ≤ n → n ≤ most_tasks → StandsWith (with_tasks n dice).0 1 0 0 1
unfolding with_tasks
tasks-stand zero dice some few = absurd (omega arith)
tasks-stand (suc i) dice some few =
    let (ps, left) = with_tasks i dice in
    one-room ps left 1 0 0 (tasks-room i dice 5 1 3000 (omega arith) (omega arith) (omega arith))

-- where one term stands, the positions denote it
whole : (ps : List Position) (a t s height : ℕ) → Stands ps a t s height → height ≡ 1 → IsTerms ps
whole ps a t s height stands one =
    let leaves = stands.room.leaves in
    let left : stands.room.stack ≡ stack_of ps = sym (ap stack_from leaves.is) in
    subst (Leaves ps) (left ∙ single (stack_of ps) (stands.height_is ∙ one)) leaves
  where
    single : (stack : List Term) → length stack ≡ 1 → stack ≡ last_term stack ∷ []
    single [] e = absurd (omega (arith, e))
    single (t ∷ []) e = refl
    single (t ∷ (u ∷ stack)) e = absurd (omega (arith, e))

closed-terms : (ps : List Position) → StandsWith ps 1 0 0 1 → IsTerms (closed ps)
unfolding closed
closed-terms ps stands = go (nat_le 2 (height_of ps)) refl
  where
    go : (high : Bool) → nat_le 2 (height_of ps) ≡ high → IsTerms (cond high (ps ++ Par (height_of ps) ∷ []) ps)
    go true e = whole _ _ _ _ _ (par-more ps (height_of ps) 0 0 0 stands.room (omega arith) (leb-true 2 (height_of ps) e)) (omega arith)
    go false e =
        let own : Stands ps 1 0 0 (height_of ps) = record { room = stands.room; height_is = refl } in
        whole ps 1 0 0 (height_of ps) own (omega (arith, leb-false 2 (height_of ps) e, stands.some))

pub workflow_of-terms : (seed n : ℕ) → 1 ≤ n → n ≤ most_tasks → IsTerms (workflow_of seed n)
unfolding workflow_of
workflow_of-terms seed n some few = closed-terms _ (tasks-stand n (dice_of seed) some few)

pub workflow_of-one : (seed n : ℕ) → 1 ≤ n → n ≤ most_tasks → IsOneTerm (workflow_of seed n)
workflow_of-one seed n some few = ap (λ (o : Option (List Term)). length (stack_from o)) (workflow_of-terms seed n some few).is

-- ---- what the code makes

-- the positions of a step
pub first : (P : List Position → Type 0) (ps : List Position) (dice : Lcg) (p : List Position × Lcg) → (ps, dice) ≡ p → P p.0 → P ps
first P ps dice p e = subst P (sym (ap (λ (q : List Position × Lcg). q.0) e))

pub tasks-more : (i : ℕ) (dice : Lcg) → with_tasks (i + 1) dice ≡ with_one (with_tasks i dice).0 (with_tasks i dice).1
unfolding with_tasks
tasks-more i dice = let next : i + 1 ≡ suc i = omega arith in ap (λ (k : ℕ). with_tasks k dice) next

-- after the last task
pub all-tasks : (seed n i : ℕ) (ps all : List Position) → n ≤ i → i ≤ n → ps ≡ (with_tasks i (dice_of seed)).0 → all ≡ closed ps
    → all ≡ workflow_of seed n
unfolding workflow_of
all-tasks seed n i ps all low high at e =
    let end : i ≡ n = omega arith in
    e ∙ ap closed at ∙ ap (λ (k : ℕ). closed (with_tasks k (dice_of seed)).0) end
