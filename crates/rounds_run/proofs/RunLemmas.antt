-- Round after round.
use Rattle.std.proofs.Common.{◌≡◌, ℕ, ◌+◌, ◌<◌, ◌≤◌, Bool, true, false, cond, ◌||◌, List, [], ◌∷◌}
use Rattle.std.proofs.Common.{◌++◌, length, get_or, set, take, refl, sym, ap, subst, ◌∙◌, arith}
use Rattle.std.specs.Prelude.{nat_eq}
use Rattle.std.specs.List.{list_any, IsDistinct}
use Rattle.std.proofs.lemmas.List.{get_or_default, take_all, length_push, length-set, take-take, take_at, get_or_push, get_or-take}
use Rattle.std.proofs.lemmas.List.Folds.{list_any_more}
use Rattle.patterns.specs.Pattern.{has}
use Rattle.assembly_tree.specs.declared.assembly.Super.{Super}
use Rattle.assembly_tree.specs.Assembly.{IsSuper}
use Rattle.assembly_tree.specs.Supernodes.{first_of}
use Rattle.rounds_run.specs.declared.front.Job.{Job}
use Rattle.rounds_run.specs.declared.front.Made.{Made}
use Rattle.rounds_run.specs.declared.held.Held.{Held}
use Rattle.rounds_run.specs.FrontRows.{list_of_front}
use Rattle.rounds_run.specs.Holding.{Factor, IsHeld, IsHandedBack, AreHandedBack, AreJobsOf, AreMadeOf, AreOrderly, AreDue, in_rounds, or_in, front_rows}
use Rattle.rounds_run.proofs.HeldLemmas.{held_same}

-- a round that is read from the list
pub round_is : (rounds : List (List ℕ)) (i : ℕ) (item round : List ℕ) → i < length rounds → item ≡ get_or rounds i item → round ≡ item
    → round ≡ get_or rounds i []
round_is rounds i item round lt is same = same ∙ is ∙ get_or_default rounds i item [] lt

pub round_due : (supers : List Super) (rounds : List (List ℕ)) (i : ℕ) (round : List ℕ) → AreOrderly supers rounds
    → round ≡ get_or rounds i [] → AreDue supers (in_rounds rounds i) round
round_due supers rounds i round is same = record {
  within = λ s there. is.within i s (ap (λ z. has z s) (sym same) ∙ there);
  once = subst (λ z. IsDistinct nat_eq z) (sym same) (is.once i);
  apart = λ s there. is.apart i s (ap (λ z. has z s) (sym same) ∙ there);
  children = λ s c there child up. is.children i s c (ap (λ z. has z s) (sym same) ∙ there) child up;
}

round_next : (rounds : List (List ℕ)) (i : ℕ) (round : List ℕ) → i < length rounds → round ≡ get_or rounds i [] → (t : ℕ)
    → or_in (in_rounds rounds i) round t ≡ in_rounds rounds (i + 1) t
round_next rounds i round lt same t =
    ap (λ (z : List ℕ). in_rounds rounds i t || has z t) same ∙ sym (list_any_more (λ list. has list t) rounds i [] lt)

pub held_next : (f : Factor) (rounds : List (List ℕ)) (i : ℕ) (round : List ℕ) (held : Held)
    → i < length rounds → round ≡ get_or rounds i []
    → IsHeld f (or_in (in_rounds rounds i) round) (or_in (in_rounds rounds i) round) held
    → IsHeld f (in_rounds rounds (i + 1)) (in_rounds rounds (i + 1)) held
held_next f rounds i round held lt same is =
    held_same f (or_in (in_rounds rounds i) round) (or_in (in_rounds rounds i) round)
    (in_rounds rounds (i + 1)) (in_rounds rounds (i + 1)) held
    (round_next rounds i round lt same) (round_next rounds i round lt same) is

-- at the end every front is made
pub all_made : (f : Factor) (rounds : List (List ℕ)) (i : ℕ) (held : Held) → AreOrderly f.supers rounds → length rounds ≤ i
    → IsHeld f (in_rounds rounds i) (in_rounds rounds i) held → (s : ℕ)
    → IsSuper f.supers s → list_of_front held.rows.items s ≡ front_rows f s
all_made f rounds i held is end held_is s super =
    held_is.kept s super (ap (λ z. list_any (λ list. has list s) z) (take_all i rounds end) ∙ is.all s super)

-- what the tasks made, by the supernodes of the round
pub made_of : (f : Factor) (round : List ℕ) (jobs : List Job) (made : List Made) → AreJobsOf f round jobs
    → AreHandedBack f.joined f.order jobs made → AreMadeOf f round made
made_of f round jobs made are back = (
  back.0 ∙ are.0,
  λ i d lt.
      let job : Job = record { place = 0; first = 0; columns = 0; rest = 0; children = [] } in
      let here = are.1 i job lt in
      let in_jobs : i < length jobs = omega (arith, lt, are.0) in
      subst (λ n. IsHandedBack f.joined f.order (first_of f.supers (get_or round i 0)) n (get_or made i d)) here.columns
      (subst (λ n. IsHandedBack f.joined f.order n (get_or jobs i job).columns (get_or made i d)) here.first (back.1 i d job in_jobs)),
)

-- ---- what was handed back, from the last on

pub popped : {X : Type 0} (made left rest : List X) (x : X) → left ≡ rest ++ x ∷ [] → left ≡ take (length left) made
    → rest ≡ take (length rest) made
popped {X} made left rest x is are =
    let more = ap (λ (z : List X). length z) is ∙ length_push rest x in
    sym (take_at rest (x ∷ []) (length rest) refl) ∙ ap (take (length rest)) (sym is) ∙ ap (take (length rest)) are
    ∙ take-take (length rest) (length left) made (omega (arith, more))

pub popped_at : {X : Type 0} (made left rest : List X) (x : X) → left ≡ rest ++ x ∷ [] → left ≡ take (length left) made
    → get_or made (length rest) x ≡ x
popped_at {X} made left rest x is are =
    let more = ap (λ (z : List X). length z) is ∙ length_push rest x in
    sym (get_or-take (length left) made (length rest) x (omega (arith, more)))
    ∙ ap (λ (z : List X). get_or z (length rest) x) (sym are ∙ is) ∙ get_or_push rest x x (length rest) refl

pub cond_long : {X : Type 0} (b : Bool) (xs : List X) (i : ℕ) (x : X) → length (cond b xs (set xs i x)) ≡ length xs
cond_long true xs i x = refl
cond_long false xs i x = length-set xs i x
