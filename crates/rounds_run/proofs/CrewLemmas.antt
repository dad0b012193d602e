-- What tasks hand back, one after another and crew after crew.
use Rattle.std.proofs.Common.{◌≡◌, ℕ, zero, suc, ◌+◌, ◌*◌, ◌-◌, ◌<◌, inl, inr, Bool, List, [], ◌∷◌, ◌++◌}
use Rattle.std.proofs.Common.{Result, Ok, Vec, length, get_or, take, refl, sym, ap, subst, ◌∙◌, arith, add-one}
use Rattle.std.specs.Prelude.{IfOk}
use Rattle.std.specs.Fork.{slice_chunk}
use Rattle.std.proofs.Math.Nat.{suc-mul}
use Rattle.std.proofs.Math.Seq.{take-add}
use Rattle.std.proofs.lemmas.Bool.{cases_lt}
use Rattle.std.proofs.lemmas.List.{length-append, get_or_append_left, get_or-append_right, take_more}
use Rattle.rounds_run.specs.declared.front.Job.{Job}
use Rattle.rounds_run.specs.declared.front.Made.{Made}
use Rattle.rounds_run.specs.Holding.{IsHandedBack, AreHandedBack}

module _ (joined : ℕ → ℕ → Bool) (n : ℕ) where
  -- nothing, of no task
  pub none_back : (jobs : List Job) (made : List Made) (k : ℕ) → k ≡ 0 → made ≡ [] → AreHandedBack joined n (take k jobs) made
  none_back jobs made k first none =
      subst (λ (i : ℕ). AreHandedBack joined n (take i jobs) made) (sym first)
      (subst (λ (z : List Made). AreHandedBack joined n [] z) (sym none) (refl, λ i d e lt. absurd (omega (arith, lt))))

  one_back : (job : Job) (made : Made) → IsHandedBack joined n job.first job.columns made
      → AreHandedBack joined n (job ∷ []) (made ∷ [])
  one_back job made is = (refl, single)
    where
      single : (i : ℕ) (d : Made) (e : Job) → i < length (job ∷ [])
          → IsHandedBack joined n (get_or (job ∷ []) i e).first (get_or (job ∷ []) i e).columns (get_or (made ∷ []) i d)
      single zero d e lt = is
      single (suc i) d e lt = absurd (omega (arith, lt))

  back_append : (jobs more : List Job) (made late : List Made) → AreHandedBack joined n jobs made → AreHandedBack joined n more late
      → AreHandedBack joined n (jobs ++ more) (made ++ late)
  back_append jobs more made late front back =
      let long : length (made ++ late) ≡ length (jobs ++ more) =
      omega (arith, length-append made late, length-append jobs more, front.0, back.0) in (
        long,
        λ i d e lt. elim (cases_lt i (length jobs)) [
          | inl low ↦ (
              let low_made : i < length made = omega (arith, low, front.0) in
              subst (λ (j : Job). IsHandedBack joined n j.first j.columns (get_or (made ++ late) i d))
              (sym (get_or_append_left jobs more e i low))
              (subst (λ (m : Made). IsHandedBack joined n (get_or jobs i e).first (get_or jobs i e).columns m)
              (sym (get_or_append_left made late d i low_made)) (front.1 i d e low))
              )
          | inr high ↦ (
              let k = i - length jobs in
              let in_more : k < length more = omega (arith, lt, high, length-append jobs more) in
              subst (λ (j : Job). IsHandedBack joined n j.first j.columns (get_or (made ++ late) i d))
              (sym (get_or-append_right jobs more (length jobs) i e refl high))
              (subst (λ (m : Made). IsHandedBack joined n (get_or more k e).first (get_or more k e).columns m)
              (sym (get_or-append_right made late (length jobs) i d front.0 high)) (back.1 k d e in_more))
              )
        ],
      )

  -- with one task more
  pub task_back : (jobs : List Job) (made : List Made) (k : ℕ) (job : Job) (one : Made) → k < length jobs → job ≡ get_or jobs k job
      → AreHandedBack joined n (take k jobs) made → IsHandedBack joined n job.first job.columns one
      → AreHandedBack joined n (take (k + 1) jobs) (made ++ one ∷ [])
  task_back jobs made k job one lt read before is =
      let split : take (k + 1) jobs ≡ take k jobs ++ job ∷ [] =
      take_more jobs k job lt ∙ ap (λ (x : Job). take k jobs ++ x ∷ []) (sym read) in
      subst (λ (z : List Job). AreHandedBack joined n z (made ++ one ∷ [])) (sym split)
      (back_append (take k jobs) (job ∷ []) made (one ∷ []) before (one_back job one is))

  -- with one crew more
  pub crew_back : (jobs : List Job) (made late : List Made) (size k : ℕ) → AreHandedBack joined n (take (k * size) jobs) made
      → AreHandedBack joined n (slice_chunk jobs size k) late
      → AreHandedBack joined n (take ((k + 1) * size) jobs) (made ++ late)
  crew_back jobs made late size k before crew =
      let next : (k + 1) * size ≡ k * size + size = rw add-one (suc-mul k size) in
      let split : take ((k + 1) * size) jobs ≡ take (k * size) jobs ++ slice_chunk jobs size k =
      ap (λ (m : ℕ). take m jobs) next ∙ take-add (k * size) size jobs in
      subst (λ (z : List Job). AreHandedBack joined n z (made ++ late)) (sym split)
      (back_append (take (k * size) jobs) (slice_chunk jobs size k) made late before crew)

  -- what a crew handed back, told of its place among the crews
  pub crew_at : {Z E : Type 0} (jobs part : List Job) (size k : ℕ) (crews : List (Result (Vec Made Z) E)) (crew : Result (Vec Made Z) E)
      (fronts : Vec Made Z) → get_or crews k crew ≡ crew → crew ≡ Ok fronts → part ≡ slice_chunk jobs size k
      → IfOk (get_or crews k crew) (λ made. AreHandedBack joined n part made.items)
      → AreHandedBack joined n (slice_chunk jobs size k) fronts.items
  crew_at {Z} {E} jobs part size k crews crew fronts at was cut back =
      subst (λ (z : List Job). AreHandedBack joined n z fronts.items) cut
      (subst (λ (r : Result (Vec Made Z) E). IfOk r (λ made. AreHandedBack joined n part made.items)) (at ∙ was) back)
