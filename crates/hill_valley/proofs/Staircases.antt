-- The staircase of a side, from its definition and step by step.
use Rattle.std.proofs.Common.{◌≡◌, ℕ, suc, ◌+◌, ◌-◌, ◌<◌, ◌≤◌, max, Bool, true, false, cond, ltb, eqb, ◌||◌, List, [], ◌∷◌, ◌++◌}
use Rattle.std.proofs.Common.{◌==◌, nat_eq, length, Option, Some, None, IsSome, refl, ap, sym, ◌∙◌, arith, subst, inl, inr}
use Rattle.std.specs.List.{slice_get}
use Rattle.std.specs.Option.{option_to_list}
use Rattle.std.proofs.lemmas.Bool.Decides.{nat_tests}
use Rattle.std.proofs.lemmas.Grind.{common_steps}
use Rattle.side_laws.specs.Segments.{Segment, lowest}
use Rattle.hill_valley.specs.declared.steps.Step.{Step}
use Rattle.hill_valley.specs.Staircase.{IsStaircase, level_at, AreSteps, add_step, ends_at}
use Rattle.lists.proofs.Orders.{compare}

abbrev pub step : ℕ → ℕ → Step
step bound level = record { bound = bound; level = level }

abbrev pub starts_at : ℕ → List Step → Bool
starts_at bound [] = false
starts_at bound (s ∷ ss) = bound == s.bound

-- the steps of a side from a level, where memory has been at `most`
abbrev pub staircase : ℕ → ℕ → List Segment → List Step
staircase most level [] = []
staircase most level (s ∷ ss) =
    let m = max most (level + s.up) in
    let rest = staircase m (level - s.net) ss in
    cond (eqb (level - s.net) level || starts_at m rest) rest (step m (level - s.net) ∷ rest)

-- ---- it is one

-- the first level does not matter where some step passes
base : (limit m a b : ℕ) (rest : List Step) → m < limit → starts_at m rest ≡ true → level_at limit a rest ≡ level_at limit b rest
base limit m a b [] lt h = absurd (cc)
base limit m a b (s ∷ ss) lt h = grind (arith, nat_tests)

low : (limit m a most : ℕ) (rest : List Step) → IsStaircase m most rest → limit ≤ m → level_at limit a rest ≡ a
low limit m a most [] h lt = refl
low limit m a most (s ∷ ss) h lt = grind (arith, nat_tests)

level_step : (limit most level m a : ℕ) (s : Segment) (ss : List Segment) (rest : List Step)
    → most < limit → m ≡ max most (level + s.up) → a ≡ level - s.net
    → (m < limit → level_at limit a rest ≡ lowest limit a ss) → (limit ≤ m → level_at limit level rest ≡ level)
    → (m < limit → starts_at m rest ≡ true → level_at limit level rest ≡ level_at limit a rest)
    → level_at limit level (cond (eqb a level || starts_at m rest) rest (step m a ∷ rest))
    ≡ cond (ltb (level + s.up) limit) (lowest limit a ss) level
level_step limit most level m a s ss rest lt mi ai ih stays same = grind (arith, nat_tests)

rises_nil : (most level m a : ℕ) → most ≤ m → a ≤ level → IsStaircase most level (cond (eqb a level || starts_at m []) [] (step m a ∷ []))
rises_nil most level m a le la = grind (arith, nat_tests)

rises_cons : (most level m a : ℕ) (s : Step) (ss : List Step) → most ≤ m → a ≤ level → IsStaircase m a (s ∷ ss)
    → IsStaircase most level (cond (eqb a level || starts_at m (s ∷ ss)) (s ∷ ss) (step m a ∷ s ∷ ss))
rises_cons most level m a s ss le la h = grind (arith, nat_tests)

rises : (most level m a : ℕ) (rest : List Step) → most ≤ m → a ≤ level → IsStaircase m a rest
    → IsStaircase most level (cond (eqb a level || starts_at m rest) rest (step m a ∷ rest))
rises most level m a [] le la h = rises_nil most level m a le la
rises most level m a (s ∷ ss) le la h = rises_cons most level m a s ss le la h

is_staircase : (most level : ℕ) (ss : List Segment) → IsStaircase most level (staircase most level ss)
is_staircase most level [] = tt
is_staircase most level (s ∷ ss) =
    let m = max most (level + s.up) in
    rises most level m (level - s.net) (staircase m (level - s.net) ss) (omega arith) (omega arith) (is_staircase m (level - s.net) ss)

level_at_steps : (limit most level : ℕ) (ss : List Segment) → most < limit
    → level_at limit level (staircase most level ss) ≡ lowest limit level ss
level_at_steps limit most level [] h = refl
level_at_steps limit most level (s ∷ ss) h =
    let m = max most (level + s.up) in
    let a = level - s.net in
    let rest = staircase m a ss in
    level_step limit most level m a s ss rest h refl refl (λ lt. level_at_steps limit m a ss lt)
    (λ le. low limit m level a rest (is_staircase m a ss) le) (λ lt e. base limit m level a rest lt e)

pub are_steps : (level : ℕ) (ss : List Segment) → AreSteps level ss (staircase level level ss)
are_steps level ss = record { staircase = is_staircase level level ss; levels = λ limit lt. level_at_steps limit level level ss lt }

-- ---- step by step

-- the steps so far and those of the rest. Where both meet at one bound, the rest has the lower level
abbrev pub combine : List Step → List Step → List Step
combine [] rest = rest
combine (s ∷ []) rest = cond (starts_at s.bound rest) rest (s ∷ rest)
combine (s ∷ t ∷ done) rest = s ∷ combine (t ∷ done) rest

next_one : (m a : ℕ) (s : Step) (rest : List Step)
    → combine (s ∷ []) (cond (starts_at m rest) rest (step m a ∷ rest)) ≡ combine (add_step m a (s ∷ [])) rest
next_one m a s [] = grind (arith, nat_tests)
next_one m a s (r ∷ rest) = grind (arith, nat_tests)

next : (m a : ℕ) (done rest : List Step) → combine done (cond (starts_at m rest) rest (step m a ∷ rest)) ≡ combine (add_step m a done) rest
next m a [] rest = refl
next m a (s ∷ []) rest = next_one m a s rest
next m a (s ∷ t ∷ done) rest = ap (λ (l : List Step). s ∷ l) (next m a (t ∷ done) rest) ∙ over m a s t done rest
  where
    more : (s u : Step) (us rest : List Step) → s ∷ combine (u ∷ us) rest ≡ combine (s ∷ u ∷ us) rest
    more s u us rest = refl

    over : (m a : ℕ) (s t : Step) (done rest : List Step)
        → s ∷ combine (add_step m a (t ∷ done)) rest ≡ combine (s ∷ add_step m a (t ∷ done)) rest
    over m a s t [] rest = last m a s t rest
      where
        last : (m a : ℕ) (s t : Step) (rest : List Step)
            → s ∷ combine (add_step m a (t ∷ [])) rest ≡ combine (s ∷ add_step m a (t ∷ [])) rest
        last m a s t rest = grind (arith, nat_tests)
    over m a s t (u ∷ done) rest = refl

pub falls : (most level : ℕ) (s : Segment) (ss : List Segment) (done : List Step) → 0 < s.net → s.net ≤ level
    → combine done (staircase most level (s ∷ ss))
    ≡ combine (add_step (max most (level + s.up)) (level - s.net) done) (staircase (max most (level + s.up)) (level - s.net) ss)
falls most level s ss done some room =
    let m = max most (level + s.up) in
    let rest = staircase m (level - s.net) ss in
    ap (combine done) (choice m (level - s.net) level rest (omega arith)) ∙ next m (level - s.net) done rest
  where
    choice : (m a level : ℕ) (rest : List Step) → a < level
        → cond (eqb a level || starts_at m rest) rest (step m a ∷ rest) ≡ cond (starts_at m rest) rest (step m a ∷ rest)
    choice m a level rest lt = grind (arith, nat_tests)

pub flat : (most level : ℕ) (s : Segment) (ss : List Segment) (done : List Step) → s.net ≡ 0
    → combine done (staircase most level (s ∷ ss)) ≡ combine done (staircase (max most (level + s.up)) (level - s.net) ss)
flat most level s ss done none =
    let m = max most (level + s.up) in
    let rest = staircase m (level - s.net) ss in
    ap (combine done) (choice m (level - s.net) level rest (omega arith))
  where
    choice : (m a level : ℕ) (rest : List Step) → a ≡ level → cond (eqb a level || starts_at m rest) rest (step m a ∷ rest) ≡ rest
    choice m a level rest e = grind (arith, nat_tests)

combine_one : (s : Step) → combine (s ∷ []) [] ≡ s ∷ []
combine_one s = refl

pub combine_all : (done : List Step) → combine done [] ≡ done
combine_all [] = refl
combine_all (s ∷ []) = combine_one s
combine_all (s ∷ t ∷ done) = ap (λ (l : List Step). s ∷ l) (combine_all (t ∷ done))

-- ---- there is only one

at_first : (m level : ℕ) (s : Step) (ss : List Step) → IsStaircase m level (s ∷ ss) → level_at (s.bound + 1) level (s ∷ ss) ≡ s.level
at_first m level s ss h = go s level (low (s.bound + 1) (s.bound + 1) s.level s.level ss h.2 (omega arith))
  where
    go : (s : Step) (level : ℕ) → level_at (s.bound + 1) s.level ss ≡ s.level → level_at (s.bound + 1) level (s ∷ ss) ≡ s.level
    go s level e = grind (arith, nat_tests)

before_first : (level limit : ℕ) (s : Step) (ss : List Step) → limit ≤ s.bound → level_at limit level (s ∷ ss) ≡ level
before_first level limit s ss h = grind (arith, nat_tests)

after_first : (level limit : ℕ) (s : Step) (ss : List Step) → s.bound < limit → level_at limit level (s ∷ ss) ≡ level_at limit s.level ss
after_first level limit s ss h = grind (arith, nat_tests)

same_step : (s t : Step) → s.bound ≡ t.bound → s.level ≡ t.level → s ≡ t
same_step s t e f = rw (e, f) refl

module _ (m level : ℕ) (s t : Step) (a b : List Step) (ha : IsStaircase m level (s ∷ a)) (hb : IsStaircase m level (t ∷ b))
    (same : (limit : ℕ) → m < limit → level_at limit level (s ∷ a) ≡ level_at limit level (t ∷ b)) where
  same_bound : s.bound ≡ t.bound
  same_bound = elim (compare s.bound t.bound) [
    | inl lt ↦
        absurd (let e = same (s.bound + 1) (let h = ha.0 in omega arith) in let f = at_first m level s a ha in
        let g = before_first level (s.bound + 1) t b (omega arith) in let h = ha.1 in omega (arith, e, f, g))
    | inr h ↦ elim h [
      | inl eq ↦ eq
      | inr gt ↦
          absurd (let e = same (t.bound + 1) (let h = hb.0 in omega arith) in let f = at_first m level t b hb in
          let g = before_first level (t.bound + 1) s a (omega arith) in let h = hb.1 in omega (arith, e, f, g))
    ]
  ]

  same_level : s.level ≡ t.level
  same_level =
      let n : s.bound + 1 ≡ t.bound + 1 = omega (arith, same_bound) in
      sym (at_first m level s a ha) ∙ same (s.bound + 1) (let h = ha.0 in omega arith)
      ∙ ap (λ (l : ℕ). level_at l level (t ∷ b)) n ∙ at_first m level t b hb

  same_tail : IsStaircase (s.bound + 1) s.level b
  same_tail = rw (same_bound, same_level) hb.2

  same_later : (limit : ℕ) → s.bound + 1 < limit → level_at limit s.level a ≡ level_at limit s.level b
  same_later limit lt =
      let e = same_bound in
      sym (after_first level limit s a (omega arith)) ∙ same limit (let h = ha.0 in omega arith)
      ∙ after_first level limit t b (omega arith) ∙ ap (λ (l : ℕ). level_at limit l b) (sym same_level)

pub only_one : (m level : ℕ) (a b : List Step) → IsStaircase m level a → IsStaircase m level b
    → ((limit : ℕ) → m < limit → level_at limit level a ≡ level_at limit level b) → a ≡ b
only_one m level [] [] ha hb same = refl
only_one m level [] (t ∷ b) ha hb same = absurd
    (let e = same (t.bound + 1) (let h = hb.0 in omega arith) in let f = at_first m level t b hb in let h = hb.1 in omega (arith, e, f))
only_one m level (s ∷ a) [] ha hb same = absurd
    (let e = same (s.bound + 1) (let h = ha.0 in omega arith) in let f = at_first m level s a ha in let h = ha.1 in omega (arith, e, f))
only_one m level (s ∷ a) (t ∷ b) ha hb same =
    rw (
      same_step s t (same_bound m level s t a b ha hb same) (same_level m level s t a b ha hb same),
      only_one (s.bound + 1) s.level a b ha.2 (same_tail m level s t a b ha hb same) (same_later m level s t a b ha hb same),
    ) refl

pub steps_unique : (level : ℕ) (ss : List Segment) (a b : List Step) → AreSteps level ss a → AreSteps level ss b → a ≡ b
steps_unique level ss a b ha hb =
    only_one level level a b ha.staircase hb.staircase (λ limit lt. ha.levels limit lt ∙ sym (hb.levels limit lt))

-- ---- in code

pub ends_last : (bound : ℕ) (steps : List Step) (last : Step)
    → slice_get steps (length steps - 1) ≡ Some last → nat_eq last.bound bound ≡ ends_at bound steps
ends_last bound [] last h = absurd (cc)
ends_last bound (s ∷ []) last h = let z : length (s ∷ []) - 1 ≡ 0 = omega arith in
    let h' = subst (λ (k : ℕ). slice_get (s ∷ []) k ≡ Some last) z h in
    grind (arith, common_steps)
ends_last bound (s ∷ t ∷ ss) last h = ends_last bound (t ∷ ss) last
    (let z : length (s ∷ t ∷ ss) - 1 ≡ suc (length (t ∷ ss) - 1) = omega arith in
    subst (λ (k : ℕ). slice_get (s ∷ t ∷ ss) k ≡ Some last) z h)

replaced_one : (bound level : ℕ) (s : Step) → ends_at bound (s ∷ []) ≡ true → step bound level ∷ [] ≡ add_step bound level (s ∷ [])
replaced_one bound level s h = grind (arith, nat_tests)

replaced_last : (bound level : ℕ) (front : List Step) (last : Step) → ends_at bound (front ++ last ∷ []) ≡ true
    → front ++ step bound level ∷ [] ≡ add_step bound level (front ++ last ∷ [])
replaced_last bound level [] last h = replaced_one bound level last h
replaced_last bound level (s ∷ []) last h = ap (λ (l : List Step). s ∷ l) (replaced_last bound level [] last h)
replaced_last bound level (s ∷ t ∷ front) last h = ap (λ (l : List Step). s ∷ l) (replaced_last bound level (t ∷ front) last h)

some_left : (bound : ℕ) (steps : List Step) → ends_at bound steps ≡ true → 0 < length steps
some_left bound [] h = absurd (cc)
some_left bound (s ∷ ss) h = omega arith

-- the last is replaced
pub replaced : (bound level : ℕ) (steps front : List Step) (last : Option Step)
    → steps ≡ front ++ option_to_list last → (0 < length steps → IsSome last) → ends_at bound steps ≡ true
    → front ++ step bound level ∷ [] ≡ add_step bound level steps
replaced bound level steps front (Some last) e some h = rw e (replaced_last bound level front last (rw e at h))
replaced bound level steps front None e some h = absurd (none (some (some_left bound steps h)))
  where
    none : false ≡ true → ⊥
    none e = cc

added_one : (bound level : ℕ) (s : Step) → ends_at bound (s ∷ []) ≡ false → s ∷ step bound level ∷ [] ≡ add_step bound level (s ∷ [])
added_one bound level s h = grind (arith, nat_tests)

-- the last stays
pub added : (bound level : ℕ) (steps : List Step) → ends_at bound steps ≡ false
    → steps ++ step bound level ∷ [] ≡ add_step bound level steps
added bound level [] h = refl
added bound level (s ∷ []) h = added_one bound level s h
added bound level (s ∷ t ∷ ss) h = ap (λ (l : List Step). s ∷ l) (added bound level (t ∷ ss) h)
