-- No public clause names this.
-- Parts on a stack, made of the terms on the stack by which a list of positions denotes its term.
use Rattle.std.specs.Prelude.{◌≡◌, ℕ, suc, ◌+◌, ◌≤◌, ◌^◌, List, [], ◌∷◌, ⊤, reverse, Some}
use Rattle.limits.specs.Limits.{most_tasks, most_total}
use Rattle.mp_system.specs.declared.system.Task.{Task}
use Rattle.sp_terms.specs.Term.{Term, hold, series, par, Parts, no_parts, part, initial_of, final_of}
use Rattle.sp_terms.specs.declared.position.Position.{Position}
use Rattle.sp_terms.specs.Postfix.{gather, push}
use Rattle.sp_terms.specs.SystemOfTerm.{task_count}
use Rattle.sp_terms.specs.Values.{AllAllowed}
use Rattle.cut_laws.specs.Names.{numbered}
use Rattle.cut_laws.specs.TermCuts.{cut_of_term}
use Rattle.sp_cuts.specs.declared.parts.Part.{Part}
use Rattle.sp_cuts.specs.Parts.{cut_of}
use Rattle.sp_cuts.specs.Splits.{IsRough}

-- the sum of all sizes and extras
abbrev mutual
  pub total_of : Term → ℕ
  total_of (hold size) = size
  total_of (series a v b) = total_of a + v.extra + total_of b
  total_of (par ts) = total_of_parts ts

  pub total_of_parts : Parts → ℕ
  total_of_parts no_parts = 0
  total_of_parts (part t ts) = total_of t + total_of_parts ts

-- the part of a term whose tasks are numbered from `base` on
pub record IsPartOf (lists : List (List ℕ)) (base : ℕ) (t : Term) (p : Part) : Type 0 where
  pub cut : cut_of lists p ≡ cut_of_term t (numbered base t)
  pub rough : IsRough lists p
  pub weight : p.peak ≤ total_of t

-- ---- stacks, with the top first

abbrev pub stack_tasks : List Term → ℕ
stack_tasks [] = 0
stack_tasks (t ∷ st) = task_count t + stack_tasks st

abbrev pub stack_total : List Term → ℕ
stack_total [] = 0
stack_total (t ∷ st) = total_of t + stack_total st

abbrev pub ArePiled : List (List ℕ) → List Term → List Part → Type 0
ArePiled lists [] [] = ⊤
ArePiled lists [] (p ∷ ps) = ⊥
ArePiled lists (t ∷ st) [] = ⊥
ArePiled lists (t ∷ st) (p ∷ ps) = IsPartOf lists (suc (stack_tasks st)) t p × ArePiled lists st ps

-- the parts of the terms of a par, the lowest first
abbrev pub ArePartsOf : List (List ℕ) → ℕ → Parts → List Part → Type 0
ArePartsOf lists base no_parts [] = ⊤
ArePartsOf lists base no_parts (p ∷ ps) = ⊥
ArePartsOf lists base (part t ts) [] = ⊥
ArePartsOf lists base (part t ts) (p ∷ ps) = IsPartOf lists base t p × ArePartsOf lists (base + task_count t) ts ps

-- ---- what a position does

-- the two terms on top can be joined by this task
pub record SeriesReady (lists : List (List ℕ)) (items : List Part) (v : Task) : Type 0 where
  pub st : List Term
  pub a : Term
  pub b : Term
  pub piled : ArePiled lists (b ∷ a ∷ st) (reverse items)
  pub inputs : v.share ≤ final_of a
  pub outputs : v.share ≤ v.extra + initial_of b
  pub within : total_of a + v.extra + total_of b ≤ most_total

abbrev pub SeriesDone : List (List ℕ) → List (List ℕ) → List Part → List Part → ℕ → Task → Type 0
SeriesDone old new items items' number v =
    (st : List Term) (a b : Term) → v.share ≤ final_of a → number ≡ suc (stack_tasks (b ∷ a ∷ st))
    → ArePiled old (b ∷ a ∷ st) (reverse items) → ArePiled new (series a v b ∷ st) (reverse items')

-- so many terms on top can be set side by side
pub record ParReady (lists : List (List ℕ)) (items : List Part) (many : ℕ) : Type 0 where
  pub st : List Term
  pub ts : Parts
  pub rest : List Term
  pub piled : ArePiled lists st (reverse items)
  pub gathered : gather many st no_parts ≡ Some (ts, rest)
  pub within : total_of_parts ts ≤ most_total

abbrev pub ParDone : List (List ℕ) → List (List ℕ) → List Part → List Part → ℕ → Type 0
ParDone old new items items' many =
    (st : List Term) (ts : Parts) (rest : List Term) → gather many st no_parts ≡ Some (ts, rest)
    → ArePiled old st (reverse items) → ArePiled new (par ts ∷ rest) (reverse items')

-- the stack can take this position, whose task has the number `next` if it is one
pub record PositionReady (lists : List (List ℕ)) (items : List Part) (position : Position) (next : ℕ) : Type 0 where
  pub st : List Term
  pub st' : List Term
  pub piled : ArePiled lists st (reverse items)
  pub pushed : push position st ≡ Some st'
  pub allowed : AllAllowed st'
  pub next_is : next ≡ suc (stack_tasks st)
  pub within : stack_total st' ≤ most_total
  pub few : stack_tasks st' ≤ most_tasks

abbrev pub PositionDone : List (List ℕ) → List (List ℕ) → List Part → List Part → Position → ℕ → ℕ → Type 0
PositionDone old new items items' position next next' =
    (st st' : List Term) → ArePiled old st (reverse items) → push position st ≡ Some st' → AllAllowed st' → next ≡ suc (stack_tasks st)
    → ArePiled new st' (reverse items') × (next' ≡ suc (stack_tasks st'))

-- ---- counted steps

-- `total` segments were moved to make the parts of these terms, and few for each: 2 ^ moves ≤ tasks ^ tasks
abbrev pub AreMoved : List Term → ℕ → Type 0
AreMoved [] total = total ≡ 0
AreMoved (t ∷ st) total = (m : ℕ) × (rest : ℕ) × (2 ^ m ≤ task_count t ^ task_count t) × (total ≡ m + rest) × AreMoved st rest

abbrev pub AreMovedParts : Parts → ℕ → Type 0
AreMovedParts no_parts total = total ≡ 0
AreMovedParts (part t ts) total = (m : ℕ) × (rest : ℕ) × (2 ^ m ≤ task_count t ^ task_count t) × (total ≡ m + rest) × AreMovedParts ts rest

abbrev pub SeriesSteps : List (List ℕ) → List Part → Task → ℕ → ℕ → Type 0
SeriesSteps lists items v s s' =
    (st : List Term) (a b : Term) (total : ℕ) → ArePiled lists (b ∷ a ∷ st) (reverse items) → AreMoved (b ∷ a ∷ st) total
    → (more : ℕ) × (s' ≤ s + more) × AreMoved (series a v b ∷ st) (total + more)

abbrev pub ParSteps : List (List ℕ) → List Part → ℕ → ℕ → ℕ → Type 0
ParSteps lists items many s s' =
    (st : List Term) (ts : Parts) (rest : List Term) (total : ℕ) → gather many st no_parts ≡ Some (ts, rest)
    → ArePiled lists st (reverse items) → AreMoved st total
    → (more : ℕ) × (s' ≤ s + more) × AreMoved (par ts ∷ rest) (total + more)

abbrev pub PositionSteps : List (List ℕ) → List Part → Position → ℕ → ℕ → Type 0
PositionSteps lists items position s s' =
    (st st' : List Term) (total : ℕ) → ArePiled lists st (reverse items) → push position st ≡ Some st' → AreMoved st total
    → (more : ℕ) × (s' ≤ s + more) × AreMoved st' (total + more)
