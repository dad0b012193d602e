-- No public clause names this.
-- Worked examples: a tree of five nodes whose leaves run first, with less memory than its peak of 15.
use Rattle.std.specs.Prelude.{◌≡◌, ℕ, Option, Some, None, List, [], ◌∷◌, map, refl}
use Rattle.mp_system.specs.declared.system.Task.{Task}
use Rattle.mp_system.specs.declared.system.Item.{Item}
use Rattle.mp_system.specs.System.{TaskSystem}
use Rattle.mp_system.specs.Memory.{peak_of}
use Rattle.spill_plan.specs.SpillPlans.{own_need, kept_across, plan_by_amounts, plan_volume}

abbrev pub task : ℕ → Task
task extra = record { extra = extra; share = 0; time = 1 }

abbrev pub item : ℕ → Option ℕ → Option ℕ → Item
item size from to = record { size = size; from = from; to = to }

-- 5 has the children 2 and 4, which have the children 1 and 3; 1 and 3 need 9 beside what they produce
abbrev pub tree : TaskSystem
tree = record {
  tasks = task 9 ∷ task 0 ∷ task 9 ∷ task 0 ∷ task 0 ∷ [];
  items =
      item 1 (Some 1) (Some 2) ∷ item 5 (Some 2) (Some 5) ∷ item 1 (Some 3) (Some 4) ∷ item 5 (Some 4) (Some 5)
      ∷ item 0 (Some 5) None ∷ [];
}

abbrev pub order : List ℕ
order = 1 ∷ 2 ∷ 3 ∷ 4 ∷ 5 ∷ []

abbrev pub steps : List ℕ
steps = 0 ∷ 1 ∷ 2 ∷ 3 ∷ 4 ∷ []

-- what each step needs for itself, and what is held across it: the block of node 2, while 3 and 4 run
pub needs : map (own_need tree order) steps ≡ 10 ∷ 6 ∷ 10 ∷ 6 ∷ 10 ∷ []
needs = refl

pub held : map (λ step. kept_across tree order step (λ i. 0)) steps ≡ 0 ∷ 0 ∷ 5 ∷ 5 ∷ 0 ∷ []
held = refl

pub peak : peak_of tree order ≡ 15
peak = refl

-- with 4 of that block on disk each step fits in 11
abbrev pub amounts : List ℕ
amounts = 0 ∷ 4 ∷ 0 ∷ 0 ∷ 0 ∷ []

pub kept : map (λ step. kept_across tree order step (plan_by_amounts tree order amounts step)) steps ≡ 0 ∷ 0 ∷ 1 ∷ 1 ∷ 0 ∷ []
kept = refl

pub volume : plan_volume tree order (plan_by_amounts tree order amounts) ≡ 4
volume = refl
