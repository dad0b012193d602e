-- The tasks of a part within an order of the whole.
use Rattle.std.specs.Prelude.{◌≡◌, ℕ, ◌+◌, ◌-◌, ◌<◌, ◌≤◌, ◌&&◌, nat_lt, nat_le, All, List, map}
use Rattle.std.specs.List.{filter}
use Rattle.mp_system.specs.Traversal.{IsTraversal}
use Rattle.sp_terms.specs.SystemOfTerm.{task_count, system_of_term}
use Rattle.sp_terms.specs.Term.{Parts, no_parts, part}

-- the numbers of a list that are among `count` from `base` on
abbrev pub numbers_within : ℕ → ℕ → List ℕ → List ℕ
numbers_within base count xs = filter (λ v. nat_le base v && nat_lt v (base + count)) xs

-- all numbers of the list are among them
abbrev pub AreWithin : ℕ → ℕ → List ℕ → Type 0
AreWithin base count xs = All (λ v. (base ≤ v) × (v < base + count)) xs

-- the traversals of a `par`: each part's own tasks, renumbered, are a traversal of it
abbrev pub EachTraversal : ℕ → Parts → List ℕ → Type 0
EachTraversal base no_parts order = Unit {0}
EachTraversal base (part t ts) order =
    ((q : List ℕ) × IsTraversal (system_of_term t) q × (numbers_within base (task_count t) order ≡ map (λ k. (base - 1) + k) q))
    × EachTraversal (base + task_count t) ts order
