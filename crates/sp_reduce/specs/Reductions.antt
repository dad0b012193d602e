-- The reductions of a graph (Valdes, Tarjan and Lawler 1982, The recognition of series parallel digraphs), on the ends of its arcs
-- alone: sizes play no part. An arc is the number of the task that it leads out of and that of the task that it leads into; 0 stands
-- for none, and none as a start and none as an end are two different ends, which are never taken out.
use Rattle.std.specs.Prelude.{◌≡◌, ◌==◌, ℕ, ◌≤◌, List, [], ◌∷◌, count_by}
use Rattle.std.specs.List.Sorted.{IsPermutation, IsSorted}
use Rattle.std.specs.Ordering.{nat_cmp, ordering_then}
use Rattle.std.specs.declared.cmp.Ordering.{Ordering}
use Rattle.graphs.specs.declared.arc.Arc.{Arc}

-- the ends of an arc
abbrev pub ends_of : Arc → ℕ × ℕ
ends_of arc = (arc.from, arc.to)

-- two arcs with the same ends become one
pub record IsParallel (before after : List (ℕ × ℕ)) : Type 0 where
  pub from : ℕ
  pub to : ℕ
  pub rest : List (ℕ × ℕ)
  pub was : IsPermutation before ((from, to) ∷ (from, to) ∷ rest)
  pub is : IsPermutation after ((from, to) ∷ rest)

-- how many arcs lead into a task, and how many out of it
abbrev pub count_into : ℕ → List (ℕ × ℕ) → ℕ
count_into v arcs = count_by (λ a. a.1 == v) arcs

abbrev pub count_out_of : ℕ → List (ℕ × ℕ) → ℕ
count_out_of v arcs = count_by (λ a. a.0 == v) arcs

-- a task with one arc into it and one out of it is taken out, and these become one arc
pub record IsSeries (before after : List (ℕ × ℕ)) : Type 0 where
  pub from : ℕ
  pub to : ℕ
  pub task : ℕ
  pub is_task : 1 ≤ task
  pub rest : List (ℕ × ℕ)
  pub was : IsPermutation before ((from, task) ∷ (task, to) ∷ rest)
  pub is : IsPermutation after ((from, to) ∷ rest)
  pub one_in : count_into task before ≡ 1
  pub one_out : count_out_of task before ≡ 1

-- reductions lead from the one graph to the other, whose arcs stand in any order
pub data ReducesTo : List (ℕ × ℕ) → List (ℕ × ℕ) → Type 0 where
  in_order : {g h : List (ℕ × ℕ)} → IsPermutation g h → ReducesTo g h
  by_parallel : {g h k : List (ℕ × ℕ)} → IsParallel g h → ReducesTo h k → ReducesTo g k
  by_series : {g h k : List (ℕ × ℕ)} → IsSeries g h → ReducesTo h k → ReducesTo g k

-- no reduction applies
pub record IsIrreducible (graph : List (ℕ × ℕ)) : Type 0 where
  pub no_parallel : (after : List (ℕ × ℕ)) → IsParallel graph after → ⊥
  pub no_series : (after : List (ℕ × ℕ)) → IsSeries graph after → ⊥

-- by the first end, and then by the second
abbrev pub by_ends : ℕ × ℕ → ℕ × ℕ → Ordering
by_ends a b = ordering_then (nat_cmp a.0 b.0) (nat_cmp a.1 b.1)

-- an irreducible rest of a graph: reductions lead to it, none applies to it, it is not one single arc from none to none, and its
-- arcs stand in rising order
pub record IsRestOf (graph rest : List (ℕ × ℕ)) : Type 0 where
  pub reached : ReducesTo graph rest
  pub irreducible : IsIrreducible rest
  pub not_single : rest ≡ (0, 0) ∷ [] → ⊥
  pub rising : IsSorted by_ends rest
