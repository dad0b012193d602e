-- No public clause names this.
-- Worked examples: the cuts of a tree of five nodes and of a chain that falls.
use Rattle.std.specs.Prelude.{◌≡◌, ℕ, List, [], ◌∷◌, refl}
use Rattle.mp_system.specs.declared.system.Task.{Task}
use Rattle.hill_valley.specs.Side.{Run}
use Rattle.mp_system.specs.Memory.{peak_from}
use Rattle.sp_terms.specs.SystemOfTerm.{system_of_term}
use Rattle.sp_term_laws.specs.Along.{memory_after}
use Rattle.sp_terms.specs.Term.{Term, hold, series, par, no_parts, part, forward}
use Rattle.cut_laws.specs.Cuts.{Cut, front_peak, back_peak, order_of, lowest_of}
use Rattle.cut_laws.specs.Names.{names_of, numbered}
use Rattle.cut_laws.specs.TermCuts.{cut_of_term}

abbrev task : ℕ → Task
task extra = record { extra = extra; share = 0; time = 1 }

abbrev run : ℕ → ℕ → List ℕ → Run
run up net tasks = record { up = up; net = net; tasks = tasks }

-- ---- a tree: two chains of two nodes each below a root. The lower node needs 9 beside its block of 1, the upper one leaves 5

abbrev chain : Term
chain = series (series (hold 0) (task 9) (hold 1)) (task 0) (hold 5)

abbrev tree : Term
tree = series (par (part chain (part chain no_parts))) (task 0) (hold 0)

abbrev cut_of_chain : Cut
cut_of_chain = cut_of_term chain (numbered 1 chain)

abbrev cut_of_tree : Cut
cut_of_tree = cut_of_term tree (numbered 1 tree)

-- a chain is cut before its tasks. Back from 5 its second task goes up to 6 and down to 1, and then the first up to 10 and down to 0
chain_is_cut : cut_of_chain ≡ record { front = []; back = run 1 4 (2 ∷ []) ∷ run 9 1 (1 ∷ []) ∷ []; initial = 0; fin = 5; least = 0 }
chain_is_cut = refl

-- the tree's tasks are numbered chain by chain
tree_is_numbered : names_of tree (numbered 1 tree) ≡ 1 ∷ 2 ∷ 3 ∷ 4 ∷ 5 ∷ []
tree_is_numbered = refl

-- the tree ends as it begins, with nothing: back from there all is one run, up to 11
tree_is_cut : cut_of_tree ≡ record { front = []; back = run 11 0 (5 ∷ 2 ∷ 4 ∷ 1 ∷ 3 ∷ []) ∷ []; initial = 0; fin = 0; least = 0 }
tree_is_cut = refl

-- both lower nodes run before the upper ones
tree_is_ordered : order_of cut_of_tree ≡ 3 ∷ 1 ∷ 4 ∷ 2 ∷ 5 ∷ []
tree_is_ordered = refl

peaks_of_the_tree : front_peak cut_of_tree ∷ back_peak cut_of_tree ∷ [] ≡ 0 ∷ 11 ∷ []
peaks_of_the_tree = refl

-- ---- parts side by side that are cut in both: each leads from 4 down to 1, and over 10 to 3

abbrev valley : Term
valley = series (series (hold 4) (task 0) (hold 1)) (task 6) (hold 3)

abbrev valleys : Term
valleys = par (part valley (part valley no_parts))

valleys_are_cut : cut_of_term valleys (numbered 1 valleys)
    ≡ record { front = run 1 6 (1 ∷ 3 ∷ []) ∷ []; back = run 7 4 (2 ∷ 4 ∷ []) ∷ []; initial = 8; fin = 6; least = 2 }
valleys_are_cut = refl

valleys_are_ordered : order_of (cut_of_term valleys (numbered 1 valleys)) ≡ 1 ∷ 3 ∷ 4 ∷ 2 ∷ []
valleys_are_ordered = refl

-- ---- a chain that falls: from 5 over 7 to 2, and over 5 to nothing

abbrev falling : Term
falling = series (series (hold 5) (task 0) (hold 2)) (task 3) (hold 0)

abbrev cut_of_falling : Cut
cut_of_falling = cut_of_term falling (numbered 1 falling)

falling_is_cut : cut_of_falling ≡ record { front = run 2 3 (1 ∷ []) ∷ run 3 2 (2 ∷ []) ∷ []; back = []; initial = 5; fin = 0; least = 0 }
falling_is_cut = refl

-- below 7 it does not start, below 8 it goes all the way
lowest_of_falling : lowest_of forward 7 cut_of_falling ∷ lowest_of forward 8 cut_of_falling ∷ [] ≡ 5 ∷ 0 ∷ []
lowest_of_falling = refl

-- along its one traversal the memory is at the levels of its front, and each run goes to its `up` above the level before it
levels_of_falling :
    memory_after (system_of_term falling) [] ∷ memory_after (system_of_term falling) (1 ∷ [])
    ∷ memory_after (system_of_term falling) (1 ∷ 2 ∷ []) ∷ []
    ≡ 5 ∷ 2 ∷ 0 ∷ []
levels_of_falling = refl

highs_of_falling : peak_from (system_of_term falling) [] (1 ∷ []) ∷ peak_from (system_of_term falling) (1 ∷ []) (2 ∷ []) ∷ [] ≡ 7 ∷ 5 ∷ []
highs_of_falling = refl
