-- Worked examples: words, the smallest tree and workflow, a tree of three nodes, and grids.
use Rattle.std.specs.Prelude.{◌≡◌, ℕ, zero, suc, List, [], ◌∷◌, refl}
use Rattle.rand_pcg.specs.Lcg.{Lcg, started, increment_of}
use Rattle.rand_pcg.specs.Pcg.{multiplier_64, pcg32}
use Rattle.sp_terms.specs.declared.position.Position.TheVariants.{Hold}
use Rattle.sp_terms.specs.declared.position.Position.TheVariants as at
use Rattle.trees.specs.declared.node.Node.{Node}
use Rattle.mp_gen.specs.Dice.{dice_of, draw}
use Rattle.mp_gen.specs.RandomTree.{draw_parent, draw_node, draw_nodes, tree_of}
use Rattle.mp_gen.specs.RandomWorkflow.{with_hold, with_data, with_task, with_par, with_one, with_tasks, closed, workflow_of}
use Rattle.mp_gen.specs.Grid.{joins_at, joins_in_row, grid_pairs}

-- ---- words

-- the next words
abbrev pub words : ℕ → Lcg → List ℕ
words zero dice = []
words (suc k) dice = (pcg32 dice).0 ∷ words k (pcg32 dice).1

-- the first words that the demonstration program of PCG's library prints
pub known_words : words 3 (started 64 multiplier_64 42 (increment_of 64 54)) ≡ 0xa15c02b7 ∷ 0x7b47f409 ∷ 0xba1d3330 ∷ []
known_words = refl

pub words_of_1 : words 3 (dice_of 1) ≡ 3380776849 ∷ 361947764 ∷ 3223725655 ∷ []
unfolding dice_of
words_of_1 = refl

-- ---- trees

abbrev pub node : ℕ → ℕ → ℕ → ℕ → Node
node parent out extra time = record { parent = parent; out = out; extra = extra; share = 0; time = time }

-- a root alone takes the first three words, for its out, its extra and its time
pub root : tree_of 1 1 ≡ node 0 850 764 8 ∷ []
unfolding dice_of draw draw_parent draw_node draw_nodes tree_of
root = refl

pub three_nodes : tree_of 1 3 ≡ node 3 765 655 4 ∷ node 3 698 406 4 ∷ node 0 875 43 10 ∷ []
unfolding dice_of draw draw_parent draw_node draw_nodes tree_of
three_nodes = refl

-- ---- workflows

pub one_task : workflow_of 1 1 ≡ Hold 765 ∷ Hold 656 ∷ at.Task 427 0 7 ∷ []
unfolding dice_of draw with_hold with_data with_task with_par with_one with_tasks closed workflow_of
one_task = refl

-- ---- grids

pub square : grid_pairs 2 2 ≡ (1, 2) ∷ (1, 3) ∷ (2, 4) ∷ (3, 4) ∷ []
unfolding joins_at joins_in_row grid_pairs
square = refl

pub one_vertex : grid_pairs 1 1 ≡ []
unfolding joins_at joins_in_row grid_pairs
one_vertex = refl
