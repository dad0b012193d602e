-- The names of options that several commands take.
use Rattle.std.specs.Prelude.{ℕ, List, [], ◌∷◌, codes}

-- what a matrix takes besides its name
abbrev pub matrix_options : List (List ℕ)
matrix_options = codes "perm" ∷ codes "iperm" ∷ codes "ordering" ∷ codes "shape" ∷ codes "amalgamate" ∷ codes "inplace" ∷ []

-- a matrix; a tree or a matrix; any input; an input or a task graph
abbrev pub matrix_names : List (List ℕ)
matrix_names = codes "matrix" ∷ matrix_options

abbrev pub tree_names : List (List ℕ)
tree_names = codes "tree" ∷ matrix_names

abbrev pub input_names : List (List ℕ)
input_names = codes "workflow" ∷ tree_names

abbrev pub task_names : List (List ℕ)
task_names = codes "graph" ∷ input_names
