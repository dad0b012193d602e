-- No public clause names this.
-- The words of each command as a request, words that ask for nothing, and the files of requests in the order in which they are judged.
use Rattle.std.specs.Prelude.{◌≡◌, ℕ, true, false, Option, Some, None, List, [], ◌∷◌, map, codes, refl}
use Rattle.mp_text.specs.Text.{tokens_of, number_of, number_from}
use Rattle.assembly_tree.specs.declared.front.Shape.TheVariants.{Triangle, Square}
use Rattle.requests.specs.declared.commands.demo.Demo.TheVariants as demos
use Rattle.requests.specs.Request.{Request, Input, tree_input, tree_named, matrix_named, workflow_named, Matrix, natural, min_degree}
use Rattle.requests.specs.Request.{perm_named, order_named, plan_named, replay, tree, post, check, planning, as_file, as_json, simulate}
use Rattle.requests.specs.Request.{demo, upgrade, tree_upgrade, graph_upgrade, plan_upgrade, spill, segments, fronts, reduce, files_of, FileRole, tree_file}
use Rattle.requests.specs.Request.{workflow_file, matrix_file, perm_file, order_file, plan_file, planned_order_file, priority_file}
use Rattle.requests.specs.Request.{check_fences, check_graph, bounding, default_effort, bounded_plan_file, fence_file, fencing, planned_fencing, standing}
use Rattle.requests.specs.Request.{plan_priority_file, NamedFile, input_tasks, graph_tasks, shared_graph_file}
use Rattle.requests.specs.Request.{inverse_named, inverse_file, columns, by_front, as_perm, carrying}
use Rattle.requests.specs.Words.{request_of, AsksNothing}

-- what the words of a line ask for
abbrev pub asked : List ℕ → Option Request
asked line = request_of (tokens_of line)

abbrev pub a_tree : Input
a_tree = tree_input (tree_named (codes "t"))

abbrev pub a_workflow : Input
a_workflow = workflow_named (codes "w")

-- a matrix whose options are all left out
abbrev pub a_matrix : Matrix
a_matrix = record { name = codes "m"; ordering = natural; fronts = record { shape = Triangle; zeros = None; inplace = false } }

-- ---- each command

pub replay_asked :
    asked (codes "replay --tree t --order o") ∷ asked (codes "replay --plan=p --workflow=w") ∷ asked (codes "replay --graph g --order o") ∷ []
    ≡ Some (replay (input_tasks a_tree) (order_named (codes "o"))) ∷ Some (replay (input_tasks a_workflow) (plan_named (codes "p")))
    ∷ Some (replay (graph_tasks (codes "g")) (order_named (codes "o"))) ∷ []
unfolding tokens_of
replay_asked = refl

pub tree_asked : asked (codes "tree --matrix m") ∷
    asked (codes "tree --matrix m --perm p --shape square --amalgamate 16 --inplace yes") ∷ []
    ≡ Some (tree a_matrix)
    ∷ Some (tree (record {
      name = codes "m";
      ordering = perm_named (codes "p");
      fronts = record { shape = Square; zeros = Some 16; inplace = true };
    })) ∷ []
unfolding tokens_of number_of number_from
tree_asked = refl

-- the fronts by rising number, where no order of them is given
pub columns_asked : asked (codes "columns --matrix m") ∷ asked (codes "columns --plan p --matrix m --print perm --iperm q")
    ∷ asked (codes "columns --matrix m --order o --print text") ∷ asked (codes "columns --matrix m --order o --plan p")
    ∷ asked (codes "columns --matrix m --print json") ∷ asked (codes "columns --tree t") ∷ []
    ≡ Some (columns a_matrix None by_front)
    ∷ Some (columns (record a_matrix { ordering = inverse_named (codes "q") }) (Some (plan_named (codes "p"))) as_perm)
    ∷ Some (columns a_matrix (Some (order_named (codes "o"))) by_front) ∷ None ∷ None ∷ None ∷ []
unfolding tokens_of
columns_asked = refl

pub post_asked : asked (codes "post --tree t") ∷ asked (codes "post --matrix m") ∷ []
    ≡ Some (post (tree_named (codes "t"))) ∷ Some (post (matrix_named a_matrix)) ∷ []
unfolding tokens_of
post_asked = refl

-- one worker, where no number is given
pub check_asked : asked (codes "check --tree t --plan p") ∷ asked (codes "check --tree t --plan p --workers 4") ∷ []
    ≡ Some (check a_tree (codes "p") 1) ∷ Some (check a_tree (codes "p") 4) ∷ []
unfolding tokens_of number_of number_from
check_asked = refl

pub plan_asked : asked (codes "plan --tree t") ∷ asked (codes "plan --workflow w --print json") ∷ []
    ≡ Some (planning a_tree as_file) ∷ Some (planning a_workflow as_json) ∷ []
unfolding tokens_of
plan_asked = refl

pub simulate_asked : asked (codes "simulate --tree t --order o --bound 22 --workers 2 --priority r")
    ∷ asked (codes "simulate --graph g --order o --bound 9 --workers 2") ∷ asked (codes "simulate --graph g --tree t --order o --bound 9 --workers 2")
    ∷ []
    ≡ Some (simulate (input_tasks a_tree) (order_named (codes "o")) (record { bound = 22; workers = 2; priority = Some (codes "r") }))
    ∷ Some (simulate (graph_tasks (codes "g")) (order_named (codes "o")) (record { bound = 9; workers = 2; priority = None })) ∷ None ∷ []
unfolding tokens_of number_of number_from
simulate_asked = refl

pub demo_asked :
    asked (codes "demo --seed 1 --tasks 5") ∷ asked (codes "demo --kind workflow --seed 1 --tasks 5")
    ∷ asked (codes "demo --kind grid --rows 2 --cols 3") ∷ []
    ≡ Some (demo (demos.Tree 1 5)) ∷ Some (demo (demos.Workflow 1 5)) ∷ Some (demo (demos.Grid 2 3)) ∷ []
unfolding tokens_of number_of number_from
demo_asked = refl

pub upgrade_asked :
    asked (codes "upgrade --tree t") ∷ asked (codes "upgrade --graph g") ∷ asked (codes "upgrade --plan p --priority r") ∷ []
    ≡ Some (upgrade (tree_upgrade (codes "t"))) ∷ Some (upgrade (graph_upgrade (codes "g"))) ∷ Some (upgrade (plan_upgrade (codes "p") (Some (codes "r")))) ∷ []
unfolding tokens_of
upgrade_asked = refl

pub spill_asked : asked (codes "spill --tree t --order o --bound 11") ∷ asked (codes "spill --graph g --plan p --bound 11") ∷ []
    ≡ Some (spill (input_tasks a_tree) (order_named (codes "o")) 11) ∷ Some (spill (graph_tasks (codes "g")) (plan_named (codes "p")) 11) ∷ []
unfolding tokens_of number_of number_from
spill_asked = refl

pub segments_asked : asked (codes "segments --workflow w") ≡ Some (segments a_workflow)
unfolding tokens_of
segments_asked = refl

pub fronts_asked : asked (codes "fronts --matrix m --ordering mindeg --bound 4 --workers 2")
    ≡ Some (fronts (record { name = codes "m"; ordering = min_degree }) 4 2)
unfolding tokens_of number_of number_from
fronts_asked = refl

pub reduce_asked : asked (codes "reduce --graph g") ∷ asked (codes "reduce --plan p --graph g") ∷ asked (codes "reduce --graph g --order o --plan p") ∷ []
    ≡ Some (reduce (codes "g")) ∷ Some (carrying (codes "g") (plan_named (codes "p"))) ∷ None ∷ []
unfolding tokens_of
reduce_asked = refl

pub check_of_a_graph_asked : asked (codes "check --graph g --plan p --workers 4") ≡ Some (check_graph (codes "g") (codes "p") 4)
unfolding tokens_of number_of number_from
check_of_a_graph_asked = refl

pub bound_asked :
    asked (codes "bound --graph g") ∷ asked (codes "bound --effort 7 --graph g --order o") ∷ []
    ≡ Some (bounding (codes "g") None default_effort) ∷ Some (bounding (codes "g") (Some (codes "o")) 7) ∷ []
unfolding tokens_of number_of number_from
bound_asked = refl

pub check_of_fences_asked :
    asked (codes "check --graph g --fences f") ∷ asked (codes "check --fences f --tree t") ∷ asked (codes "check --tree t --fences f --workers 2")
    ∷ asked (codes "check --tree t --fences f --plan p") ∷ []
    ≡ Some (check_fences (graph_tasks (codes "g")) (codes "f")) ∷ Some (check_fences (input_tasks a_tree) (codes "f")) ∷ None ∷ None ∷ []
unfolding tokens_of number_of number_from
check_of_fences_asked = refl

-- any number of workers, where none is given; with an order goes a bound
pub fence_asked :
    asked (codes "fence --graph g --order o --bound 9") ∷ asked (codes "fence --workflow w --plan p --bound 9 --workers 4")
    ∷ asked (codes "fence --graph g --order o") ∷ asked (codes "fence --graph g --order o --plan p --bound 9") ∷ []
    ≡ Some (fencing (graph_tasks (codes "g")) (order_named (codes "o")) (record { bound = 9; workers = None; fewest = false }))
    ∷ Some (fencing (input_tasks a_workflow) (plan_named (codes "p")) (record { bound = 9; workers = Some 4; fewest = false })) ∷ None ∷ None ∷ []
unfolding tokens_of number_of number_from
fence_asked = refl

-- with a bound alone the order is planned
pub planned_fence_asked :
    asked (codes "fence --graph g --bound 9") ∷ asked (codes "fence --workers 4 --bound 9 --workflow w --fewest yes")
    ∷ asked (codes "fence --tree t --bound B") ∷ asked (codes "fence --tree t --bound 9 --fewest 2") ∷ []
    ≡ Some (planned_fencing (graph_tasks (codes "g")) (record { bound = 9; workers = None; fewest = false }))
    ∷ Some (planned_fencing (input_tasks a_workflow) (record { bound = 9; workers = Some 4; fewest = true })) ∷ None ∷ None ∷ []
unfolding tokens_of number_of number_from
planned_fence_asked = refl

-- with none of these the tasks are taken as they stand
pub standing_asked :
    asked (codes "fence --graph g") ∷ asked (codes "fence --workers 4 --tree t") ∷ asked (codes "fence --workers 0 --tree t")
    ∷ asked (codes "fence --tree t --fewest no") ∷ []
    ≡ Some (standing (graph_tasks (codes "g")) None) ∷ Some (standing (input_tasks a_tree) (Some 4)) ∷ None ∷ None ∷ []
unfolding tokens_of number_of number_from
standing_asked = refl

-- ---- words that ask for nothing

-- no words; help; no order; an order and a plan; a tree and a graph; two inputs; an option of matrices with a tree; no worker; two orders of elimination;
-- 90,000 vertices of a grid; a priority without a plan
pub nothing_asked :
    map asked
    ([] ∷ codes "--help"
    ∷ codes "replay --tree t"
    ∷ codes "replay --tree t --order o --plan p"
    ∷ codes "replay --tree t --graph g --order o"
    ∷ codes "plan --tree t --workflow w"
    ∷ codes "plan --tree t --shape square"
    ∷ codes "check --tree t --plan p --workers 0"
    ∷ codes "tree --matrix m --perm p --ordering natural"
    ∷ codes "tree --matrix m --perm p --iperm q"
    ∷ codes "demo --kind grid --rows 300 --cols 300"
    ∷ codes "upgrade --tree t --priority r"
    ∷ [])
    ≡ None ∷ None ∷ None ∷ None ∷ None ∷ None ∷ None ∷ None ∷ None ∷ None ∷ None ∷ None ∷ []
unfolding tokens_of number_of number_from
nothing_asked = refl

-- the same in the words of the top call's clauses
pub no_words_ask_nothing : (Z : Type 0) → AsksNothing {Z = Z} []
no_words_ask_nothing Z = refl

-- ---- files

abbrev pub file : FileRole → List ℕ → NamedFile
file role name = record { role = role; name = name }

pub files_of_a_run :
    files_of (simulate (input_tasks a_tree) (plan_named (codes "p")) (record { bound = 22; workers = 2; priority = Some (codes "r") }))
    ≡ file tree_file (codes "t") ∷ file planned_order_file (codes "p") ∷ file (priority_file (input_tasks a_tree)) (codes "r") ∷ []
files_of_a_run = refl

pub files_of_others :
    map files_of
    (fronts (record { name = codes "m"; ordering = perm_named (codes "q") }) 4 2
    ∷ replay (input_tasks a_workflow) (order_named (codes "o"))
    ∷ replay (graph_tasks (codes "g")) (order_named (codes "o"))
    ∷ upgrade (plan_upgrade (codes "p") (Some (codes "r")))
    ∷ columns (record a_matrix { ordering = inverse_named (codes "q") }) (Some (order_named (codes "o"))) by_front
    ∷ columns a_matrix None as_perm
    ∷ reduce (codes "g")
    ∷ carrying (codes "g") (order_named (codes "o"))
    ∷ check_graph (codes "g") (codes "p") 1
    ∷ bounding (codes "g") (Some (codes "o")) 7
    ∷ check_fences (graph_tasks (codes "g")) (codes "f")
    ∷ fencing (input_tasks a_workflow) (order_named (codes "o")) (record { bound = 9; workers = None; fewest = false })
    ∷ planned_fencing (input_tasks a_workflow) (record { bound = 9; workers = None; fewest = true })
    ∷ standing (input_tasks a_workflow) (Some 4)
    ∷ demo (demos.Grid 2 3)
    ∷ [])
    ≡ (file (matrix_file (perm_named (codes "q"))) (codes "m") ∷ file perm_file (codes "q") ∷ [])
    ∷ (file workflow_file (codes "w") ∷ file order_file (codes "o") ∷ [])
    ∷ (file shared_graph_file (codes "g") ∷ file order_file (codes "o") ∷ [])
    ∷ (file plan_file (codes "p") ∷ file plan_priority_file (codes "r") ∷ [])
    ∷ (file (matrix_file (inverse_named (codes "q"))) (codes "m") ∷ file inverse_file (codes "q") ∷ file order_file (codes "o") ∷ [])
    ∷ (file (matrix_file natural) (codes "m") ∷ [])
    ∷ (file shared_graph_file (codes "g") ∷ [])
    ∷ (file shared_graph_file (codes "g") ∷ file order_file (codes "o") ∷ [])
    ∷ (file shared_graph_file (codes "g") ∷ file bounded_plan_file (codes "p") ∷ [])
    ∷ (file shared_graph_file (codes "g") ∷ file order_file (codes "o") ∷ [])
    ∷ (file shared_graph_file (codes "g") ∷ file fence_file (codes "f") ∷ [])
    ∷ (file workflow_file (codes "w") ∷ file order_file (codes "o") ∷ [])
    ∷ (file workflow_file (codes "w") ∷ [])
    ∷ (file workflow_file (codes "w") ∷ [])
    ∷ [] ∷ []
files_of_others = refl
