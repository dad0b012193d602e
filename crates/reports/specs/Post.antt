-- `post`: the best postorder of a tree.
use Rattle.std.specs.Prelude.{◌≡◌, ℕ, List, [], ◌∷◌, ◌++◌, length, map, codes, decimal}
use Rattle.mp_text.specs.Report.{text_of_lines}
use Rattle.mp_system.specs.Memory.{peak_of}
use Rattle.trees.specs.declared.node.Node.{Node}
use Rattle.trees.specs.Tree.{system_of_nodes}
use Rattle.postorder_best.specs.BestPostorder.{IsBestPostorder}
use Rattle.judging.specs.declared.status.Status.TheVariants as status
use Rattle.judging.specs.Files.{Answer}

-- `peak PEAK`, `order N`, the nodes, `end`
abbrev pub post_lines : ℕ → List ℕ → List (List (List ℕ))
post_lines peak order =
    (codes "peak" ∷ decimal peak ∷ [])
    ∷ (codes "order" ∷ decimal (length order) ∷ [])
    ∷ map (λ v. decimal v ∷ []) order ++ (codes "end" ∷ []) ∷ []

abbrev pub post_answer : ℕ → List ℕ → Answer
post_answer peak order = record { status = status.Done; text = text_of_lines (post_lines peak order) }

-- the best postorder of a tree, with its peak
abbrev pub IsPost : List Node → Answer → Type 0
IsPost nodes answer = (order : List ℕ) × IsBestPostorder nodes order × (answer ≡ post_answer (peak_of (system_of_nodes nodes) order) order)
