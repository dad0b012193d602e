-- Tree files of version 1, and of version 2, whose nodes have a share: what a file reads as, and what it is refused with. They are this
-- project's own format.
use Rattle.std.specs.Prelude.{◌≡◌, ◌==◌, ℕ, ◌+◌, Bool, ◌&&◌, not, nat_le, is_some, unwrap_or, Option, Some, None}
use Rattle.std.specs.Prelude.{List, [], ◌∷◌, ◌++◌, length, map, take, codes, ◌⊎◌}
use Rattle.std.specs.List.{sum_by}
use Rattle.limits.specs.Limits.{most_tasks, most_size, most_time, most_total}
use Rattle.limits.specs.declared.name.LimitName.TheVariants as limits
use Rattle.mp_text.specs.declared.layout.Layout.TheVariants.{Commented}
use Rattle.mp_text.specs.declared.refusals.Refusal.{Refusal}
use Rattle.mp_text.specs.declared.refusals.Refusal.TheVariants as refusals
use Rattle.mp_text.specs.Text.{Row, numbers_of}
use Rattle.file_frame.specs.declared.version.Version.{Version}
use Rattle.file_frame.specs.declared.version.Version.TheVariants.{One, Two}
use Rattle.mp_text.specs.Ahead.{rows_of_bytes, past_of_bytes}
use Rattle.mp_text.specs.Grammar.{Test, test, Format, IsWellFormed, Refuses, fault, fault_at}
use Rattle.tree_files.specs.declared.fields.NodeFields.{NodeFields}
use Rattle.lists.specs.Numbers.{IsFirstWithout}
use Rattle.trees.specs.Tree.{IsNode, LeadsToRoot, NodeShareFits, node_size}
use Rattle.trees.specs.declared.node.Node.{Node}
use Rattle.tree_files.specs.declared.kind.TreeKind.{TreeKind}
use Rattle.tree_files.specs.declared.kind.TreeKind.TheVariants as kinds
use Rattle.file_frame.specs.Frame.{header_tests, version_stated, stated_on, is_end, end_tests, first_then}
use Rattle.file_frame.specs.Frame.{section_tests, line_stating, lines_then, end_then_none, has_first}

-- ---- line 1: `tree 1` or `tree 2`

abbrev pub tree_header_tests : Row → List (Test TreeKind)
tree_header_tests row = header_tests (codes "tree") Two kinds.Header row

abbrev pub tree_version : Row → Version
tree_version header = version_stated (codes "tree") Two header

-- ---- line 2: `nodes N`

abbrev pub node_count : Row → ℕ
node_count row = stated_on (codes "nodes") row

abbrev pub node_count_tests : Row → List (Test TreeKind)
node_count_tests row =
    section_tests (codes "nodes") kinds.Header kinds.Number row
    ++ test (not (node_count row == 0)) (fault kinds.Count row)
    ∷ test (nat_le (node_count row) most_tasks) (refusals.Limit limits.Tasks)
    ∷ []

-- ---- a node line: `parent out extra time`, in version 2 `parent out extra share time`

-- the fields of a line that has just so many tokens, all of them numbers
abbrev pub fields_of : Version → Option (List ℕ) → Option NodeFields
fields_of One (Some (parent ∷ out ∷ extra ∷ time ∷ [])) =
    Some (record { parent = parent; out = out; extra = extra; share = 0; time = time })
fields_of Two (Some (parent ∷ out ∷ extra ∷ share ∷ time ∷ [])) =
    Some (record { parent = parent; out = out; extra = extra; share = share; time = time })
fields_of _ _ = None

abbrev pub fields_stated : Version → Row → Option NodeFields
fields_stated version row = fields_of version (numbers_of row.tokens)

abbrev pub node_of : Version → Row → Node
node_of version row =
    let f = unwrap_or (fields_stated version row) (record { parent = 0; out = 0; extra = 0; share = 0; time = 0 }) in
    record { parent = f.parent; out = f.out; extra = f.extra; share = f.share; time = f.time }

-- with the number of nodes and the sum of all sizes of the node lines before
abbrev pub node_tests : Version → ℕ → ℕ → Row → List (Test TreeKind)
node_tests version count total row =
    test (not (is_end row)) (fault kinds.Count row)
    ∷ test (is_some (fields_stated version row) && not ((node_of version row).time == 0)) (fault kinds.Number row)
    ∷ test (nat_le (node_of version row).parent count) (fault kinds.Parent row)
    ∷ test (nat_le (node_of version row).out most_size && nat_le (node_of version row).extra most_size) (refusals.Limit limits.Size)
    ∷ test (nat_le (node_of version row).time most_time) (refusals.Limit limits.Time)
    ∷ test (nat_le (total + (node_of version row).out + (node_of version row).extra) most_total) (refusals.Limit limits.Total)
    ∷ []

abbrev pub total_of : Version → List Row → ℕ
total_of version rows = sum_by (λ row. node_size (node_of version row)) rows

-- ---- the lines after the second: N nodes, then `end`, then none

abbrev pub tree_body_tests : Version → ℕ → List Row → Row → List (Test TreeKind)
tree_body_tests version count =
    lines_then count (λ before row. node_tests version count (total_of version before) row) (λ nodes. end_then_none kinds.Count kinds.Count)

abbrev pub tree_line_tests : List Row → Row → List (Test TreeKind)
tree_line_tests =
    first_then tree_header_tests (λ header.
    first_then node_count_tests (λ counted.
    tree_body_tests (tree_version header) (node_count counted)))

-- whether no line is missing
abbrev pub is_tree_complete : List Row → Bool
is_tree_complete = has_first (λ header. has_first (λ counted rows. length rows == node_count counted + 1))

abbrev pub tree_end_tests : List Row → ℕ → List (Test TreeKind)
tree_end_tests rows past = end_tests (is_tree_complete rows) kinds.NoEnd past

abbrev pub tree_format : Format TreeKind
tree_format = record { line_tests = tree_line_tests; end_tests = tree_end_tests }

-- the nodes that the lines state
abbrev pub nodes_stated : List Row → List Node
nodes_stated [] = []
nodes_stated (header ∷ []) = []
nodes_stated (header ∷ count ∷ rows) = map (node_of (tree_version header)) (take (node_count count) rows)

-- ---- the whole file

-- every line passes, all nodes lead to a root, all shares fit, and the nodes are those stated
pub record ReadsTree (bytes : List ℕ) (nodes : List Node) : Type 0 where
  pub form : IsWellFormed tree_format (rows_of_bytes Commented bytes) (past_of_bytes bytes)
  pub stated : nodes ≡ nodes_stated (rows_of_bytes Commented bytes)
  pub roots : (v : ℕ) → IsNode nodes v → LeadsToRoot nodes v
  pub shares : (v : ℕ) → IsNode nodes v → NodeShareFits nodes v

-- every line passes, and v is the lowest node whose parents lead to no root
pub record RefusesCycle (bytes : List ℕ) (refusal : Refusal TreeKind) : Type 0 where
  pub form : IsWellFormed tree_format (rows_of_bytes Commented bytes) (past_of_bytes bytes)
  pub node : ℕ
  pub first : let nodes = nodes_stated (rows_of_bytes Commented bytes) in IsFirstWithout (length nodes) (LeadsToRoot nodes) node
  pub refusal_is : refusal ≡ fault_at (line_stating (rows_of_bytes Commented bytes) node) kinds.Cycle

-- every line passes, all nodes lead to a root, and v is the lowest node whose share does not fit
pub record RefusesShare (bytes : List ℕ) (refusal : Refusal TreeKind) : Type 0 where
  pub form : IsWellFormed tree_format (rows_of_bytes Commented bytes) (past_of_bytes bytes)
  pub roots : let nodes = nodes_stated (rows_of_bytes Commented bytes) in (v : ℕ) → IsNode nodes v → LeadsToRoot nodes v
  pub node : ℕ
  pub first : let nodes = nodes_stated (rows_of_bytes Commented bytes) in IsFirstWithout (length nodes) (NodeShareFits nodes) node
  pub refusal_is : refusal ≡ fault_at (line_stating (rows_of_bytes Commented bytes) node) kinds.Share

abbrev pub RefusesTree : List ℕ → Refusal TreeKind → Type 0
RefusesTree bytes refusal =
    Refuses tree_format (rows_of_bytes Commented bytes) (past_of_bytes bytes) refusal
    ⊎ (RefusesCycle bytes refusal ⊎ RefusesShare bytes refusal)

-- an answer that is no tree: a refusal of the file, or memory ran out
abbrev pub IsTreeRefusal : List ℕ → Refusal TreeKind → Type 0
IsTreeRefusal bytes refusals.NoMemory = Unit {0}
IsTreeRefusal bytes (refusals.Format f) = RefusesTree bytes (refusals.Format f)
IsTreeRefusal bytes (refusals.Limit l) = RefusesTree bytes (refusals.Limit l)
