-- No public clause names this.
-- What the reader of tree files does with a line, from what it keeps of the lines before. The format itself stands in TreeFile.antt.
use Rattle.std.specs.Prelude.{◌≡◌, ℕ, ◌+◌, ◌≤◌, nat_lt, List, [], ◌∷◌, ◌++◌, length, map, if◌then◌else◌, Result, Ok, Err}
use Rattle.limits.specs.Limits.{most_tasks, most_total}
use Rattle.mp_text.specs.declared.refusals.Refusal.{Refusal}
use Rattle.mp_text.specs.Text.{Row}
use Rattle.file_frame.specs.declared.version.Version.{Version}
use Rattle.file_frame.specs.declared.version.Version.TheVariants.{One}
use Rattle.mp_text.specs.Grammar.{fault, fault_at}
use Rattle.mp_text.specs.Reading.{tested}
use Rattle.trees.specs.Tree.{node_size}
use Rattle.tree_files.specs.TreeFile.{tree_header_tests, tree_version, node_count_tests, node_count, node_tests, node_of, total_of}
use Rattle.trees.specs.declared.node.Node.{Node}
use Rattle.tree_files.specs.declared.kind.TreeKind.{TreeKind}
use Rattle.tree_files.specs.declared.kind.TreeKind.TheVariants as kinds
use Rattle.tree_files.specs.declared.stage.Stage.{Stage}
use Rattle.tree_files.specs.declared.stage.Stage.TheVariants as stages
use Rattle.file_frame.specs.Frame.{is_end, last_tests}

-- what the reader keeps: what comes next, the version, the stated number of nodes, the nodes, and the sum of their sizes
pub record ReaderState : Type 0 where
  pub stage : Stage
  pub version : Version
  pub count : ℕ
  pub nodes : List Node
  pub total : ℕ

abbrev pub start : ReaderState
start = record { stage = stages.Header; version = One; count = 0; nodes = []; total = 0 }

-- bounds that the code relies on
pub record IsReaderState (s : ReaderState) : Type 0 where
  pub few : s.count ≤ most_tasks
  pub small : s.total ≤ most_total

abbrev pub with_node : ReaderState → Row → ReaderState
with_node s row =
    record s {
      nodes = s.nodes ++ node_of s.version row ∷ [];
      total = s.total + node_size (node_of s.version row);
    }

-- why a line is refused that has no fields of a node
abbrev pub refusal_without_fields : Row → Refusal TreeKind
refusal_without_fields row = if is_end row then fault kinds.Count row else fault kinds.Number row

-- a line where nodes are read: one more of them, or the end after the last
abbrev pub body_step : ReaderState → Row → Result ReaderState (Refusal TreeKind)
body_step s row =
    if nat_lt (length s.nodes) s.count
    then tested (node_tests s.version s.count s.total row) (with_node s row)
    else tested (last_tests kinds.Count row) (record s { stage = stages.Ended })

abbrev pub staged_step : Stage → ReaderState → Row → Result ReaderState (Refusal TreeKind)
staged_step stages.Header s row = tested (tree_header_tests row) (record s { stage = stages.Count; version = tree_version row })
staged_step stages.Count s row = tested (node_count_tests row) (record s { stage = stages.Nodes; count = node_count row })
staged_step stages.Nodes s row = body_step s row
staged_step stages.Ended s row = Err (fault kinds.Count row)

unfoldable pub tree_step : ReaderState → Row → Result ReaderState (Refusal TreeKind)
tree_step s row = staged_step s.stage s row

abbrev pub staged_end : Stage → ReaderState → ℕ → Result ReaderState (Refusal TreeKind)
staged_end stages.Header s past = Err (fault_at past kinds.NoEnd)
staged_end stages.Count s past = Err (fault_at past kinds.NoEnd)
staged_end stages.Nodes s past = Err (fault_at past kinds.NoEnd)
staged_end stages.Ended s past = Ok s

unfoldable pub tree_end : ReaderState → ℕ → Result ReaderState (Refusal TreeKind)
tree_end s past = staged_end s.stage s past

-- the reader stands where nodes are read, after a header, a count and these node lines
pub record TookNodes (s : ReaderState) (header counted : Row) (rows : List Row) : Type 0 where
  pub version : s.version ≡ tree_version header
  pub count : s.count ≡ node_count counted
  pub nodes : s.nodes ≡ map (node_of (tree_version header)) rows
  pub total : s.total ≡ total_of (tree_version header) rows
  pub within : length rows ≤ node_count counted

-- the reader has taken nothing of the nodes yet
pub record IsFresh (s : ReaderState) : Type 0 where
  pub nodes : s.nodes ≡ []
  pub total : s.total ≡ 0

pub record TookHeader (s : ReaderState) (rows : List Row) : Type 0 where
  pub header : Row
  pub rows_are : rows ≡ header ∷ []
  pub version : s.version ≡ tree_version header
  pub fresh : IsFresh s

pub record TookSome (s : ReaderState) (rows : List Row) : Type 0 where
  pub header : Row
  pub counted : Row
  pub node_rows : List Row
  pub rows_are : rows ≡ header ∷ counted ∷ node_rows
  pub nodes : TookNodes s header counted node_rows

pub record TookAll (s : ReaderState) (rows : List Row) : Type 0 where
  pub header : Row
  pub counted : Row
  pub node_rows : List Row
  pub last : Row
  pub rows_are : rows ≡ header ∷ counted ∷ (node_rows ++ last ∷ [])
  pub nodes : TookNodes s header counted node_rows
  pub whole : length node_rows ≡ node_count counted

-- the reader stands after these lines
abbrev pub staged_took : Stage → ReaderState → List Row → Type 0
staged_took stages.Header s rows = (rows ≡ []) × IsFresh s
staged_took stages.Count s rows = TookHeader s rows
staged_took stages.Nodes s rows = TookSome s rows
staged_took stages.Ended s rows = TookAll s rows

abbrev pub took : ReaderState → List Row → Type 0
took s rows = staged_took s.stage s rows
