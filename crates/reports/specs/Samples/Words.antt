-- No public clause names this.
-- The words that reports print, as docs/FORMATS.md has them: of limits, and of what is wrong with a file or with an order.
use Rattle.std.specs.Prelude.{◌≡◌, [], ◌∷◌, map, codes, refl}
use Rattle.limits.specs.Limits.{word_of as limit_word}
use Rattle.limits.specs.declared.name.LimitName.TheVariants as limits
use Rattle.mp_system.specs.Refusal.{word_of as order_word}
use Rattle.mp_system.specs.declared.system.OrderKind.TheVariants as orders
use Rattle.tree_files.specs.Kinds.{word_of as tree_word}
use Rattle.tree_files.specs.declared.kind.TreeKind.TheVariants as trees
use Rattle.workflow_files.specs.Kinds.{word_of as workflow_word}
use Rattle.workflow_files.specs.declared.kind.WorkflowKind.TheVariants as workflows
use Rattle.graph_files.specs.Kinds.{word_of as graph_word}
use Rattle.graph_files.specs.declared.kind.GraphKind.TheVariants as graphs
use Rattle.plan_files.specs.Kinds.{word_of as plan_word}
use Rattle.plan_files.specs.declared.kind.PlanKind.TheVariants as plans
use Rattle.matrix_files.specs.Kinds.{word_of as matrix_word}
use Rattle.matrix_files.specs.declared.kind.MatrixKind.TheVariants as matrices
use Rattle.matrix_files.specs.OrderKinds.{perm_word, order_file_word}
use Rattle.matrix_files.specs.declared.perm_file.PermKind.TheVariants as perms
use Rattle.matrix_files.specs.declared.order_file.OrderFileKind.TheVariants as order_files

-- the words of the table of limits; its numbers stand in the crate of the limits alone
pub limit_words :
    map limit_word
    (limits.Bytes ∷ limits.Order ∷ limits.Entries ∷ limits.Tasks ∷ limits.Arcs ∷ limits.Positions ∷ limits.Size ∷ limits.Total
    ∷ limits.Time ∷ limits.Mindeg ∷ limits.Steps ∷ [])
    ≡ codes "bytes" ∷ codes "order" ∷ codes "entries" ∷ codes "tasks" ∷ codes "arcs" ∷ codes "positions" ∷ codes "size" ∷ codes "total"
    ∷ codes "time" ∷ codes "mindeg" ∷ codes "steps" ∷ []
limit_words = refl

-- an order that is no traversal
pub order_words :
    map order_word (orders.Unknown ∷ orders.Repeated ∷ orders.TooEarly ∷ orders.Missing ∷ [])
    ≡ codes "unknown" ∷ codes "repeated" ∷ codes "too-early" ∷ codes "missing" ∷ []
order_words = refl

-- the kinds of each file, in the order of the table of its tests; those that are told after all lines come last
pub tree_words :
    map tree_word (trees.Header ∷ trees.Number ∷ trees.Count ∷ trees.Parent ∷ trees.NoEnd ∷ trees.Cycle ∷ trees.Share ∷ [])
    ≡ codes "header" ∷ codes "number" ∷ codes "count" ∷ codes "parent" ∷ codes "no-end" ∷ codes "cycle" ∷ codes "share" ∷ []
tree_words = refl

pub workflow_words :
    map workflow_word
    (workflows.Header ∷ workflows.Word ∷ workflows.Number ∷ workflows.StackShort ∷ workflows.TaskCount ∷ workflows.Share
    ∷ workflows.NotOneTerm ∷ workflows.NoEnd ∷ [])
    ≡ codes "header" ∷ codes "word" ∷ codes "number" ∷ codes "stack-short" ∷ codes "task-count" ∷ codes "share" ∷ codes "not-one-term"
    ∷ codes "no-end" ∷ []
workflow_words = refl

pub graph_words :
    map graph_word
    (graphs.Header ∷ graphs.Section ∷ graphs.Number ∷ graphs.Arc ∷ graphs.NoEnd ∷ graphs.Cycle ∷ graphs.Share ∷ [])
    ≡ codes "header" ∷ codes "section" ∷ codes "number" ∷ codes "arc" ∷ codes "no-end" ∷ codes "cycle" ∷ codes "share" ∷ []
graph_words = refl

pub plan_words :
    map plan_word (plans.Header ∷ plans.Section ∷ plans.Number ∷ plans.Order ∷ plans.Priority ∷ plans.Claim ∷ plans.NoEnd ∷ [])
    ≡ codes "header" ∷ codes "section" ∷ codes "number" ∷ codes "order" ∷ codes "priority" ∷ codes "claim" ∷ codes "no-end" ∷ []
plan_words = refl

pub matrix_words :
    map matrix_word
    (matrices.Banner ∷ matrices.NotMatrix ∷ matrices.ArrayFormat ∷ matrices.Field ∷ matrices.Symmetry ∷ matrices.SizeLine
    ∷ matrices.NotSquare ∷ matrices.TooMany ∷ matrices.Entry ∷ matrices.Index ∷ matrices.TooFew ∷ [])
    ≡ codes "banner" ∷ codes "not-matrix" ∷ codes "array-format" ∷ codes "field" ∷ codes "symmetry" ∷ codes "size-line"
    ∷ codes "not-square" ∷ codes "too-many" ∷ codes "entry" ∷ codes "index" ∷ codes "too-few" ∷ []
matrix_words = refl

pub perm_words :
    map perm_word (perms.Number ∷ perms.Count ∷ perms.Range ∷ perms.Repeated ∷ [])
    ≡ codes "number" ∷ codes "count" ∷ codes "range" ∷ codes "repeated" ∷ []
perm_words = refl

pub order_file_words : order_file_word order_files.Number ≡ codes "number"
order_file_words = refl
