-- No public clause names this.
-- Small texts of workflows, task graphs, matrices, permutations and orders: what they state, and with which line and kind others are
-- refused. The tests that are made here are those of single lines and of the end.
use Rattle.std.specs.Prelude.{◌≡◌, ℕ, ◌+◌, true, false, List, [], ◌∷◌, ◌++◌, map, Option, Some, None, codes, refl}
use Rattle.std.specs.Fmt.{decimal, digits}
use Rattle.limits.specs.Limits.{most_size, most_arcs}
use Rattle.limits.specs.declared.name.LimitName.TheVariants as limits
use Rattle.mp_text.specs.declared.layout.Layout.{Layout}
use Rattle.mp_text.specs.declared.layout.Layout.TheVariants.{Commented, Banner}
use Rattle.mp_text.specs.declared.refusals.Refusal.{Refusal}
use Rattle.mp_text.specs.declared.refusals.Refusal.TheVariants as refusals
use Rattle.mp_text.specs.Text.{Row, lines_of, tokens_of, number_of, number_from, numbers_of, rows_from}
use Rattle.file_frame.specs.Words.{after_word, version_of}
use Rattle.mp_text.specs.Ahead.{rows_of_bytes, past_of_bytes}
use Rattle.mp_text.specs.Grammar.{Format, fault_at, first_failure, tests_of_all}
use Rattle.mp_system.specs.declared.system.Task.{Task}
use Rattle.sp_terms.specs.declared.position.Position.{Position}
use Rattle.sp_terms.specs.declared.position.Position.TheVariants.{Hold, Par}
use Rattle.sp_terms.specs.declared.position.Position.TheVariants as at
use Rattle.sp_terms.specs.Term.{hold}
use Rattle.sp_terms.specs.Builder.{is_short, limit_of, is_overshared}
use Rattle.workflow_files.specs.WorkflowFile.{workflow_format, positions_stated}
use Rattle.workflow_files.specs.WorkflowText.{workflow_text, workflow_text_2}
use Rattle.workflow_files.specs.declared.kind.WorkflowKind.TheVariants as workflows
use Rattle.graphs.specs.declared.arc.Arc.{Arc}
use Rattle.graph_files.specs.GraphFile.{graph_format, graph_stated}
use Rattle.file_frame.specs.Frame.{line_stating}
use Rattle.graph_files.specs.declared.kind.GraphKind.TheVariants as graphs
use Rattle.matrix_files.specs.MatrixFile.{matrix_format, order_stated, pairs_stated, is_word, size_stated, entry_stated}
use Rattle.matrix_files.specs.declared.kind.MatrixKind.TheVariants as matrices
use Rattle.matrix_files.specs.InverseFile.{inverse_of, inverse_format, places_stated}
use Rattle.matrix_files.specs.OrderFile.{order_format, numbers_stated, tasks_stated}
use Rattle.matrix_files.specs.PermFile.{perm_format}
use Rattle.matrix_files.specs.declared.perm_file.PermKind.{PermKind}
use Rattle.matrix_files.specs.declared.perm_file.PermKind.TheVariants as perms
use Rattle.matrix_files.specs.declared.order_file.OrderFileKind.TheVariants as order_files

-- the first test of a text's lines and of its end that fails, if one does
abbrev pub refusal_of : {K : Type 0} → Layout → Format K → List ℕ → Option (Refusal K)
refusal_of layout format bytes =
    let rows = rows_of_bytes layout bytes in
    first_failure (tests_of_all format.line_tests [] rows ++ format.end_tests rows (past_of_bytes bytes))

-- ---- workflows

-- one task, which needs 2 beside the 7 that it leaves
abbrev pub one_task : List Position
one_task = Hold 0 ∷ Hold 7 ∷ at.Task 2 0 1 ∷ []

pub one_task_text : workflow_text one_task ≡ codes "workflow 1\ntasks 1\ndata 0\ndata 7\ntask 2 1\nend\n"
unfolding digits
one_task_text = refl

pub one_task_text2 : workflow_text_2 one_task ≡ codes "workflow 2\ntasks 1\ndata 0\ndata 7\ntask 2 0 1\nend\n"
unfolding digits
one_task_text2 = refl

-- the smallest workflow is one item of data; and the task again, with a comment
pub workflow_positions :
    map (λ bytes. positions_stated (rows_of_bytes Commented bytes))
    (codes "workflow 1\ntasks 0\ndata 3\nend\n" ∷ codes "# one\nworkflow 1\ntasks 1\ndata 0\ndata 7\ntask 2 1\nend\n" ∷ [])
    ≡ (Hold 3 ∷ []) ∷ one_task ∷ []
unfolding lines_of tokens_of number_of number_from numbers_of rows_from after_word version_of
workflow_positions = refl

-- the smallest; a task fewer than stated; one term for two parts; two terms at the end; a share above what the task takes up; a size above
-- the limit; no end
pub workflow_refusals :
    map (refusal_of Commented workflow_format)
    (codes "workflow 1\ntasks 0\ndata 3\nend\n"
    ∷ codes "workflow 1\ntasks 1\ndata 3\nend\n"
    ∷ codes "workflow 1\ntasks 0\ndata 3\npar 2\n"
    ∷ codes "workflow 1\ntasks 0\ndata 3\ndata 4\nend\n"
    ∷ codes "workflow 2\ntasks 1\ndata 1\ndata 7\ntask 2 2 1\n"
    ∷ (codes "workflow 1\ntasks 0\ndata " ++ decimal (most_size + 1) ++ codes "\n")
    ∷ codes "workflow 1\ntasks 0\ndata 3\n"
    ∷ [])
    ≡ None ∷ Some (fault_at 4 workflows.TaskCount) ∷ Some (fault_at 4 workflows.StackShort) ∷ Some (fault_at 5 workflows.NotOneTerm)
    ∷ Some (fault_at 5 workflows.Share) ∷ Some (refusals.Limit limits.Size) ∷ Some (fault_at 4 workflows.NoEnd) ∷ []
unfolding digits lines_of tokens_of number_of number_from numbers_of rows_from after_word version_of
workflow_refusals = refl

-- a task wants two terms, two parts side by side want two, and data none
pub too_few_terms :
    is_short 1 (at.Task 2 0 1) ∷ is_short 2 (at.Task 2 0 1) ∷ is_short 1 (Par 2) ∷ is_short 0 (Hold 7) ∷ []
    ≡ true ∷ false ∷ true ∷ false ∷ []
too_few_terms = refl

pub size_limit : limit_of [] (Hold most_size) ∷ limit_of [] (Hold (most_size + 1)) ∷ [] ≡ None ∷ Some limits.Size ∷ []
size_limit = refl

-- between 4 that are taken up and 5 that are left, a task may take over 4
pub shares : is_overshared (at.Task 0 4 1) (hold 5 ∷ hold 4 ∷ []) ∷
    is_overshared (at.Task 0 5 1) (hold 5 ∷ hold 4 ∷ []) ∷ [] ≡ false ∷ true ∷ []
shares = refl

-- ---- task graphs

abbrev pub task : ℕ → ℕ → ℕ → Task
task extra share time = record { extra = extra; share = share; time = time }

abbrev pub arc : ℕ → ℕ → ℕ → Arc
arc from to size = record { from = from; to = to; size = size }

-- the smallest graph has no task
pub graphs_stated :
    map (λ bytes. graph_stated (rows_of_bytes Commented bytes))
    (codes "graph 1\ntasks 0\narcs 0\nend\n" ∷ codes "graph 1\ntasks 2\n3 0 1\n0 2 4\narcs 1\n1 2 5\nend\n" ∷ [])
    ≡ record { tasks = []; arcs = [] } ∷ record { tasks = task 3 0 1 ∷ task 0 2 4 ∷ []; arcs = arc 1 2 5 ∷ [] } ∷ []
unfolding lines_of tokens_of number_of number_from numbers_of rows_from after_word version_of
graphs_stated = refl

pub line_of_task : line_stating (rows_of_bytes Commented (codes "graph 1\ntasks 2\n3 0 1\n\n0 2 4\narcs 1\n1 2 5\nend\n")) 2 ≡ 5
unfolding lines_of tokens_of rows_from
line_of_task = refl

-- the smallest; another version; a time of 0; an arc from a task to itself; too many arcs; no end
pub graph_refusals :
    map (refusal_of Commented graph_format)
    (codes "graph 1\ntasks 0\narcs 0\nend\n"
    ∷ codes "graph 2\n"
    ∷ codes "graph 1\ntasks 1\n0 0 0\n"
    ∷ codes "graph 1\ntasks 1\n0 0 1\narcs 1\n1 1 5\n"
    ∷ (codes "graph 1\ntasks 0\narcs " ++ decimal (most_arcs + 1) ++ codes "\n")
    ∷ codes "graph 1\ntasks 0\narcs 0\n"
    ∷ [])
    ≡ None ∷ Some (fault_at 1 graphs.Header) ∷ Some (fault_at 3 graphs.Number) ∷ Some (fault_at 5 graphs.Arc)
    ∷ Some (refusals.Limit limits.Arcs) ∷ Some (fault_at 4 graphs.NoEnd) ∷ []
unfolding digits lines_of tokens_of number_of number_from numbers_of rows_from after_word version_of
graph_refusals = refl

-- ---- matrices

-- line 1 counts, whatever it begins with, and the next line does not; an entry has a value, which is not read
abbrev pub arrow_rows : List Row
arrow_rows = rows_of_bytes Banner (codes "%%MatrixMarket matrix coordinate real general\n% the arrow\n4 4 3\n2 1 .5\n3 1 -1\n1 4 x\n")

pub arrow_order : order_stated arrow_rows ≡ 4
unfolding lines_of tokens_of number_of number_from numbers_of rows_from size_stated
arrow_order = refl

pub arrow_pairs : pairs_stated arrow_rows ≡ (2, 1) ∷ (3, 1) ∷ (1, 4) ∷ []
unfolding lines_of tokens_of number_of number_from rows_from is_word entry_stated
arrow_pairs = refl

-- one row without an entry; nothing; a dense matrix; three columns; a value that is missing; a row that is none; an entry too few
pub matrix_refusals :
    map (refusal_of Banner matrix_format)
    (codes "%%MatrixMarket matrix coordinate pattern symmetric\n1 1 0\n"
    ∷ []
    ∷ codes "%%MatrixMarket matrix array real general\n"
    ∷ codes "%%MatrixMarket matrix coordinate real general\n2 3 1\n"
    ∷ codes "%%MatrixMarket matrix coordinate real general\n2 2 1\n2 1\n"
    ∷ codes "%%MatrixMarket matrix coordinate pattern general\n2 2 1\n3 1\n"
    ∷ codes "%%MatrixMarket matrix coordinate pattern general\n2 2 2\n2 1\n"
    ∷ [])
    ≡ None ∷ Some (fault_at 1 matrices.Banner) ∷ Some (fault_at 1 matrices.ArrayFormat) ∷ Some (fault_at 2 matrices.NotSquare)
    ∷ Some (fault_at 3 matrices.Entry) ∷ Some (fault_at 3 matrices.Index) ∷ Some (fault_at 4 matrices.TooFew) ∷ []
unfolding lines_of tokens_of number_of number_from numbers_of rows_from is_word size_stated entry_stated
matrix_refusals = refl

-- ---- permutations and orders

-- the tokens of all lines, in order
pub numbers_of_lines : numbers_stated (rows_of_bytes Commented (codes "2 3\n# the middle\n1\n4")) ≡ 2 ∷ 3 ∷ 1 ∷ 4 ∷ []
unfolding lines_of tokens_of number_of number_from rows_from
numbers_of_lines = refl

-- of three vertices: each once; a word; a fourth number; 4 is none; 2 stands twice; one is missing
pub perm_refusals :
    map (refusal_of Commented (perm_format 3))
    (codes "2 3\n1" ∷ codes "1 x 2" ∷ codes "2 3 1\n1" ∷ codes "1 4 2" ∷ codes "1 2\n2" ∷ codes "1 2\n" ∷ [])
    ≡ None ∷ Some (fault_at 1 perms.Number) ∷ Some (fault_at 2 perms.Count) ∷ Some (fault_at 1 perms.Range)
    ∷ Some (fault_at 2 perms.Repeated) ∷ Some (fault_at 2 perms.Count) ∷ []
unfolding lines_of tokens_of number_of number_from rows_from
perm_refusals = refl

-- an order may be empty, and need not be one of tasks that are there; but a number is below 2^32
pub order_refusals :
    map (refusal_of Commented order_format) ([] ∷ codes "7 7" ∷ codes "1\nx" ∷ codes "4294967296" ∷ [])
    ≡ None ∷ None ∷ Some (fault_at 2 order_files.Number) ∷ Some (fault_at 1 order_files.Number) ∷ []
unfolding lines_of tokens_of number_of number_from rows_from
order_refusals = refl

-- the same of a file of places of n vertices
abbrev pub refusal_of_places : ℕ → List ℕ → Option (Refusal PermKind)
refusal_of_places n bytes = refusal_of Commented (inverse_format n (rows_of_bytes Commented bytes)) bytes

-- places alone, then listings: another number of vertices, another vertex than the next one, a place of 0 from 1 on, one twice, one too few
pub places_refusals :
    map (refusal_of_places 3)
    (codes "2\n0\n1" ∷ codes "3 1 0" ∷ codes "1 1 0" ∷ codes "0 2\n" ∷ codes "3\n0 2\n1 0\n2 1" ∷ codes "2\n1 3\n2 1\n3 2"
    ∷ codes "3\n1 3\n3 1\n2 2" ∷ codes "3\n1 3\n2 0\n3 2" ∷ codes "3\n1 3\n2 3\n3 2" ∷ codes "3\n1 3\n2 1\n3" ∷ [])
    ≡ None ∷ Some (fault_at 1 perms.Range) ∷ Some (fault_at 1 perms.Repeated) ∷ Some (fault_at 2 perms.Count)
    ∷ None ∷ Some (fault_at 1 perms.Count) ∷ Some (fault_at 3 perms.Range) ∷ Some (fault_at 3 perms.Range)
    ∷ Some (fault_at 3 perms.Repeated) ∷ Some (fault_at 2 perms.Repeated) ∷ []
unfolding lines_of tokens_of number_of number_from rows_from
places_refusals = refl

-- vertex 2 is the first whose place is 1, counted from 0 or from 1, alone or behind the vertices
pub inverses : map (λ text. inverse_of (places_stated 3 (rows_of_bytes Commented text)))
    (codes "2 0\n1" ∷ codes "3 1\n2" ∷ codes "3\n0 2\n1 0\n2 1" ∷ codes "3\n1 3\n2 1\n3 2" ∷ [])
    ≡ (2 ∷ 3 ∷ 1 ∷ []) ∷ (2 ∷ 3 ∷ 1 ∷ []) ∷ (2 ∷ 3 ∷ 1 ∷ []) ∷ (2 ∷ 3 ∷ 1 ∷ []) ∷ []
unfolding lines_of tokens_of number_of number_from rows_from
inverses = refl

pub tasks_of_a_report : tasks_stated (rows_of_bytes Commented (codes "peak 9\norder 3\n1 3\n2\nend\n")) ≡ 1 ∷ 3 ∷ 2 ∷ []
unfolding lines_of tokens_of number_of number_from after_word rows_from
tasks_of_a_report = refl

-- a second line of another word; a number too few, and one too many; no end
pub report_refusals :
    map (refusal_of Commented order_format)
    (codes "peak 9\norder 2\n1\n2\nend\n" ∷ codes "peak 9\ntasks 2" ∷ codes "peak 9\norder 2\n1\nend\n" ∷ codes "peak 9\norder 1\n1\n2\nend\n"
    ∷ codes "peak 9\norder 1\n1\n" ∷ [])
    ≡ None ∷ Some (fault_at 2 order_files.Header) ∷ Some (fault_at 4 order_files.Count) ∷ Some (fault_at 4 order_files.Count)
    ∷ Some (fault_at 4 order_files.NoEnd) ∷ []
unfolding lines_of tokens_of number_of number_from after_word rows_from
report_refusals = refl
