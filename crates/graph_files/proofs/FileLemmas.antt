-- Of a graph file: it is read or refused, never both, as one graph or with one refusal.
use Rattle.std.proofs.Common.{◌≡◌, ℕ, ◌+◌, List, ◌⊎◌, inl, inr, length, refl, sym, ap, subst, ◌∙◌, arith}
use Rattle.std.specs.List.{sum_by}
use Rattle.std.proofs.lemmas.Bool.{cases_lt}
use Rattle.limits.specs.Limits.{most_arcs}
use Rattle.limits.specs.declared.name.LimitName.TheVariants as limits
use Rattle.mp_text.specs.declared.layout.Layout.TheVariants.{Commented}
use Rattle.mp_text.specs.declared.refusals.Refusal.{Refusal}
use Rattle.mp_text.specs.declared.refusals.Refusal.TheVariants as refusals
use Rattle.mp_text.specs.Ahead.{rows_of_bytes, past_of_bytes}
use Rattle.mp_text.specs.Grammar.{fault_at}
use Rattle.graph_files.specs.declared.kind.GraphKind.{GraphKind}
use Rattle.graph_files.specs.declared.kind.GraphKind.TheVariants as kinds
use Rattle.graphs.specs.Graph.{TaskGraph, IsAmong, CanBeOrdered, TaskShareFits, IsGraph}
use Rattle.graphs.specs.Graph.{completed_arcs, size_into, size_out_of, listed_task}
use Rattle.graph_files.specs.GraphFile.{graph_format, stated_by, ReadsGraph, RefusesCycle, RefusesShare, RefusesGraph}
use Rattle.lists.proofs.Places.{IsEither, first_without, one_first_without}
use Rattle.graphs.specs.Judged.{HasFewArcs, IsOrdered, IsPlain}
use Rattle.graph_files.proofs.FormLemmas.{well_formed_within}
use Rattle.graphs.proofs.OrderLemmas.{ordered_or_not}
use Rattle.file_frame.specs.Frame.{line_stating}
use Rattle.file_frame.proofs.TestLemmas.{SomeOutcome, NotBoth, OneRefusal}

-- ---- facts that hold or not

few_or_not : (graph : TaskGraph) → HasFewArcs graph ⊎ (HasFewArcs graph → ⊥)
few_or_not graph = elim (cases_lt most_arcs (length (completed_arcs (length graph.tasks) graph.arcs))) [
  | inl many ↦ inr (λ few. absurd (omega (arith, many, few)))
  | inr few ↦ inl few
]

fits_or_not : (graph : TaskGraph) → IsEither (length graph.tasks) (TaskShareFits graph.tasks graph.arcs)
fits_or_not graph v among =
    let task = listed_task graph.tasks v in
    elim (cases_lt (sum_by (size_into v) graph.arcs) task.share) [
      | inl gt ↦ inr (λ fits. absurd (omega (arith, gt, fits.0)))
      | inr below ↦ elim (cases_lt (task.extra + sum_by (size_out_of v) graph.arcs) task.share) [
        | inl gt ↦ inr (λ fits. absurd (omega (arith, gt, fits.1)))
        | inr own ↦ inl (below, own)
      ]
    ]

-- ---- a file is read or refused

pub read_or_refused : SomeOutcome GraphKind → (bytes : List ℕ)
    → ((graph : TaskGraph) × ReadsGraph bytes graph) ⊎ ((refusal : Refusal GraphKind) × RefusesGraph bytes refusal)
read_or_refused outcome bytes =
    let rows = rows_of_bytes Commented bytes in
    let graph = stated_by bytes in
    let n = length graph.tasks in
    elim (outcome graph_format rows (past_of_bytes bytes)) [
      | inr refused ↦ inr (refused.0, inl refused.1)
      | inl form ↦ elim (few_or_not graph) [
        | inr many ↦ inr (refusals.Limit limits.Arcs, inr (inl (record { form = form; many = many; refusal_is = refl })))
        | inl few ↦
            elim (first_without n (CanBeOrdered graph.arcs)
            (ordered_or_not n graph.arcs (well_formed_within rows (past_of_bytes bytes) form).arcs)) [
              | inr first ↦ inr (
                fault_at (line_stating rows first.0) kinds.Cycle,
                inr (inr (inl (record { form = form; few = few; task = first.0; first = first.1; refusal_is = refl }))),
              )
              | inl ordered ↦ elim (first_without n (TaskShareFits graph.tasks graph.arcs) (fits_or_not graph)) [
                | inr first ↦ inr (
                  fault_at (line_stating rows first.0) kinds.Share,
                  inr (inr
                      (inr (record { form = form; few = few; ordered = ordered; task = first.0; first = first.1; refusal_is = refl }))),
                )
                | inl shares ↦ inl (graph, record { form = form; stated = refl; few = few; ordered = ordered; shares = shares })
              ]
            ]
      ]
    ]

-- what a reading says of the stated graph
module _ (bytes : List ℕ) (graph : TaskGraph) (reads : ReadsGraph bytes graph) where
  few_stated : HasFewArcs (stated_by bytes)
  few_stated = subst HasFewArcs reads.stated reads.few

  ordered_stated : IsOrdered (stated_by bytes)
  ordered_stated = subst IsOrdered reads.stated reads.ordered

  shares_stated : (v : ℕ) → IsAmong (length (stated_by bytes).tasks) v → TaskShareFits (stated_by bytes).tasks (stated_by bytes).arcs v
  shares_stated = subst (λ (g : TaskGraph). (v : ℕ) → IsAmong (length g.tasks) v → TaskShareFits g.tasks g.arcs v) reads.stated reads.shares

pub not_both : NotBoth GraphKind → (bytes : List ℕ) (graph : TaskGraph) (refusal : Refusal GraphKind)
    → ReadsGraph bytes graph → RefusesGraph bytes refusal → ⊥
not_both apart bytes graph refusal reads (inl refused) =
    apart graph_format (rows_of_bytes Commented bytes) (past_of_bytes bytes) refusal reads.form refused
not_both apart bytes graph refusal reads (inr (inl arcs)) = arcs.many (few_stated bytes graph reads)
not_both apart bytes graph refusal reads (inr (inr (inl cycle))) =
    cycle.first.fails (ordered_stated bytes graph reads cycle.task cycle.first.is_place)
not_both apart bytes graph refusal reads (inr (inr (inr share))) =
    share.first.fails (shares_stated bytes graph reads share.task share.first.is_place)

one_cycle : (bytes : List ℕ) (one two : Refusal GraphKind) → RefusesCycle bytes one → RefusesCycle bytes two → one ≡ two
one_cycle bytes one two this that =
    let same = one_first_without _ _ this.task that.task this.first that.first in
    this.refusal_is ∙ ap (λ (v : ℕ). fault_at (line_stating (rows_of_bytes Commented bytes) v) kinds.Cycle) same ∙ sym that.refusal_is

one_share : (bytes : List ℕ) (one two : Refusal GraphKind) → RefusesShare bytes one → RefusesShare bytes two → one ≡ two
one_share bytes one two this that =
    let same = one_first_without _ _ this.task that.task this.first that.first in
    this.refusal_is ∙ ap (λ (v : ℕ). fault_at (line_stating (rows_of_bytes Commented bytes) v) kinds.Share) same ∙ sym that.refusal_is

pub one_refusal : NotBoth GraphKind → OneRefusal GraphKind → (bytes : List ℕ) (one two : Refusal GraphKind)
    → RefusesGraph bytes one → RefusesGraph bytes two → one ≡ two
one_refusal apart only bytes one two (inl this) (inl that) =
    only graph_format (rows_of_bytes Commented bytes) (past_of_bytes bytes) one two this that
one_refusal apart only bytes one two (inl this) (inr (inl that)) = absurd (apart _ _ _ one that.form this)
one_refusal apart only bytes one two (inl this) (inr (inr (inl that))) = absurd (apart _ _ _ one that.form this)
one_refusal apart only bytes one two (inl this) (inr (inr (inr that))) = absurd (apart _ _ _ one that.form this)
one_refusal apart only bytes one two (inr (inl this)) (inl that) = absurd (apart _ _ _ two this.form that)
one_refusal apart only bytes one two (inr (inl this)) (inr (inl that)) = this.refusal_is ∙ sym that.refusal_is
one_refusal apart only bytes one two (inr (inl this)) (inr (inr (inl that))) = absurd (this.many that.few)
one_refusal apart only bytes one two (inr (inl this)) (inr (inr (inr that))) = absurd (this.many that.few)
one_refusal apart only bytes one two (inr (inr (inl this))) (inl that) = absurd (apart _ _ _ two this.form that)
one_refusal apart only bytes one two (inr (inr (inl this))) (inr (inl that)) = absurd (that.many this.few)
one_refusal apart only bytes one two (inr (inr (inl this))) (inr (inr (inl that))) = one_cycle bytes one two this that
one_refusal apart only bytes one two (inr (inr (inl this))) (inr (inr (inr that))) =
    absurd (this.first.fails (that.ordered this.task this.first.is_place))
one_refusal apart only bytes one two (inr (inr (inr this))) (inl that) = absurd (apart _ _ _ two this.form that)
one_refusal apart only bytes one two (inr (inr (inr this))) (inr (inl that)) = absurd (that.many this.few)
one_refusal apart only bytes one two (inr (inr (inr this))) (inr (inr (inl that))) =
    absurd (that.first.fails (this.ordered that.task that.first.is_place))
one_refusal apart only bytes one two (inr (inr (inr this))) (inr (inr (inr that))) = one_share bytes one two this that

pub reads-is_graph : (bytes : List ℕ) (graph : TaskGraph) → ReadsGraph bytes graph → IsGraph graph
reads-is_graph bytes graph reads =
    let within = subst IsPlain (sym reads.stated) (well_formed_within (rows_of_bytes Commented bytes) (past_of_bytes bytes) reads.form) in
    record {
      few_tasks = within.few_tasks;
      few_arcs = reads.few;
      tasks = within.tasks;
      arcs = within.arcs;
      total = within.total;
      ordered = reads.ordered;
      shares = reads.shares;
    }
