-- Of a graph file of version 2: it is read or refused, never both, as one system or with one refusal.
use Rattle.std.proofs.Common.{◌≡◌, ℕ, ◌+◌, List, ◌⊎◌, inl, inr, length, refl, sym, ap, subst, ◌∙◌, arith}
use Rattle.std.proofs.lemmas.Bool.{cases_lt}
use Rattle.lists.specs.Numbers.{Each}
use Rattle.lists.proofs.Places.{IsEither, first_without, one_first_without}
use Rattle.mp_text.specs.declared.layout.Layout.TheVariants.{Commented}
use Rattle.mp_text.specs.declared.refusals.Refusal.{Refusal}
use Rattle.mp_text.specs.Ahead.{rows_of_bytes, past_of_bytes}
use Rattle.mp_text.specs.Grammar.{fault_at}
use Rattle.file_frame.specs.Frame.{line_stating}
use Rattle.file_frame.proofs.TestLemmas.{SomeOutcome, NotBoth, OneRefusal}
use Rattle.graphs.specs.Graph.{CanBeOrdered}
use Rattle.graphs.proofs.OrderLemmas.{ordered_or_not}
use Rattle.shared_systems.specs.Shared.{SharedTaskSystem, HasOwnShare, shared_task_at, own_inputs_of, shared_outputs_of}
use Rattle.shared_systems.specs.Bounds.{IsSharedSystem, use_arcs}
use Rattle.shared_systems.specs.Judged.{IsPlainShared, IsOrderedShared}
use Rattle.shared_systems.proofs.UseArcs.{arcs_within}
use Rattle.graph_files.specs.declared.kind.GraphKind.{GraphKind}
use Rattle.graph_files.specs.declared.kind.GraphKind.TheVariants as kinds
use Rattle.shared_graph_files.specs.SharedGraphFile.{second_format, system_stated_by, ReadsItems, RefusesItems, RefusesItemCycle}
use Rattle.shared_graph_files.specs.SharedGraphFile.{RefusesItemShare}
use Rattle.shared_graph_files.proofs.FormLemmas.{well_formed_within}

-- ---- facts that hold or not

fits_or_not : (system : SharedTaskSystem) → IsEither (length system.tasks) (HasOwnShare system)
fits_or_not system v among =
    let task = shared_task_at system v in
    elim (cases_lt (own_inputs_of system v) task.share) [
      | inl gt ↦ inr (λ fits. absurd (omega (arith, gt, fits.0)))
      | inr below ↦ elim (cases_lt (task.extra + shared_outputs_of system v) task.share) [
        | inl gt ↦ inr (λ fits. absurd (omega (arith, gt, fits.1)))
        | inr own ↦ inl (below, own)
      ]
    ]

-- ---- a file is read or refused

pub read_or_refused : SomeOutcome GraphKind → (bytes : List ℕ)
    → ((system : SharedTaskSystem) × ReadsItems bytes system) ⊎ ((refusal : Refusal GraphKind) × RefusesItems bytes refusal)
read_or_refused outcome bytes =
    let rows = rows_of_bytes Commented bytes in
    let system = system_stated_by bytes in
    let n = length system.tasks in
    elim (outcome second_format rows (past_of_bytes bytes)) [
      | inr refused ↦ inr (refused.0, inl refused.1)
      | inl form ↦
          elim (first_without n (CanBeOrdered (use_arcs system.items))
          (ordered_or_not n (use_arcs system.items) (arcs_within n system.items (well_formed_within rows (past_of_bytes bytes) form).items))) [
            | inr first ↦ inr (
              fault_at (line_stating rows first.0) kinds.Cycle,
              inr (inl (record { form = form; task = first.0; first = first.1; refusal_is = refl })),
            )
            | inl ordered ↦ elim (first_without n (HasOwnShare system) (fits_or_not system)) [
              | inr first ↦ inr (
                fault_at (line_stating rows first.0) kinds.Share,
                inr (inr (record { form = form; ordered = ordered; task = first.0; first = first.1; refusal_is = refl })),
              )
              | inl shares ↦ inl (system, record { form = form; stated = refl; ordered = ordered; shares = shares })
            ]
          ]
    ]

-- what a reading says of the stated system
module _ (bytes : List ℕ) (system : SharedTaskSystem) (reads : ReadsItems bytes system) where
  ordered_stated : IsOrderedShared (system_stated_by bytes)
  ordered_stated = subst IsOrderedShared reads.stated reads.ordered

  shares_stated : Each (length (system_stated_by bytes).tasks) (HasOwnShare (system_stated_by bytes))
  shares_stated = subst (λ (s : SharedTaskSystem). Each (length s.tasks) (HasOwnShare s)) reads.stated reads.shares

  pub reads-is_system : IsSharedSystem system
  reads-is_system =
      let within = subst IsPlainShared (sym reads.stated)
      (well_formed_within (rows_of_bytes Commented bytes) (past_of_bytes bytes) reads.form) in
      record {
        few_tasks = within.few_tasks;
        few_items = within.few_items;
        few_uses = within.few_uses;
        tasks = within.tasks;
        items = within.items;
        total = within.total;
        ordered = reads.ordered;
        shares = reads.shares;
      }

pub not_both : NotBoth GraphKind → (bytes : List ℕ) (system : SharedTaskSystem) (refusal : Refusal GraphKind)
    → ReadsItems bytes system → RefusesItems bytes refusal → ⊥
not_both apart bytes system refusal reads (inl refused) =
    apart second_format (rows_of_bytes Commented bytes) (past_of_bytes bytes) refusal reads.form refused
not_both apart bytes system refusal reads (inr (inl cycle)) =
    cycle.first.fails (ordered_stated bytes system reads cycle.task cycle.first.is_place)
not_both apart bytes system refusal reads (inr (inr share)) =
    share.first.fails (shares_stated bytes system reads share.task share.first.is_place)

one_cycle : (bytes : List ℕ) (one two : Refusal GraphKind) → RefusesItemCycle bytes one → RefusesItemCycle bytes two → one ≡ two
one_cycle bytes one two this that =
    let same = one_first_without _ _ this.task that.task this.first that.first in
    this.refusal_is ∙ ap (λ (v : ℕ). fault_at (line_stating (rows_of_bytes Commented bytes) v) kinds.Cycle) same ∙ sym that.refusal_is

one_share : (bytes : List ℕ) (one two : Refusal GraphKind) → RefusesItemShare bytes one → RefusesItemShare bytes two → one ≡ two
one_share bytes one two this that =
    let same = one_first_without _ _ this.task that.task this.first that.first in
    this.refusal_is ∙ ap (λ (v : ℕ). fault_at (line_stating (rows_of_bytes Commented bytes) v) kinds.Share) same ∙ sym that.refusal_is

pub one_refusal : NotBoth GraphKind → OneRefusal GraphKind → (bytes : List ℕ) (one two : Refusal GraphKind)
    → RefusesItems bytes one → RefusesItems bytes two → one ≡ two
one_refusal apart only bytes one two (inl this) (inl that) =
    only second_format (rows_of_bytes Commented bytes) (past_of_bytes bytes) one two this that
one_refusal apart only bytes one two (inl this) (inr (inl that)) = absurd (apart _ _ _ one that.form this)
one_refusal apart only bytes one two (inl this) (inr (inr that)) = absurd (apart _ _ _ one that.form this)
one_refusal apart only bytes one two (inr (inl this)) (inl that) = absurd (apart _ _ _ two this.form that)
one_refusal apart only bytes one two (inr (inl this)) (inr (inl that)) = one_cycle bytes one two this that
one_refusal apart only bytes one two (inr (inl this)) (inr (inr that)) =
    absurd (this.first.fails (that.ordered this.task this.first.is_place))
one_refusal apart only bytes one two (inr (inr this)) (inl that) = absurd (apart _ _ _ two this.form that)
one_refusal apart only bytes one two (inr (inr this)) (inr (inl that)) =
    absurd (that.first.fails (this.ordered that.task that.first.is_place))
one_refusal apart only bytes one two (inr (inr this)) (inr (inr that)) = one_share bytes one two this that
