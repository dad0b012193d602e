use Rattle.std.proofs.Common.{◌≡◌, ◌+◌, List, [], ℕ, length, ap, sym, subst, refl, ◌∙◌}
use Rattle.std.specs.Prelude.{ℤ}
use Rattle.shared_systems.specs.Shared.{SharedTaskSystem, SharedItem}
use Rattle.peak_bounds.specs.declared.evidence.Amount.{Amount}
use Rattle.peak_bounds.specs.declared.step.Event.{Event}
use Rattle.peak_bounds.specs.declared.use_table.UseTable.{UseTable}
use Rattle.peak_bounds.specs.EventSets.{EventSetValue}
use Rattle.peak_bounds.specs.Moments.{uses_of}
use Rattle.peak_bounds.specs.Judging.{AreUses}
use Rattle.peak_bounds.specs.Fitting.{IsFitting}
use Rattle.peak_bounds.specs.Evidence.{use_count, set_tasks, lowered_by}
use Rattle.peak_bounds.specs.Judged.{AreSetMarks}
use Rattle.peak_bounds.proofs.Verdicts.{tasks_same, count_is, lowered-len}
use Rattle.peak_bounds.proofs.blockers.common_of.Goals as goal
use Rattle.peak_bounds.proofs.blockers.common_of.Goals.{After-deref}

sizes_are : (system : SharedTaskSystem) (set : EventSetValue) (uses : UseTable) → AreUses system uses → (count : ℕ) → count ≡ length uses.makers.items
    → (base : List Amount) → base ≡ set.base → (sizes : List ℤ) → sizes ≡ lowered_by count base [] → sizes ≡ lowered_by (use_count system) set.base []
sizes_are system set uses are count count_len base base_is sizes is =
    is ∙ ap (λ (n : ℕ). lowered_by n base []) (count_is system uses count are count_len)
    ∙ ap (λ (l : List Amount). lowered_by (use_count system) l []) base_is

listed : (c : After-deref) → c.deref.result.now ≡ set_tasks c.args.set.now
listed c = c.deref.ensures.value ∙ c.in_ok-tasks.ensures c.args.set.now (sym c.blockers.ensures)

pub set_marks-requires-clause-tasks : goal.set_marks-requires-clause-tasks
set_marks-requires-clause-tasks c =
    tasks_same c.args.system.now c.args.set.now c.args.bound c.deref.result.now (listed (goal.at.set_marks-requires-clause-tasks c).After-deref) c.requires.formed

pub fitting_of-requires-clause-len : goal.fitting_of-requires-clause-len
fitting_of-requires-clause-len c =
    let system = c.args.system.now in
    ap (λ (l : List ℤ). length l) c.deref-2.ensures.value ∙ long
    ∙ ap (λ (l : List SharedItem). length (uses_of l)) (sym c.items.ensures.value)
  where
    long : length c.in_ok-sizes.field-0.sizes.items ≡ use_count c.args.system.now
    long =
        lowered-len (use_count c.args.system.now) c.args.set.now.base [] c.in_ok-sizes.field-0.sizes.items
        (sizes_are c.args.system.now c.args.set.now c.args.uses c.requires.uses (length c.args.uses.makers.items) refl c.base.result.now c.base.ensures c.in_ok-sizes.field-0.sizes.items c.in_ok-sizes.ensures.sizes)

pub returns : goal.returns
returns c =
    let system = c.args.system.now in
    let set = c.args.set.now in
    record {
      uses = c.requires.uses;
      sizes =
          sizes_are system set c.args.uses c.requires.uses (length c.args.uses.makers.items) refl c.base.result.now c.base.ensures
          c.in_ok-sizes.field-0.sizes.items c.in_ok-sizes.ensures.sizes;
      spare_len = c.in_ok-sizes.ensures.len ∙ ap (λ (n : ℕ). n + 1) (ap length c.tasks.ensures.value);
      spare = c.in_ok-sizes.ensures.spare;
      fitting =
          subst (λ (l : List ℤ). IsFitting system.items l c.in_ok-fitting.fitting) c.deref-2.ensures.value
          (subst (λ (xs : List SharedItem). IsFitting xs c.deref-2.result.now c.in_ok-fitting.fitting) c.items.ensures.value c.in_ok-fitting.ensures);
      marks =
          subst (λ (e : Event). AreSetMarks system e (set_tasks set) c.in_ok-marks.marks) c.event.ensures
          (subst (λ (l : List ℕ). AreSetMarks system c.event.result l c.in_ok-marks.marks) (listed (goal.at.returns c).After-deref) c.in_ok-marks.ensures);
      needs_len = c.in_ok-needs.ensures.len;
      needs = c.in_ok-needs.ensures.needs;
    }
