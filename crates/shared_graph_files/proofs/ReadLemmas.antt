-- Why a file of version 2 whose lines pass is refused for a share.
use Rattle.std.proofs.Common.{◌≡◌, ℕ, List, length, inr, refl, sym, subst}
use Rattle.lists.specs.Numbers.{IsFirstWithout}
use Rattle.mp_text.specs.declared.layout.Layout.TheVariants.{Commented}
use Rattle.mp_text.specs.declared.refusals.Refusal.{Refusal}
use Rattle.mp_text.specs.Ahead.{rows_of_bytes}
use Rattle.mp_text.specs.Grammar.{fault_at}
use Rattle.file_frame.specs.Frame.{line_stating}
use Rattle.shared_systems.specs.declared.judged.SharedFault.TheVariants as faults
use Rattle.shared_systems.specs.Shared.{SharedTaskSystem, HasOwnShare}
use Rattle.shared_systems.specs.Judged.{IsOrderedShared, IsSharedFault}
use Rattle.graph_files.specs.declared.kind.GraphKind.{GraphKind}
use Rattle.graph_files.specs.declared.kind.GraphKind.TheVariants as kinds
use Rattle.shared_graph_files.specs.SharedGraphFile.{IsItemsRefusal}
use Rattle.shared_graph_files.specs.Stated.{IsStated}

module _ (bytes : List ℕ) (system : SharedTaskSystem) (stated : IsStated bytes system) where
  pub refuses-share : (task : ℕ) (refusal : Refusal GraphKind)
      → refusal ≡ fault_at (line_stating (rows_of_bytes Commented bytes) task) kinds.Share
      → IsSharedFault system (faults.Share task) → IsItemsRefusal bytes refusal
  refuses-share task refusal e fault =
      subst (IsItemsRefusal bytes) (sym e) (inr (inr (record {
        form = stated.form;
        ordered = subst IsOrderedShared stated.system_is fault.0;
        task = task;
        first = subst (λ (s : SharedTaskSystem). IsFirstWithout (length s.tasks) (HasOwnShare s) task) stated.system_is fault.1;
        refusal_is = refl;
      })))
