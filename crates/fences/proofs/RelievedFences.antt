-- What is said of fences and amounts depends on the items, and on how many tasks there are: it is said of the relieved system too, but for
-- the bound.
use Rattle.std.proofs.Common.{ℕ, List, length, sym, subst, arith}
use Rattle.lists.specs.Numbers.{IsFirstWithout}
use Rattle.mp_system.specs.System.{TaskSystem}
use Rattle.graphs.specs.Graph.{CanBeOrdered}
use Rattle.fences.specs.declared.fenced.Fence.{Fence}
use Rattle.fences.specs.declared.fenced.FenceTest.{FenceTest}
use Rattle.fences.specs.declared.fenced.FenceTest.TheVariants as tests
use Rattle.fences.specs.declared.fenced.FencesRefusal.{FencesRefusal}
use Rattle.fences.specs.declared.fenced.FencesRefusal.TheVariants as refusals
use Rattle.fences.specs.declared.judged.AmountTest.{AmountTest}
use Rattle.fences.specs.declared.judged.AmountTest.TheVariants as amount_tests
use Rattle.fences.specs.declared.judged.AmountsRefusal.{AmountsRefusal}
use Rattle.fences.specs.declared.judged.AmountsRefusal.TheVariants as amounts_refusals
use Rattle.fences.specs.Judged.{AmountFits, AmountPasses, AreAccepted, IsAmountsRefusal}
use Rattle.fences.specs.Orders.{HasNoTraversal, arcs_of}
use Rattle.fences.specs.JudgedFences.{AreFences, FenceFits, FencePasses, IsFencesRefusal, LeaveOrder, PassesBefore, with_fences}
use Rattle.fences.specs.Workers.{relieved}
use Rattle.fences.proofs.Relieving.{task_back, task_kept, tasks_long, traversal_back, traversal_kept}

first_kept : (count : ℕ) (fact other : ℕ → Type 0) → ((place : ℕ) → fact place → other place) → ((place : ℕ) → other place → fact place)
    → (place : ℕ) → IsFirstWithout count fact place → IsFirstWithout count other place
first_kept count fact other kept back place first = record {
  is_place = first.is_place;
  fails = λ h. first.fails (back place h);
  before = λ earlier low high. kept earlier (first.before earlier low high);
}

-- ---- amounts

module _ (system : TaskSystem) (room : ℕ) (amounts : List ℕ) where
  amount_kept : (test : AmountTest) (place : ℕ) → AmountPasses system amounts test place → AmountPasses (relieved room system) amounts test place
  amount_kept amount_tests.Size place passes = passes
  amount_kept amount_tests.Limit place passes = passes

  amount_back : (test : AmountTest) (place : ℕ) → AmountPasses (relieved room system) amounts test place → AmountPasses system amounts test place
  amount_back amount_tests.Size place passes = passes
  amount_back amount_tests.Limit place passes = passes

  fits_kept : (place : ℕ) → AmountFits system amounts place → AmountFits (relieved room system) amounts place
  fits_kept place fits test = amount_kept test place (fits test)

  fits_back : (place : ℕ) → AmountFits (relieved room system) amounts place → AmountFits system amounts place
  fits_back place fits test = amount_back test place (fits test)

  pub accepted_kept : AreAccepted system amounts → AreAccepted (relieved room system) amounts
  accepted_kept are = record { long = are.long; fit = λ place is_place. fits_kept place (are.fit place is_place); total = are.total }

  pub amounts_kept : (refusal : AmountsRefusal) → IsAmountsRefusal system amounts refusal → IsAmountsRefusal (relieved room system) amounts refusal
  amounts_kept amounts_refusals.Length h = h
  amounts_kept (amounts_refusals.Item test place) h =
      (h.0, first_kept (length system.items) (AmountFits system amounts) (AmountFits (relieved room system) amounts) fits_kept fits_back place h.1, λ passes. h.2 (amount_back test place passes))
  amounts_kept amounts_refusals.Total h = (h.0, λ place is_place. fits_kept place (h.1 place is_place), h.2)
  amounts_kept amounts_refusals.NoMemory h = tt

-- ---- orders

module _ (system : TaskSystem) (room : ℕ) where
  none_kept : HasNoTraversal system → HasNoTraversal (relieved room system)
  none_kept none order is = none order (traversal_back system room order is)

-- ---- fences

module _ (system : TaskSystem) (room : ℕ) (fences : List Fence) where
  passes_kept : (test : FenceTest) (place : ℕ) → FencePasses system fences test place → FencePasses (relieved room system) fences test place
  passes_kept tests.Tasks place passes = (task_kept system room _ passes.0, task_kept system room _ passes.1)
  passes_kept tests.Apart place passes = passes

  passes_back : (test : FenceTest) (place : ℕ) → FencePasses (relieved room system) fences test place → FencePasses system fences test place
  passes_back tests.Tasks place passes = (task_back system room _ passes.0, task_back system room _ passes.1)
  passes_back tests.Apart place passes = passes

  before_kept : (test : FenceTest) (place : ℕ) → PassesBefore system fences test place → PassesBefore (relieved room system) fences test place
  before_kept tests.Tasks place passes = tt
  before_kept tests.Apart place passes = passes_kept tests.Tasks place passes

  fence_kept : (place : ℕ) → FenceFits system fences place → FenceFits (relieved room system) fences place
  fence_kept place fits test = passes_kept test place (fits test)

  fence_back : (place : ℕ) → FenceFits (relieved room system) fences place → FenceFits system fences place
  fence_back place fits test = passes_back test place (fits test)

  fences_kept : AreFences system fences → AreFences (relieved room system) fences
  fences_kept are = record { few = are.few; fit = λ place is_place. fence_kept place (are.fit place is_place) }

  pub leave_kept : LeaveOrder system fences → LeaveOrder (relieved room system) fences
  leave_kept leave = record {
    are_fences = fences_kept leave.are_fences;
    order = leave.order;
    traversal = traversal_kept (with_fences system fences) room leave.order leave.traversal;
  }

  -- a refusal that does not hang on the bound
  pub refusal_kept : (refusal : FencesRefusal) → ((amounts : List ℕ) (bound : ℕ) → IsFencesRefusal system fences amounts bound refusal)
      → (amounts : List ℕ) (bound : ℕ) → IsFencesRefusal (relieved room system) fences amounts bound refusal
  refusal_kept refusals.ManyFences said amounts bound = said amounts bound
  refusal_kept (refusals.Fence test place) said amounts bound =
      let h = said amounts bound in (
        h.0,
        first_kept (length fences) (FenceFits system fences) (FenceFits (relieved room system) fences) fence_kept fence_back place h.1,
        before_kept test place h.2,
        λ passes. h.3 (passes_back test place passes),
      )
  refusal_kept (refusals.OwnInput place) said amounts bound =
      let h = said amounts bound in (fences_kept h.0, (h.1.0, none_kept (with_fences system fences) room h.1.1))
  refusal_kept (refusals.Cycle v) said amounts bound =
      let h = said amounts bound in
      let can = CanBeOrdered (arcs_of (with_fences system fences).items) in (
        fences_kept h.0,
        (h.1.0, subst (λ (n : ℕ). IsFirstWithout n can v) (sym (tasks_long system room)) h.1.1, none_kept (with_fences system fences) room h.1.2),
      )
  refusal_kept refusals.Length said amounts bound =
      let h = said amounts bound in (leave_kept h.0, amounts_kept (with_fences system fences) room amounts amounts_refusals.Length h.1)
  refusal_kept (refusals.Item test place) said amounts bound =
      let h = said amounts bound in (leave_kept h.0, amounts_kept (with_fences system fences) room amounts (amounts_refusals.Item test place) h.1)
  refusal_kept refusals.Total said amounts bound =
      let h = said amounts bound in (leave_kept h.0, amounts_kept (with_fences system fences) room amounts amounts_refusals.Total h.1)
  refusal_kept (refusals.Bound certified) said amounts bound = absurd (let h = said amounts certified in omega (arith, h.3))
  refusal_kept refusals.NoMemory said amounts bound = tt
