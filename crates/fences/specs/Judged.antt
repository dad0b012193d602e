-- What amounts are refused with, where they are not handed on: the first test that fails, with the first item that fails it.
use Rattle.std.specs.Prelude.{◌≡◌, ◌≢◌, ℕ, ◌-◌, ◌<◌, ◌≤◌, ◌^◌, None, List, length, sum, slice_index_or}
use Rattle.limits.specs.Limits.{most_total}
use Rattle.lists.specs.Numbers.{Each, IsFirstWithout}
use Rattle.mp_system.specs.declared.system.Item.{Item}
use Rattle.mp_system.specs.System.{TaskSystem}
use Rattle.fences.specs.declared.judged.AmountTest.{AmountTest}
use Rattle.fences.specs.declared.judged.AmountTest.TheVariants as tests
use Rattle.fences.specs.declared.judged.AmountsRefusal.{AmountsRefusal}
use Rattle.fences.specs.declared.judged.AmountsRefusal.TheVariants as refusals

-- one amount is at most what a system may have of sizes, and all amounts together are at most four times as much
abbrev pub most_amount : ℕ
most_amount = most_total

abbrev pub most_handed_on : ℕ
most_handed_on = 2 ^ 62

-- the item at a place, and its amount
abbrev pub item_at : TaskSystem → ℕ → Item
item_at system place = slice_index_or system.items (place - 1) (record { size = 0; from = None; to = None })

abbrev pub amount_at : List ℕ → ℕ → ℕ
amount_at amounts place = slice_index_or amounts (place - 1) 0

-- an item passes a test: its amount is at least its size, and within the limit
abbrev pub AmountPasses : TaskSystem → List ℕ → AmountTest → ℕ → Type 0
AmountPasses system amounts tests.Size place = (item_at system place).size ≤ amount_at amounts place
AmountPasses system amounts tests.Limit place = amount_at amounts place ≤ most_amount

-- it passes both
abbrev pub AmountFits : TaskSystem → List ℕ → ℕ → Type 0
AmountFits system amounts place = (test : AmountTest) → AmountPasses system amounts test place

-- an amount for each item, each of which fits, and no more than the limit in all
pub record AreAccepted (system : TaskSystem) (amounts : List ℕ) : Type 0 where
  pub long : length amounts ≡ length system.items
  pub fit : Each (length system.items) (AmountFits system amounts)
  pub total : sum amounts ≤ most_handed_on

-- the first test that fails; want of memory tells nothing
abbrev pub IsAmountsRefusal : TaskSystem → List ℕ → AmountsRefusal → Type 0
IsAmountsRefusal system amounts refusals.Length = length amounts ≢ length system.items
IsAmountsRefusal system amounts (refusals.Item test place) =
    (length amounts ≡ length system.items)
    × IsFirstWithout (length system.items) (AmountFits system amounts) place
    × (¬ AmountPasses system amounts test place)
IsAmountsRefusal system amounts refusals.Total =
    (length amounts ≡ length system.items)
    × Each (length system.items) (AmountFits system amounts)
    × (most_handed_on < sum amounts)
IsAmountsRefusal system amounts refusals.NoMemory = Unit {0}
