-- The columns of fronts, one front after another: what the call answers, and why it is refused.
use Rattle.std.specs.Prelude.{◌≡◌, ℕ, List, length}
use Rattle.equivalent_orders.specs.Arrays.{AreFrontColumns, IsFrontsRefusal, columns_along}
use Rattle.permutations.specs.Order.{order_given}
use Rattle.c_calls.specs.Fronts.{GivenMatrix}
use Rattle.c_calls.specs.declared.refusal.Refusal.{Refusal}
use Rattle.c_calls.specs.declared.refusal.Refusal.TheVariants as refusals
use Rattle.c_calls.specs.Refusals.{IsRoomRefused}

-- each column once, with its front, and each front once; and the columns of each front in the order in which they stood, front by front
pub record AreAlongFronts (base : ℕ) (columns front_of fronts new : List ℕ) : Type 0 where
  pub given : AreFrontColumns base columns front_of fronts
  pub along : new ≡ columns_along base columns front_of fronts

-- with room for so many columns
abbrev pub IsColumnsCallRefusal : ℕ → List ℕ → List ℕ → List ℕ → ℕ → Refusal → Type 0
IsColumnsCallRefusal base columns front_of fronts room (refusals.Room needed) = IsRoomRefused (length columns) room needed
IsColumnsCallRefusal base columns front_of fronts room (refusals.Fronts refusal) = IsFrontsRefusal base columns front_of fronts refusal
IsColumnsCallRefusal base columns front_of fronts room refusals.NoMemory = Unit {0}
IsColumnsCallRefusal base columns front_of fronts room other = ⊥

-- the new order of a matrix, its columns counted from 1
abbrev pub new_order : GivenMatrix → List ℕ → List ℕ → List ℕ → List ℕ
new_order m columns front_of fronts = order_given m.base (columns_along m.base columns front_of fronts)
