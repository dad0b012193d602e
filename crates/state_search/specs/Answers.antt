-- What is said of each answer.
use Rattle.std.specs.Prelude.{ℕ, List}
use Rattle.state_search.specs.declared.explored.Explored.{Explored}
use Rattle.state_search.specs.declared.explored.Explored.TheVariants.{Order, Closed, Many}

-- the fact of the order, where one is answered
abbrev pub IfOrder : (List ℕ → Type 0) → Explored → Type 0
IfOrder fact (Order order) = fact order.items
IfOrder fact (Closed seen) = Unit {0}
IfOrder fact Many = Unit {0}

-- the fact of the number of states, where the answer is `Closed`
abbrev pub IfClosed : (ℕ → Type 0) → Explored → Type 0
IfClosed fact (Order order) = Unit {0}
IfClosed fact (Closed seen) = fact seen
IfClosed fact Many = Unit {0}

-- the fact, where the answer is `Many`
abbrev pub IfMany : Type 0 → Explored → Type 0
IfMany fact (Order order) = Unit {0}
IfMany fact (Closed seen) = Unit {0}
IfMany fact Many = fact
