use Rattle.std.proofs.Common.{◌≡◌, ◌+◌, ◌-◌, ℕ, Bool, length}
use Rattle.std.specs.List.{sum_by}
use Rattle.min_tree.specs.Least.{greatest}
use Rattle.elimination.specs.Tables.{tables, AllHaveLength}
use Rattle.elimination.specs.Turns.{IsSearch}
use Rattle.elimination.proofs.search.Search.choose.Given as goal

abbrev pub invariant-search : goal.invariant-search
invariant-search l = record {
  lengths : AllHaveLength (length l.pattern + 1) l.self;
  turns : l.self.turns ≡ l.fn.self.turns;
  stands : (left : ℕ → ℕ → Bool) → IsSearch l.pattern left (tables l.fn.self) → IsSearch l.pattern left (tables l.self);
}

abbrev pub decreases-search : goal.decreases-search
decreases-search l = sum_by (λ x. greatest - x) l.self.bounds
