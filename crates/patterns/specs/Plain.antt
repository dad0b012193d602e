-- The pattern of pairs, made the plain and slow way.
use Rattle.std.specs.Prelude.{ℕ, List, map}
use Rattle.std.specs.List.{filter, range_with_len}
use Rattle.patterns.specs.Pattern.{are_named}

-- for each vertex, all vertices that some pair names with it
abbrev pub plain_rows : ℕ → List (ℕ × ℕ) → List (List ℕ)
plain_rows order pairs = map (λ v. filter (are_named pairs v) (range_with_len 1 order)) (range_with_len 1 order)
