-- No public clause names this.
-- How the rows of a front are gathered.
use Rattle.std.specs.Prelude.{◌≡◌, ◌==◌, ℕ, Bool, ◌&&◌, ◌||◌, nat_lt, List}
use Rattle.std.specs.List.{list_any}
use Rattle.patterns.specs.Pattern.{has}
use Rattle.permutations.specs.Perm.{place_of}

-- the new list has what the old one has and what passes the test
abbrev pub Adds : (ℕ → Bool) → List ℕ → List ℕ → Type 0
Adds test old new = (x : ℕ) → has new x ≡ (has old x || test x)

-- whether one of the lists has the number
abbrev pub in_lists : List (List ℕ) → ℕ → Bool
in_lists lists x = list_any (λ list. has list x) lists

-- whether vertex v is eliminated after column j, as column x
abbrev pub is_later : List ℕ → ℕ → ℕ → ℕ → Bool
is_later order j x v = nat_lt j (place_of order v) && (place_of order v == x)

-- what is gathered for column j: itself, its later neighbours, and what the lists have
abbrev pub is_gathered : List ℕ → List ℕ → List (List ℕ) → ℕ → ℕ → Bool
is_gathered order neighbours lists j x = ((j == x) || list_any (is_later order j x) neighbours) || in_lists lists x
