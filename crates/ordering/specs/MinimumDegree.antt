-- The minimum degree order: at each turn, of the vertices that are left, the one of least degree in the pattern that is left is eliminated,
-- and of several the one of least number. Degrees are exact. George and Liu, The evolution of the minimum degree ordering algorithm, 1989.
use Rattle.std.specs.Prelude.{ℕ, zero, suc, ◌<◌, ◌≤◌, nat_eq, nat_le, Bool, if◌then◌else◌, List, [], ◌∷◌, ◌++◌}
use Rattle.limits.specs.Limits.{most_mindeg}
use Rattle.elimination.specs.Elimination.{degree_of, eliminated, times, GoByLeastDegree}
use Rattle.permutations.specs.Perm.{IsPerm}
use Rattle.ordering.specs.declared.minimum_degree.MindegRefusal.{MindegRefusal}
use Rattle.ordering.specs.declared.minimum_degree.MindegRefusal.TheVariants as refusals

-- each vertex is eliminated once, and was as its turn came the first, by degree and then by number, of all that were left
pub record IsMinimumDegreeOrder (joined : ℕ → ℕ → Bool) (n : ℕ) (order : List ℕ) : Type 0 where
  pub perm : IsPerm n order
  pub least : GoByLeastDegree joined n order

-- an answer that is no order: the limit, exactly where there are too many vertices, or memory ran out
abbrev pub IsMindegRefusal : ℕ → MindegRefusal → Type 0
IsMindegRefusal n refusals.Limit = most_mindeg < n
IsMindegRefusal n refusals.NoMemory = n ≤ most_mindeg

-- ---- the same order, made the plain and slow way

-- of two vertices the one that comes first, the one with the lower number written first
abbrev pub earlier_of : (ℕ → ℕ) → ℕ → ℕ → ℕ
earlier_of degree v u = if nat_le (degree v) (degree u) then v else u

-- of the vertices up to n that are not among these, the first by degree and number; 0 where there is none
abbrev pub first_left : (ℕ → ℕ) → List ℕ → ℕ → ℕ
first_left degree gone zero = 0
first_left degree gone (suc n) =
    if nat_eq (times gone (suc n)) 0
    then (if nat_eq (first_left degree gone n) 0 then suc n else earlier_of degree (first_left degree gone n) (suc n))
    else first_left degree gone n

-- k vertices more
abbrev pub plain_more : (ℕ → ℕ → Bool) → ℕ → ℕ → List ℕ → List ℕ
plain_more joined n zero gone = gone
plain_more joined n (suc k) gone = plain_more joined n k (gone ++ first_left (degree_of (eliminated joined gone) n) gone n ∷ [])

-- the whole order
abbrev pub plain_order : (ℕ → ℕ → Bool) → ℕ → List ℕ
plain_order joined n = plain_more joined n n []
