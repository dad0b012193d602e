-- The rules by which a claim on a term follows from claims on its parts. They are all there are, and they speak of numbers alone.
use Rattle.std.specs.Prelude.{◌≡◌, ℕ, ℤ, pos, ◌≤ℤ◌, ◌<ℤ◌, ◌-ℤ◌, ◌+◌, ◌-◌, ◌≤◌, Bool, true, false, if◌then◌else◌, List, [], ◌∷◌, Option}
use Rattle.std.specs.Prelude.{Some, None}
use Rattle.mp_system.specs.declared.system.Task.{Task}
use Rattle.sp_terms.specs.Places.{list_of_parts}
use Rattle.sp_terms.specs.Term.{Term, hold, series, par, Direction, forward, backward, least_of, hill_of}
use Rattle.sp_term_laws.specs.Moves.{other}
use Rattle.claim_rules.specs.Claims.{Claim}

-- there is a claim in this direction, with this bound and at least this rest
abbrev pub Has : Direction → ℤ → ℕ → Option Claim → Type 0
Has direction bound rest claim = (c : Claim) × (claim ≡ Some c) × (c.direction ≡ direction) × (c.bound ≡ bound) × (rest ≤ c.rest)

-- ---- a data item: the bound is below its size, and the rest is at most that

abbrev pub MeetsData : ℕ → Claim → Type 0
MeetsData size c = (c.bound <ℤ pos size) × (c.rest ≤ size)

-- ---- a series, whose parts are passed one after the other in the claim's direction

-- of two, the one that is passed first in a direction, and the one that is passed last
abbrev pub passed_first : {A : Type 0} → Direction → A → A → A
passed_first forward a b = a
passed_first backward a b = b

abbrev pub passed_last : {A : Type 0} → Direction → A → A → A
passed_last forward a b = b
passed_last backward a b = a

-- the series of a, v and b, with the claims p of a and q of b
pub data MeetsSeries (a : Term) (v : Task) (b : Term) (p q : Option Claim) (c : Claim) : Type 0 where
  -- the first part is stuck above the rest
  first_is_stuck : Has c.direction c.bound c.rest (passed_first c.direction p q) → MeetsSeries a v b p q c
  -- the first part cannot be passed at all
  first_is_closed : Has (other c.direction) c.bound 0 (passed_first c.direction p q)
      → c.rest ≤ least_of (passed_first c.direction a b) → MeetsSeries a v b p q c
  -- the task itself needs more
  hill_is_above : c.bound <ℤ pos (hill_of a v b)
      → c.rest ≤ least_of (passed_first c.direction a b) → MeetsSeries a v b p q c
  -- the second part is stuck, and the first part and it both stay above the rest
  last_is_stuck : Has c.direction c.bound c.rest (passed_last c.direction p q)
      → c.rest ≤ least_of (passed_first c.direction a b) → MeetsSeries a v b p q c

-- ---- parts side by side

abbrev pub is_same : Direction → Direction → Bool
is_same forward forward = true
is_same forward backward = false
is_same backward forward = false
is_same backward backward = true

-- The value of a part in a direction: the rest of its claim where that has the same direction, else its least memory. No way within the
-- bounds of the claims takes the part below it.
abbrev pub value_in : Direction → Term → Option Claim → ℕ
value_in direction t None = least_of t
value_in direction t (Some c) = if is_same direction c.direction then c.rest else least_of t

abbrev pub values_in : Direction → List Term → List (Option Claim) → ℕ
values_in direction [] cs = 0
values_in direction (t ∷ ts) [] = 0
values_in direction (t ∷ ts) (c ∷ cs) = value_in direction t c + values_in direction ts cs

-- a part that has a claim: its bound is at least the whole's without the values of all other parts
abbrev pub HasRoom : ℤ → ℕ → Option Claim → Type 0
HasRoom bound others None = Unit {0}
HasRoom bound others (Some c) = (bound -ℤ pos others) ≤ℤ c.bound

abbrev pub HaveRoom : Direction → ℤ → ℕ → List Term → List (Option Claim) → Type 0
HaveRoom direction bound total [] cs = Unit {0}
HaveRoom direction bound total (t ∷ ts) [] = Unit {0}
HaveRoom direction bound total (t ∷ ts) (c ∷ cs) = HasRoom bound (total - value_in direction t c) c × HaveRoom direction bound total ts cs

-- at least one of them is there
abbrev pub SomeClaim : List (Option Claim) → Type 0
SomeClaim [] = ⊥
SomeClaim (None ∷ cs) = SomeClaim cs
SomeClaim (Some c ∷ cs) = Unit {0}

pub record MeetsPar (ts : List Term) (cs : List (Option Claim)) (c : Claim) : Type 0 where
  pub some : SomeClaim cs
  pub room : HaveRoom c.direction c.bound (values_in c.direction ts cs) ts cs
  pub rest : c.rest ≤ values_in c.direction ts cs

-- ---- all rules

-- the claim on a term follows from those of its parts, one for each part, where it has one
abbrev pub MeetsRule : Term → List (Option Claim) → Claim → Type 0
MeetsRule (hold size) cs c = MeetsData size c
MeetsRule (series a v b) [] c = ⊥
MeetsRule (series a v b) (p ∷ []) c = ⊥
MeetsRule (series a v b) (p ∷ q ∷ []) c = MeetsSeries a v b p q c
MeetsRule (series a v b) (p ∷ q ∷ r ∷ cs) c = ⊥
MeetsRule (par ts) cs c = MeetsPar (list_of_parts ts) cs c
