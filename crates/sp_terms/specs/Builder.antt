-- Which position a builder takes after others, and why it refuses one.
use Rattle.std.specs.Prelude.{◌≡◌, ℕ, ◌+◌, ◌≤◌, Bool, true, false, ◌||◌, nat_lt, nat_le, if◌then◌else◌, length, List, ◌∷◌, Option, Some}
use Rattle.std.specs.Prelude.{None}
use Rattle.std.specs.List.{sum_by}
use Rattle.sp_terms.specs.declared.position.Position.{Position}
use Rattle.sp_terms.specs.declared.position.Position.TheVariants.{Hold, Par}
use Rattle.sp_terms.specs.declared.position.Position.TheVariants as at
use Rattle.limits.specs.Limits.{most_tasks, most_positions, most_size, most_total, most_time}
use Rattle.limits.specs.declared.name.LimitName.{LimitName}
use Rattle.limits.specs.declared.name.LimitName.TheVariants.{Positions, Tasks, Size, Time, Total}
use Rattle.sp_terms.specs.declared.builder.PushRefusal.{PushRefusal}
use Rattle.sp_terms.specs.declared.builder.PushRefusal.TheVariants.{Short, Limit, Share, NoMemory}
use Rattle.sp_terms.specs.Term.{Term, initial_of, final_of}
use Rattle.sp_terms.specs.Values.{stack_of, added_tasks, added_size}

-- what the caller keeps to: a time of at least 1, and two parts or more
abbrev pub IsPosition : Position → Type 0
IsPosition (Hold size) = Unit {0}
IsPosition (at.Task extra share time) = 1 ≤ time
IsPosition (Par k) = 2 ≤ k

-- whether a stack of this height holds too few terms
abbrev pub is_short : ℕ → Position → Bool
is_short height (Hold size) = false
is_short height (at.Task extra share time) = nat_lt height 2
is_short height (Par k) = nat_lt height k

-- the limit of the sum of all extras and sizes, where it is passed
abbrev pub total_limit : ℕ → ℕ → Option LimitName
total_limit total size = if nat_lt most_total (total + size) then Some Total else None

-- the first limit that a position passes, but for the number of positions
abbrev pub own_limit : ℕ → ℕ → Position → Option LimitName
own_limit tasks total (Hold size) = if nat_lt most_size size then Some Size else total_limit total size
own_limit tasks total (at.Task extra share time) =
    if nat_le most_tasks tasks then Some Tasks
    else (if nat_lt most_size extra then Some Size
    else (if nat_lt most_time time then Some Time
    else total_limit total extra))
own_limit tasks total (Par k) = None

-- the first limit that a position passes after so many positions, tasks and sizes in all
abbrev pub passed_limit : ℕ → ℕ → ℕ → Position → Option LimitName
passed_limit count tasks total p = if nat_le most_positions count then Some Positions else own_limit tasks total p

-- the first limit that a position passes after others
abbrev pub limit_of : List Position → Position → Option LimitName
limit_of ps p = passed_limit (length ps) (sum_by added_tasks ps) (sum_by added_size ps) p

-- the share of a task is greater than what its first part leaves, or than its extra and what its second part starts with
abbrev pub is_overshared : Position → List Term → Bool
is_overshared (at.Task extra share time) (b ∷ a ∷ stack) = nat_lt (final_of a) share || nat_lt (extra + initial_of b) share
is_overshared p stack = false

-- the refusal of a share that does not fit
abbrev pub share_refusal : Bool → Option PushRefusal
share_refusal true = Some Share
share_refusal false = None

-- a limit, or else what is refused otherwise
abbrev pub limit_or : Option LimitName → Option PushRefusal → Option PushRefusal
limit_or None other = other
limit_or (Some name) other = Some (Limit name)

-- why a position is refused after these, if it is: too few terms, a limit, a share
abbrev pub refusal_of : List Position → Position → Option PushRefusal
refusal_of ps p =
    if is_short (length (stack_of ps)) p then Some Short
    else limit_or (limit_of ps p) (share_refusal (is_overshared p (stack_of ps)))

-- an answer that refuses a position; want of memory says nothing of it
abbrev pub IsPushRefusal : List Position → Position → PushRefusal → Type 0
IsPushRefusal ps p NoMemory = Unit {0}
IsPushRefusal ps p Short = refusal_of ps p ≡ Some Short
IsPushRefusal ps p (Limit name) = refusal_of ps p ≡ Some (Limit name)
IsPushRefusal ps p Share = refusal_of ps p ≡ Some Share

-- the positions leave one term
abbrev pub IsOneTerm : List Position → Type 0
IsOneTerm ps = length (stack_of ps) ≡ 1
