-- The statuses of refused calls, numbered as the program's; the same stand in c/memplan.h.
use Rattle.std.specs.Prelude.{ℕ}

-- the order, the plan or a claim was judged, and refused
abbrev pub no : ℕ
no = 1

-- a number or a room does not fit what is asked for
abbrev pub usage : ℕ
usage = 2

-- the arrays are none of what they are to be
abbrev pub format : ℕ
format = 3

-- they pass a limit
abbrev pub limit : ℕ
limit = 4

-- the bound is below the peak of the order
abbrev pub bound : ℕ
bound = 5

-- memory ran out
abbrev pub no_memory : ℕ
no_memory = 8

-- a step needs more for itself than the bound
abbrev pub working_set : ℕ
working_set = 10
