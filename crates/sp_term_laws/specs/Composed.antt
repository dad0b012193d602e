-- The states and running tasks of a composition, said of those of its parts.
use Rattle.std.specs.Prelude.{ℕ, suc, ◌+◌, ◌-◌, nat_lt, if◌then◌else◌, List, ◌∷◌, ◌++◌, map}
use Rattle.sp_terms.specs.SystemOfTerm.{task_count, system_of_term}
use Rattle.sp_terms.specs.Term.{Term, Parts, no_parts, part}
use Rattle.sp_term_laws.specs.Along.{memory_after, memory_while}
use Rattle.sp_term_laws.specs.Interleaved.{numbers_within}

-- the number of a series' own task
abbrev pub own_task : Term → Term → ℕ
own_task a b = suc (task_count a + task_count b)

-- the tasks of the first part, then the series' own, then tasks of the second part, numbered as in the whole
abbrev pub in_turn : Term → Term → List ℕ → List ℕ → List ℕ
in_turn a b p q = p ++ own_task a b ∷ map (λ k. task_count a + k) q

-- the tasks of a part, with the part's own numbers
abbrev pub of_part : ℕ → Term → List ℕ → List ℕ
of_part base t done = map (λ k. suc (k - base)) (numbers_within base (task_count t) done)

-- the parts' memory, together
abbrev pub parts_memory : ℕ → Parts → List ℕ → ℕ
parts_memory base no_parts done = 0
parts_memory base (part t ts) done = memory_after (system_of_term t) (of_part base t done) + parts_memory (base + task_count t) ts done

-- the same while a task of one part runs
abbrev pub parts_running : ℕ → Parts → List ℕ → ℕ → ℕ
parts_running base no_parts done v = 0
parts_running base (part t ts) done v =
    if nat_lt v (base + task_count t)
    then memory_while (system_of_term t) (of_part base t done) (suc (v - base)) + parts_memory (base + task_count t) ts done
    else memory_after (system_of_term t) (of_part base t done) + parts_running (base + task_count t) ts done v
