-- No public clause names this.
-- Worked examples: two chains of two nodes each below a root, as a term.
use Rattle.std.specs.Prelude.{◌≡◌, ℕ, pos, List, [], ◌∷◌, ◌++◌, map, refl, Some}
use Rattle.mp_system.specs.declared.system.Task.{Task}
use Rattle.sp_terms.specs.declared.position.Position.{Position}
use Rattle.sp_terms.specs.declared.position.Position.TheVariants.{Hold, Par}
use Rattle.sp_terms.specs.declared.position.Position.TheVariants as at
use Rattle.sp_terms.specs.Places.{term_of_position, parts_of, part_positions}
use Rattle.sp_terms.specs.Term.{hold, series, backward, forward, hill_of}
use Rattle.claim_rules.specs.Claims.{Claim}
use Rattle.claim_rules.specs.Rules.{values_in}

abbrev pub task_position : ℕ → Position
task_position extra = at.Task extra 0 1

abbrev pub task : ℕ → Task
task extra = record { extra = extra; share = 0; time = 1 }

abbrev pub chain : List Position
chain = Hold 0 ∷ Hold 1 ∷ task_position 9 ∷ Hold 5 ∷ task_position 0 ∷ []

abbrev pub tree : List Position
tree = chain ++ (chain ++ Par 2 ∷ Hold 0 ∷ task_position 0 ∷ [])

-- the parts of a task stand before it, the second just before; those of a `par` likewise
pub parts_of_positions :
    map (λ k. part_positions k (term_of_position tree k)) (3 ∷ 5 ∷ 11 ∷ 13 ∷ [])
    ≡ (1 ∷ 2 ∷ []) ∷ (3 ∷ 4 ∷ []) ∷ (5 ∷ 10 ∷ []) ∷ (11 ∷ 12 ∷ []) ∷ []
parts_of_positions = refl

-- the first chain ends with 5, and its second task needs 1 + 0 + 5: no way back within 5 passes it
abbrev pub stuck : Claim
stuck = record { direction = backward; bound = pos 5; rest = 5 }

pub hill_of_the_chain : hill_of (series (hold 0) (task 9) (hold 1)) (task 0) (hold 5) ≡ 6
hill_of_the_chain = refl

-- both chains have that claim; its value on the way back is its rest, and on the way forward the least memory of a chain
pub values_of_the_chains :
    map (λ direction. values_in direction (parts_of (term_of_position tree 11)) (Some stuck ∷ Some stuck ∷ [])) (backward ∷ forward ∷ [])
    ≡ 10 ∷ 0 ∷ []
values_of_the_chains = refl
