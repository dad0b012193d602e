-- Random workflows, position by position. Each step takes the positions before it and the generator, and gives both as they are after it.
use Rattle.std.specs.Prelude.{◌==◌, ℕ, zero, suc, ◌+◌, ◌&&◌, nat_le, if◌then◌else◌, List, [], ◌∷◌, ◌++◌, length}
use Rattle.rand_pcg.specs.Lcg.{Lcg}
use Rattle.sp_terms.specs.declared.position.Position.{Position}
use Rattle.sp_terms.specs.declared.position.Position.TheVariants.{Hold, Par}
use Rattle.sp_terms.specs.declared.position.Position.TheVariants as at
use Rattle.sp_terms.specs.Values.{stack_of}
use Rattle.mp_gen.specs.Dice.{dice_of, draw}

-- how many terms the positions leave on the stack
abbrev pub height_of : List Position → ℕ
height_of ps = length (stack_of ps)

-- a data item of 1 to 1000
unfoldable pub with_hold : List Position → Lcg → List Position × Lcg
with_hold ps dice = let (size, left) = draw 1000 dice in (ps ++ Hold (1 + size) ∷ [], left)

-- two data items; none, where at least two terms stand and the word is even
unfoldable pub with_data : List Position → Lcg → List Position × Lcg
with_data ps dice =
    let (odd, left) = draw 2 dice in
    if nat_le 2 (height_of ps) && odd == 0
    then (ps, left)
    else (let (more, after_one) = with_hold ps left in with_hold more after_one)

-- a task without a share; its extra is drawn before its time
unfoldable pub with_task : List Position → Lcg → List Position × Lcg
with_task ps dice =
    let (extra, after_extra) = draw 1000 dice in
    let (time, left) = draw 16 after_extra in
    (ps ++ at.Task extra 0 (1 + time) ∷ [], left)

-- the last two terms side by side, where at least two stand and the word is a multiple of 3
unfoldable pub with_par : List Position → Lcg → List Position × Lcg
with_par ps dice =
    let (rest, left) = draw 3 dice in
    (if nat_le 2 (height_of ps) && rest == 0 then ps ++ Par 2 ∷ [] else ps, left)

-- the positions of one task more
unfoldable pub with_one : List Position → Lcg → List Position × Lcg
with_one ps dice =
    let (ready, after_data) = with_data ps dice in
    let (run, after_task) = with_task ready after_data in
    with_par run after_task

-- the positions of the first i tasks
unfoldable pub with_tasks : ℕ → Lcg → List Position × Lcg
with_tasks zero dice = ([], dice)
with_tasks (suc i) dice = let (ps, left) = with_tasks i dice in with_one ps left

-- all terms that stand side by side, where there are at least two
unfoldable pub closed : List Position → List Position
closed ps = if nat_le 2 (height_of ps) then ps ++ Par (height_of ps) ∷ [] else ps

-- the workflow of a seed, of n tasks
unfoldable pub workflow_of : ℕ → ℕ → List Position
workflow_of seed n = closed (with_tasks n (dice_of seed)).0
