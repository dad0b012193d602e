-- The plan: its order is that of its part.
use Rattle.std.proofs.Common.{◌≡◌, ℕ, List, ◌++◌, ap, ◌∙◌, reverse}
use Rattle.hill_valley.specs.declared.ropes.Rope.{Rope}
use Rattle.hill_valley.specs.Ropes.{list_of, IsRope, Extends}
use Rattle.hill_valley.specs.Side.{runs_of, tasks_of}
use Rattle.segment_merge.specs.Laws.{SideLaws}
use Rattle.cut_laws.specs.Cuts.{order_of}
use Rattle.sp_cuts.specs.declared.parts.Part.{Part}
use Rattle.sp_cuts.specs.Parts.{cut_of, IsPart}

-- the tasks of the front and of the back are listed with more and more ropes
pub read_order : SideLaws → (r1 r2 r3 r4 : List (List ℕ)) (p : Part) (down back up way : Rope) (order : List ℕ)
    → IsPart r1 p → Extends r1 r2 → Extends r2 r3 → IsRope r2 down
    → list_of r2 down ≡ tasks_of (runs_of r1 p.front) → list_of r3 back ≡ tasks_of (runs_of r2 p.back)
    → list_of r3 up ≡ reverse (list_of r3 back) → list_of r4 way ≡ list_of r3 down ++ list_of r3 up → order ≡ list_of r4 way
    → order ≡ order_of (cut_of r1 p)
read_order laws r1 r2 r3 r4 p down back up way order h k12 k23 rope ld lb lu lw lo =
    lo ∙ lw ∙ ap (λ (l : List ℕ). l ++ list_of r3 up) ((laws.runs.rope r2 r3 down rope k23).1 ∙ ld)
    ∙ ap (λ (l : List ℕ). tasks_of (runs_of r1 p.front) ++ l)
    (lu ∙ ap (reverse {A = ℕ}) (lb ∙ ap tasks_of (laws.runs.stay r1 r2 p.back h.both.back_ropes k12).1))
