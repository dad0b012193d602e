use Rattle.std.proofs.Common.{◌≡◌, ◌<◌, ◌-◌, ◌^◌, ℕ, length}
use Rattle.elimination.specs.Quotients.{AreLinks, LeadsTo, at}
use Rattle.elimination.proofs.links.last_of.Given as goal

abbrev pub invariant-up : goal.invariant-up
invariant-up l =
    (l.x < length l.links) × (0 < at l.turns l.x) × AreLinks (at l.turns) l.links
    × ((part : ℕ → ℕ) → LeadsTo (at l.turns) part l.fn.links → LeadsTo (at l.turns) part l.links × (part l.x ≡ part l.fn.d))

abbrev pub decreases-up : goal.decreases-up
decreases-up l = 2 ^ 32 - at l.turns l.x
