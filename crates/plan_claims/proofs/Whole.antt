-- What is wanted of the whole term, from its part.
use Rattle.std.proofs.Common.{◌≡◌, ℕ, refl, sym, ap, arith, ◌∙◌}
use Rattle.side_laws.specs.Segments.{lowest, top}
use Rattle.sp_terms.specs.Term.{Term, Direction, forward, backward}
use Rattle.plans.specs.Plan.{direction_of}
use Rattle.cut_laws.specs.Cuts.{Cut, top_of, lowest_of}
use Rattle.cut_laws.specs.Names.{numbered}
use Rattle.cut_laws.specs.TermCuts.{cut_of_term}
use Rattle.sp_cuts.specs.Notes.{CutNumbers, cut_numbers, cut_at, unnamed}
use Rattle.plan_claims.specs.declared.wanted.Wanted.{Wanted}
use Rattle.plan_claims.specs.Below.{LawsBelow}
use Rattle.plan_claims.specs.Wants.{Shows}

-- the top and the lowest level of a cut are in its numbers
top_in : Direction → CutNumbers → ℕ
top_in forward n = top n.initial n.front
top_in backward n = top n.fin n.back

lowest_in : Direction → ℕ → CutNumbers → ℕ
lowest_in forward limit n = lowest limit n.initial n.front
lowest_in backward limit n = lowest limit n.fin n.back

top_is : (d : Direction) (c : Cut) → top_of d c ≡ top_in d (cut_numbers c)
unfolding top_in
top_is forward c = refl
top_is backward c = refl

lowest_is : (d : Direction) (limit : ℕ) (c : Cut) → lowest_of d limit c ≡ lowest_in d limit (cut_numbers c)
unfolding lowest_in
lowest_is forward limit c = refl
lowest_is backward limit c = refl

same_shows : (c c' : Cut) (w : Wanted) → cut_numbers c ≡ cut_numbers c' → Shows c w → Shows c' w
same_shows c c' w e s =
    let d : Direction = direction_of w.dir in
    record {
      below = let b = s.below in omega (arith, top_is d c, top_is d c', ap (top_in d) e);
      lowest = s.lowest ∙ lowest_is d w.limit c ∙ ap (lowest_in d w.limit) e ∙ sym (lowest_is d w.limit c');
    }

pub whole_shows : LawsBelow → (t : Term) (c : Cut) (w : Wanted) → c ≡ cut_of_term t (numbered 1 t) → Shows c w → Shows (cut_at t) w
whole_shows laws t c w e s = same_shows c (cut_at t) w (ap cut_numbers e ∙ laws.names t (numbered 1 t) (unnamed t)) s
