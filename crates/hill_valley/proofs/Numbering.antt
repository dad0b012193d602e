-- What holds while the numbers of a side's first segments are put behind others.
use Rattle.std.proofs.Common.{◌≡◌, ℕ, ◌-◌, ◌<◌, ◌≤◌, List, [], ◌∷◌, ◌++◌, refl, ap, sym, ◌∙◌, arith, append_assoc, append-nil}
use Rattle.std.proofs.lemmas.Bool.Decides.{nat_tests}
use Rattle.std.proofs.lemmas.List.{map-append}
use Rattle.side_laws.specs.Segments.{Segment, net_sum}
use Rattle.hill_valley.specs.declared.numbers.Numbers.{Numbers}
use Rattle.hill_valley.specs.Numbers.{segments_listed, first_down_to}

first_stops : (stop level : ℕ) (ss : List Segment) → level < stop → first_down_to stop level ss ≡ []
first_stops stop level [] h = refl
first_stops stop level (s ∷ ss) h = grind (arith, nat_tests)

pub first_goes : (stop level : ℕ) (s : Segment) (ss : List Segment) → stop ≤ level
    → first_down_to stop level (s ∷ ss) ≡ s ∷ first_down_to stop (level - s.net) ss
first_goes stop level s ss h = grind (arith, nat_tests)

abbrev segment_of : Numbers → Segment
segment_of n = record { up = n.up; net = n.net }

-- ss are the segments that are left, and `numbers` are all put so far
pub record Numbering (stop : ℕ) (whole : List Segment) (at : ℕ) (ss : List Segment) (numbers : List Numbers) : Type 0 where
  pub room : net_sum ss ≤ at
  pub told : segments_listed numbers ++ first_down_to stop at ss ≡ whole

module _ (stop : ℕ) (whole : List Segment) (at : ℕ) (ss : List Segment)
    (numbers : List Numbers) (n : Numbering stop whole at ss numbers) where
  pub numbering_stops : at < stop → segments_listed numbers ≡ whole
  numbering_stops h =
      sym (append-nil (segments_listed numbers))
      ∙ ap (λ (l : List Segment). segments_listed numbers ++ l) (sym (first_stops stop at ss h)) ∙ n.told

  pub numbering_ends : ss ≡ [] → segments_listed numbers ≡ whole
  numbering_ends e = sym (append-nil (segments_listed numbers))
      ∙ ap (λ (l : List Segment). segments_listed numbers ++ first_down_to stop at l) (sym e) ∙ n.told

  module _ (own : Numbers) (rest : List Segment) (next : ss ≡ segment_of own ∷ rest) where
    pub numbering_fits : own.net ≤ at
    numbering_fits = let r = rw next at n.room in omega arith

    pub numbering_on : stop ≤ at → (numbers' : List Numbers)
        → numbers' ≡ numbers ++ own ∷ [] → Numbering stop whole (at - own.net) rest numbers'
    numbering_on h numbers' put =
        let s : Segment = segment_of own in
        let later : List Segment = first_down_to stop (at - own.net) rest in
        let r = rw next at n.room in
        record {
          room = omega arith;
          told = ap (λ (l : List Numbers). segments_listed l ++ later) put
              ∙ ap (λ (l : List Segment). l ++ later) (map-append segment_of numbers (own ∷ []))
              ∙ append_assoc (segments_listed numbers) (s ∷ []) later
              ∙ ap (λ (l : List Segment). segments_listed numbers ++ l) (sym (first_goes stop at s rest h))
              ∙ ap (λ (l : List Segment). segments_listed numbers ++ first_down_to stop at l) (sym next)
              ∙ n.told;
        }
