use Rattle.std.proofs.Common.{◌≡◌, ◌+◌, ◌<◌, ◌≤◌, ℕ, List, length, get_or, take, ◌∙◌, arith}
use Rattle.shared_systems.specs.Places.{last_place}
use Rattle.shared_systems.proofs.OrderPlaces.{last_place_more}
use Rattle.shared_systems.proofs.places.last_of.Goals as goal
use Rattle.shared_systems.proofs.places.last_of.Goals.{then-place-last, else-place-last}

greater : (places to : List ℕ) (i last : ℕ) → i < length to
    → last ≡ last_place (λ c. get_or places c 0) (take i to) → last < get_or places (get_or to i 0) 0
    → get_or places (get_or to i 0) 0 ≡ last_place (λ c. get_or places c 0) (take (i + 1) to)
greater places to i last lt is above = omega (arith, last_place_more (λ c. get_or places c 0) to i lt)

as_great : (places to : List ℕ) (i last : ℕ) → i < length to
    → last ≡ last_place (λ c. get_or places c 0) (take i to) → get_or places (get_or to i 0) 0 ≤ last
    → last ≡ last_place (λ c. get_or places c 0) (take (i + 1) to)
as_great places to i last lt is below = omega (arith, last_place_more (λ c. get_or places c 0) to i lt)

pub loop-reader-preserved : goal.loop-reader-preserved
loop-reader-preserved c = elim c.if-place-last.branch [
  | then-place-last w ↦ w.last-is
      ∙ greater c.args.places.now c.args.readers.now c.loop-reader.reader-index
      c.loop-reader.last c.loop-reader-test.true c.loop-reader.invariant w.if-place-last.true
  | else-place-last w ↦ w.last-is
      ∙ as_great c.args.places.now c.args.readers.now c.loop-reader.reader-index
      c.loop-reader.last c.loop-reader-test.true c.loop-reader.invariant w.if-place-last.false
]
