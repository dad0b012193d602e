-- The rows of the vertices: a table by vertices, read by the places of an order.
use Rattle.std.proofs.Common.{sym, ◌∙◌, ap, ◌≡◌, ◌≢◌, inl, inr, ℕ, zero, suc, ◌<◌, ◌≤◌, List, length, arith}
use Rattle.std.proofs.lemmas.Bool.{cases_lt}
use Rattle.std.proofs.lemmas.List.{get_or_past}
use Rattle.permutations.specs.Perm.{vertex_at, place_of}

-- past the end of an order there is no vertex
past_end : (order : List ℕ) (x : ℕ) → length order < x → vertex_at order x ≡ 0
past_end order zero lt = absurd (omega arith)
past_end order (suc i) lt = get_or_past order i 0 (omega arith)

-- at another place stands another vertex
pub other_vertex : (order : List ℕ) → ((k : ℕ) → k ≤ length order → place_of order (vertex_at order k) ≡ k) → (v : ℕ) → 0 < place_of order v
    → (x : ℕ) → x ≢ place_of order v → vertex_at order x ≢ v
other_vertex order place_back v some x ne e =
    elim (cases_lt (length order) x) [
      | inl past ↦ (
          let none : place_of order v ≡ 0 = ap (place_of order) (sym e ∙ past_end order x past) ∙ place_back 0 (omega arith) in
          absurd (omega arith)
          )
      | inr le ↦ ne (sym (place_back x le) ∙ ap (place_of order) e)
    ]

-- a vertex has a place that is no more than the length
pub place_within : (order : List ℕ) → ((k : ℕ) → k ≤ length order → place_of order (vertex_at order k) ≡ k)
    → (v : ℕ) → vertex_at order (place_of order v) ≡ v
    → place_of order v ≤ length order
place_within order place_back v back =
    elim (cases_lt (length order) (place_of order v)) [
      | inl past ↦ (
          let none : place_of order v ≡ 0 =
          ap (place_of order) (sym back ∙ past_end order (place_of order v) past) ∙ place_back 0 (omega arith) in
          absurd (omega arith)
          )
      | inr le ↦ le
    ]
