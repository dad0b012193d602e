-- What holds while the tasks of a side are read down its segments.
use Rattle.std.proofs.Common.{◌≡◌, ℕ, List, [], ◌∷◌, ◌++◌, ap, sym, ◌∙◌, refl, append_assoc}
use Rattle.hill_valley.specs.declared.ropes.Rope.{Rope}
use Rattle.hill_valley.specs.declared.side.Seg.{Seg}
use Rattle.hill_valley.specs.Ropes.{list_of, IsRope, Extends}
use Rattle.hill_valley.specs.Side.{HaveRopes, Run, runs_of, tasks_of}
use Rattle.hill_valley.proofs.Kept.{ropes_kept, runs_kept, extends_on}

-- `side` is left of side0, and the way has the tasks of the others
pub record Listing (ropes0 ropes : List (List ℕ)) (side0 side : List Seg) (way : Rope) : Type 0 where
  pub told : list_of ropes way ++ tasks_of (runs_of ropes side) ≡ tasks_of (runs_of ropes0 side0)
  pub side_ropes : HaveRopes ropes side
  pub rope : IsRope ropes way
  pub kept : Extends ropes0 ropes

pub listing_starts : (ropes0 ropes : List (List ℕ)) (side0 side : List Seg) (way : Rope) → side ≡ side0 → HaveRopes ropes0 side0
    → Extends ropes0 ropes → IsRope ropes way → list_of ropes way ≡ [] → Listing ropes0 ropes side0 side way
listing_starts ropes0 ropes side0 side way s h k r e = rw s
    (record { told = rw (e, runs_kept ropes0 ropes side0 h k) refl; side_ropes = ropes_kept ropes0 ropes side0 h k; rope = r; kept = k })

module _ (ropes0 ropes : List (List ℕ)) (side0 side rest : List Seg) (way : Rope)
    (s : Seg) (m : Listing ropes0 ropes side0 side way) (first : side ≡ s ∷ rest) where
  pub listing_first : IsRope ropes s.tasks
  listing_first = (rw first at m.side_ropes).0

  pub listing_on : (ropes' : List (List ℕ)) (way' : Rope) → Extends ropes ropes' → IsRope ropes' way'
      → list_of ropes' way' ≡ list_of ropes way ++ list_of ropes s.tasks → Listing ropes0 ropes' side0 rest way'
  listing_on ropes' way' kept rope put =
      let r = rw first at m.side_ropes in
      record {
        told = ap (λ (l : List ℕ). l ++ tasks_of (runs_of ropes' rest)) put
            ∙ ap (λ (l : List Run). (list_of ropes way ++ list_of ropes s.tasks) ++ tasks_of l) (runs_kept ropes ropes' rest r.1 kept)
            ∙ append_assoc (list_of ropes way) (list_of ropes s.tasks) (tasks_of (runs_of ropes rest))
            ∙ ap (λ (l : List Seg). list_of ropes way ++ tasks_of (runs_of ropes l)) (sym first)
            ∙ m.told;
        side_ropes = ropes_kept ropes ropes' rest r.1 kept;
        rope = rope;
        kept = extends_on ropes0 ropes ropes' m.kept kept;
      }
