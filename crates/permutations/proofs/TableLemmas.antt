-- The tables of an order of elimination.
use Rattle.std.proofs.Common.{◌≡◌, ℕ, suc, ◌<◌, ◌^◌, List, [], ◌∷◌, ◌++◌, length, set, inl, inr, refl, sym, ap, ◌∙◌, arith, length-append}
use Rattle.std.proofs.lemmas.Bool.{cases_eq}
use Rattle.std.proofs.lemmas.Grind.{get_or-set_at}
use Rattle.std.proofs.lemmas.List.{get_or-set_other}
use Rattle.std.proofs.Math.ListN.{length-set}
use Rattle.permutations.specs.Perm.{IsVertex, times}
use Rattle.permutations.specs.PermTables.{order_in, ArePartTables}
use Rattle.permutations.proofs.PermLemmas.{part-push, room_in_part}
use Rattle.permutations.proofs.PlaceLemmas.{place-none, place-push_same, place-push_other}

-- one vertex more
pub order_push : (vertices : List ℕ) (v : ℕ) → vertices ≡ 0 ∷ order_in vertices
    → order_in (vertices ++ v ∷ []) ≡ order_in vertices ++ v ∷ []
order_push vertices v unused = rw unused refl

pub length-order : (vertices : List ℕ) → vertices ≡ 0 ∷ order_in vertices → length vertices ≡ suc (length (order_in vertices))
length-order vertices unused = ap length unused

pub tables-push : (n : ℕ) (vertices places : List ℕ) (v place : ℕ) → ArePartTables n vertices places
    → IsVertex n v → times (order_in vertices) v ≡ 0 → place ≡ length vertices
    → ArePartTables n (vertices ++ v ∷ []) (set places v place)
tables-push n vertices places v place part vertex fresh e =
    let order = order_in vertices in
    let unused = part.tables.unused in
    let more = order_push vertices v unused in
    let len = part.len in
    let same_len = length-set places v place in
    let below = vertex.1 in
    let room = room_in_part n order v part.part vertex fresh in
    record {
      len = same_len ∙ len;
      part = rw more (part-push n order v part.part vertex fresh);
      small = part.small;
      tables = record {
        unused = rw more (ap (λ (xs : List ℕ). xs ++ v ∷ []) unused);
        few = rw more (omega (arith, length-append order (v ∷ [])));
        inverse = λ w. rw more (elim (cases_eq w v) [
          | inl same ↦ rw same
              (get_or-set_at places v v place 0 refl (omega arith) ∙ e ∙ length-order vertices unused
              ∙ sym (place-push_same order v (place-none order v fresh)))
          | inr other ↦ get_or-set_other places v w place 0 other ∙ part.tables.inverse w
              ∙ sym (place-push_other order v w (λ same. other (sym same)))
        ]);
      };
    }

-- the place of one vertex more
pub small_place : (n : ℕ) (vertices places : List ℕ) (v : ℕ) → ArePartTables n vertices places
    → IsVertex n v → times (order_in vertices) v ≡ 0 → length vertices < 2 ^ 32
small_place n vertices places v part vertex fresh =
    let room = room_in_part n (order_in vertices) v part.part vertex fresh in
    let small = part.small in
    omega (arith, length-order vertices part.tables.unused)
