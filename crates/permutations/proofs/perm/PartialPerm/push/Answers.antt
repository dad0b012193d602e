use Rattle.std.proofs.Common.{◌≡◌, ℕ, List, subst, sym, arith}
use Rattle.permutations.specs.Perm.{IsVertex, PermState, times}
use Rattle.permutations.specs.PermTables.{order_in}
use Rattle.permutations.proofs.TableLemmas.{small_place, tables-push}
use Rattle.permutations.proofs.perm.PartialPerm.push.Goals as goal

-- what is asked of the vertex, of what the tables hold
asked : (n : ℕ) (numbers : List ℕ) (s : PermState) (v : ℕ)
    → record { n = n; numbers = numbers } ≡ s → IsVertex s.n v → times s.numbers v ≡ 0
    → IsVertex n v × (times numbers v ≡ 0)
asked n numbers s v e vertex fresh = subst (λ (t : PermState). IsVertex t.n v × (times t.numbers v ≡ 0)) (sym e) (vertex, fresh)

pub overflow_cast-place : goal.overflow_cast-place
overflow_cast-place c =
    let a =
    asked c.self.inside.n (order_in c.self.inside.vertices.items) _ c.args.vertex c.self.view_is c.requires.vertex c.requires.fresh in
    omega (
      arith,
      c.len-place.ensures,
      small_place c.self.inside.n c.self.inside.vertices.items c.self.inside.places.items c.args.vertex c.self.invariant a.0 a.1,
    )

pub invariant_of-self-2 : goal.invariant_of-self-2
invariant_of-self-2 c =
    let a =
    asked c.self.inside.n (order_in c.self.inside.vertices.items) _ c.args.vertex c.self.view_is c.requires.vertex c.requires.fresh in
    rw c.in_ok-push.ensures.items
    (tables-push c.self.inside.n c.self.inside.vertices.items c.self.inside.places.items c.args.vertex
    c.len-place.result c.self.invariant a.0 a.1 (omega (arith, c.len-place.ensures, c.self.inside.vertices.ok)))
