use Rattle.std.proofs.Common.{◌≡◌, suc, List, ℕ, ◌∷◌, ◌++◌, [], drop, refl, ap, ◌∙◌, arith}
use Rattle.std.specs.List.{range_with_len, each_same}
use Rattle.std.proofs.lemmas.Iterator.{items_from_collect, YieldsList-from_range}
use Rattle.permutations.specs.Perm.{vertex_at}
use Rattle.permutations.proofs.IdentityLemmas.{range_count, tables_identity, vertex_identity}
use Rattle.permutations.proofs.perm.identity.Goals as goal

numbers : (c : goal.In_ok-places) → c.push.new.self.items ≡ range_with_len 0 (suc c.args.n)
numbers c =
    let below = items_from_collect c.collect.result c.collect.ensures.ran (YieldsList-from_range 0 c.args.n c.args.n refl (omega arith)) in
    c.in_ok-push.ensures.items ∙ ap (λ (xs : List ℕ). xs ++ c.args.n ∷ []) (rw c.in_ok-vertices.was at below) ∙ range_count c.args.n

pub invariant_of-result : goal.invariant_of-result
invariant_of-result c =
    tables_identity c.args.n c.push.new.self.items c.in_ok-places.places.items c.ranges.n.fits
    (numbers c) (each_same _ _ c.in_ok-places.ensures.cases.0 ∙ numbers c)

pub returns-clause-order : goal.returns-clause-order
returns-clause-order c = ap (drop 1) (numbers c)

pub returns-clause-vertices : goal.returns-clause-vertices
returns-clause-vertices c = λ k le. ap (λ (vertices : List ℕ). vertex_at (drop 1 vertices) k) (numbers c) ∙ vertex_identity c.args.n k le
