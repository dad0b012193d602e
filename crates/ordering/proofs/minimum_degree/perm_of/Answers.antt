use Rattle.std.proofs.Common.{◌≡◌, ap, sym, subst, get_or, arith}
use Rattle.permutations.specs.Perm.{PermState, times}
use Rattle.permutations.proofs.PermLemmas.{fresh_at}
use Rattle.ordering.proofs.minimum_degree.perm_of.Goals as goal

pub push-requires-clause-fresh : goal.push-requires-clause-fresh
push-requires-clause-fresh c =
    let list = c.args.list.now in
    let so_far = ap (λ (s : PermState). s.numbers) c.loop-vertex.invariant in
    let perm = c.requires in
    let len = perm.len in
    subst (λ numbers. times numbers (get_or list c.loop-vertex.vertex-index 0) ≡ 0) (sym so_far)
    (fresh_at c.args.n list perm c.loop-vertex.vertex-index (omega (arith, c.loop-vertex-test.true)))
