use Rattle.std.proofs.Common.{◌≡◌, ◌<◌, ◌+◌, ℕ, get_or, set, length, Some, arith, ap, ◌∙◌}
use Rattle.std.proofs.Math.ListN.{length-set}
use Rattle.std.proofs.lemmas.List.{get_or_default}
use Rattle.shared_systems.specs.Shared.{SharedItem, shared_item_at}
use Rattle.shared_systems.proofs.KeySums.{sums-fit, sums-next}
use Rattle.joined_systems.specs.Joined.{join_between}
use Rattle.joined_systems.proofs.JoinCode.{between-le, added}
use Rattle.joined_systems.proofs.building.shares_of.Goals as goal

pub index_mut-requires : goal.index_mut-requires
index_mut-requires c =
    let x = shared_item_at c.args.items.now c.loop-i.i in
    omega (
      arith,
      c.join_between-join.ensures,
      between-le c.args.joins.now x.from x.readers,
      c.requires.count,
      c.loop-i.invariant.len,
      c.loop-i.shares.ok.0,
    )

pub overflow_add-index_mut : goal.overflow_add-index_mut
overflow_add-index_mut c =
    let inside : c.loop-i.i < length c.args.items.now = omega (arith, c.loop-i-test.true, c.len-i-end.ensures) in
    let fits = sums-fit (λ (x : SharedItem). Some (join_between c.args.joins.now x.from x.readers)) c.args.items.now c.loop-i.shares.items
    c.loop-i.i c.size.result inside c.loop-i.invariant.sums c.size.ensures c.join_between-join.result in
    let x = shared_item_at c.args.items.now c.loop-i.i in
    let within : c.join_between-join.result < length c.loop-i.shares.items = omega (
      arith,
      c.join_between-join.ensures,
      between-le c.args.joins.now x.from x.readers,
      c.requires.count,
      c.loop-i.invariant.len,
    ) in
    let read = c.index_mut.ensures.value
    ∙ get_or_default c.loop-i.shares.items c.join_between-join.result c.index_mut.result.now 0 within in
    omega (arith, fits, c.requires.total, read)

pub loop-i-preserved : goal.loop-i-preserved
loop-i-preserved c =
    let inside : c.loop-i.i < length c.args.items.now = omega (arith, c.loop-i-test.true, c.len-i-end.ensures) in
    let x = shared_item_at c.args.items.now c.loop-i.i in
    let sums = c.loop-i.shares.items in
    let j = c.join_between-join.result in
    let within : j < length sums = omega (
      arith,
      c.join_between-join.ensures,
      between-le c.args.joins.now x.from x.readers,
      c.requires.count,
      c.loop-i.invariant.len,
    ) in
    let value : c.index_mut.result.now + c.size.result ≡ get_or sums j 0 + c.size.result = ap (λ (n : ℕ). n + c.size.result)
    (c.index_mut.ensures.value ∙ get_or_default sums j c.index_mut.result.now 0 within) in
    record {
      len = length-set sums j (c.index_mut.result.now + c.size.result) ∙ c.loop-i.invariant.len;
      sums = sums-next (λ (y : SharedItem). Some (join_between c.args.joins.now y.from y.readers)) c.args.items.now sums
          (set sums j (c.index_mut.result.now + c.size.result)) c.loop-i.i c.size.result (Some j) inside c.loop-i.invariant.sums
          (ap (λ (k : ℕ). Some k) c.join_between-join.ensures) c.size.ensures
          (λ v. ap (λ (n : ℕ). get_or (set sums j n) v 0) value ∙ added sums j c.size.result v within);
    }
