use Rattle.std.proofs.Common.{◌≡◌, ◌<◌, ◌+◌, ℕ, List, [], length, sym, ap, ◌∙◌, arith, refl, pos}
use Rattle.std.specs.Prelude.{ℤ}
use Rattle.std.proofs.lemmas.List.{take_at, get_or-replicate, length-replicate}
use Rattle.peak_bounds.specs.Evidence.{amount_or, lowered_by}
use Rattle.peak_bounds.specs.Judging.{size_at}
use Rattle.peak_bounds.proofs.Told.{lowered-is}
use Rattle.peak_bounds.proofs.Sparing.{spare_zero}
use Rattle.peak_bounds.proofs.spare.base_sizes.Goals as goal

pub put_amounts-requires-clause-spare : goal.put_amounts-requires-clause-spare
put_amounts-requires-clause-spare c =
    spare_zero c.args.uses.now c.len.result c.args.tasks c.deref_mut.result.now c.deref_mut-2.result.now c.requires.ends (c.len.ensures ∙ c.args.uses.now.makers.ok.0)
    (c.deref_mut.ensures.value ∙ c.in_ok-sizes.ensures.items_if_clones_equal (λ y h. h))
    (c.deref_mut-2.ensures.value ∙ c.in_ok-spare.ensures.items_if_clones_equal (λ y h. h))

pub returns-clause-sizes : goal.returns-clause-sizes
returns-clause-sizes c =
    let n = c.len.result in
    let zeros = c.deref_mut.ensures.value ∙ c.in_ok-sizes.ensures.items_if_clones_equal (λ y h. h) in
    let long = c.put_amounts.auto.sizes ∙ ap (λ (l : List ℤ). length l) zeros ∙ length-replicate n (pos 0) in
    take_at c.put_amounts.new.sizes _ c.in_ok-sizes.sizes.len (long ∙ sym c.in_ok-sizes.ensures.len)
    ∙ lowered-is n c.args.base.now [] c.put_amounts.new.sizes c.put_amounts.new.sizes long long
    (λ k lt.
    let short : k < length c.deref_mut.result.now = omega (arith, lt, ap (λ (l : List ℤ). length l) zeros, length-replicate n (pos 0)) in
    let zero : size_at c.deref_mut.result.now k ≡ pos 0 = ap (λ (l : List ℤ). size_at l k) zeros ∙ get_or-replicate n k (pos 0) (pos 0) lt in
    c.put_amounts.ensures.sizes k short ∙ ap (λ (z : ℤ). amount_or z c.args.base.now (k + 1)) zero)
    (λ k lt. refl)
    ∙ ap (λ (m : ℕ). lowered_by m c.args.base.now []) (c.len.ensures ∙ c.args.uses.now.makers.ok.0)
