use Rattle.std.proofs.Common.{◌≡◌, ◌<◌, ℕ, List, None, length, get_or, take, ap, ◌∙◌, arith}
use Rattle.std.proofs.lemmas.List.{get_or_default}
use Rattle.fencing.specs.declared.ledger.Taking.{Taking}
use Rattle.fencing.proofs.Raising.{along_long, one_fits}
use Rattle.fencing.proofs.fencing.item_amounts.Goals as goal

pub index_mut-requires : goal.index_mut-requires
index_mut-requires c =
    let i = c.loop-taking.taking-index in
    let items = c.args.items.now in
    let d : Taking = record { from = 0; to = 0; amount = 0; along = None } in
    let carried = c.requires.carried i d c.loop-taking-test.true c.in-Some.index c.in-Some.is in
    omega (arith, carried.0, along_long items (take i c.args.takings.now), ap (length {A = ℕ}) c.loop-taking.invariant, c.loop-taking.amounts.ok)

pub overflow_add-index_mut : goal.overflow_add-index_mut
overflow_add-index_mut c =
    let i = c.loop-taking.taking-index in
    let items = c.args.items.now in
    let index = c.in-Some.index in
    let amounts = c.loop-taking.amounts.items in
    let d : Taking = record { from = 0; to = 0; amount = 0; along = None } in
    let carried = c.requires.carried i d c.loop-taking-test.true index c.in-Some.is in
    let long : index < length amounts = omega (arith, carried.0, along_long items (take i c.args.takings.now), ap (length {A = ℕ}) c.loop-taking.invariant) in
    let read : c.index_mut.result.now ≡ get_or amounts index 0 = c.index_mut.ensures.value ∙ get_or_default amounts index c.index_mut.result.now 0 long in
    omega (
      arith,
      read,
      ap (λ (l : List ℕ). get_or l index 0) c.loop-taking.invariant,
      one_fits items c.args.takings.now i d index c.requires.carried c.loop-taking-test.true carried.0,
      c.requires.fits,
    )
