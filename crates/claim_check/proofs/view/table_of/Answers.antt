use Rattle.std.proofs.Common.{◌≡◌, ◌+◌, sym, subst, [], ◌∷◌, ◌++◌}
use Rattle.claim_check.proofs.Table.{Filled, filled_more}
use Rattle.claim_check.proofs.view.table_of.Goals as goal

pub loop-done-preserved : goal.loop-done-preserved
loop-done-preserved c =
    let items : c.push.new.self.items ≡ c.loop-done.table.items ++ (c.entry_of-entry.result ∷ []) = c.in_ok-push.ensures.items in
    subst (λ l. Filled c.args.claims.now l (c.loop-done.done + 1) c.max-passed.result) (sym items)
    (subst (λ n. Filled c.args.claims.now (c.loop-done.table.items ++ (c.entry_of-entry.result ∷ [])) (c.loop-done.done + 1) n)
    (sym c.max-passed.ensures)
    (filled_more c.args.claims.now c.loop-done.table.items c.loop-done.done c.loop-done.passed
    c.entry_of-entry.result c.entry_of-entry.ensures c.loop-done.invariant))
