use Rattle.std.proofs.Common.{ℕ, arith, ◌∙◌, length-set}
use Rattle.elimination.specs.Quotients.{at}
use Rattle.elimination.proofs.LinkLemmas.{later, shorter, still_leads}
use Rattle.elimination.proofs.links.last_of.Goals as goal

pub up-preserved : goal.up-preserved
up-preserved c =
    let i = c.up.invariant in
    let t = later (at c.args.turns.now) c.up.links c.up.x i.0 i.1 c.if-next-x.false i.2 in
    let t0 = t.0 in
    let e = length-set {A = ℕ} c.up.links c.up.x (at c.up.links (at c.up.links c.up.x)) in (
      omega arith,
      t.1,
      shorter (at c.args.turns.now) c.up.links c.up.x i.0 i.1 c.if-next-x.false i.2,
      λ part p.
          let now = i.3 part p in
          let s = still_leads (at c.args.turns.now) c.up.links c.up.x i.0 i.1 c.if-next-x.false i.2 part now.0 in
          (s.0, s.1 ∙ now.1),
    )
