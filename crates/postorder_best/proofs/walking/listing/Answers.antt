use Rattle.std.proofs.Common.{◌≡◌, ◌∙◌, arith, sym, subst, ap, ℕ, List, reverse}
use Rattle.std.proofs.lemmas.List.{length-reverse, reverse-reverse}
use Rattle.row_table.specs.Rows.{row_at}
use Rattle.postorder_best.specs.BestPostorder.{ListedAll}
use Rattle.postorder_best.proofs.walking.listing.Goals as goal

pub walk-requires-clause-listed : goal.walk-requires-clause-listed
walk-requires-clause-listed c =
    let l = c.requires.listed in
    let e = length-reverse l.0 in
    let few = l.3 in
    (reverse l.0, l.2, omega arith)

pub returns : goal.returns
returns c =
    let l = c.requires.listed in
    let is : c.reverse.new.self.items ≡ l.0 =
    c.reverse.ensures.items ∙ ap reverse (c.in_ok-order.ensures (reverse l.0) l.2) ∙ reverse-reverse l.0 in
    subst (λ (o : List ℕ). ListedAll (row_at c.args.rows.now) (row_at c.args.rows.now 0) o) (sym is) l.1
