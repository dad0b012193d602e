use Rattle.std.proofs.Common.{◌≡◌, ◌++◌, ℕ, suc, List, length, take, drop, ap, subst, sym, ◌∙◌, arith}
use Rattle.std.proofs.Math.Seq.{take-append_seam}
use Rattle.patterns.specs.Pattern.{is_joined}
use Rattle.ordering.specs.Fill.{renumbered}
use Rattle.elim_tree.specs.ParentTables.{IsParentTable}
use Rattle.elim_tree.proofs.Growth.{pattern_by_columns, within_by_columns, are_parents, is_table}
use Rattle.elim_tree.proofs.tree.etree.Goals as goal
use Rattle.elim_tree.proofs.tree.etree.Goals.{After-grow}

-- what was written through the slice is the whole table
written : (new rest : List ℕ) (len : ℕ) → len ≡ length new → take len (new ++ rest) ≡ new
written new rest len e = ap (λ n. take n (new ++ rest)) e ∙ take-append_seam new rest

same_len : (c : After-grow) → c.in_ok-table.table.len ≡ length c.grow.new.parents
same_len c = omega (arith, c.grow.ensures.len, c.deref_mut.ensures.len)

long : (c : After-grow) → length c.grow.new.parents ≡ suc (length c.args.perm.now)
long c = omega (arith, c.grow.ensures.len, c.in_ok-table.ensures.len, c.rows.ensures.value)

pub invariant_of-result : goal.invariant_of-result
invariant_of-result c =
    let rows = c.args.pattern.now in
    let order = c.args.perm.now in
    let pattern = c.rows.ensures.pattern in
    subst IsParentTable (sym (written c.grow.new.parents (drop (length c.grow.new.parents) c.in_ok-table.table.items)
    c.in_ok-table.table.len (same_len (goal.at.invariant_of-result c).After-grow)))
    (is_table c.parent_is_first.ensures.parent (renumbered (is_joined rows) order) (pattern_by_columns rows order pattern) (length order)
    (within_by_columns rows order pattern) c.grow.new.parents (long (goal.at.invariant_of-result c).After-grow) c.grow.ensures.firsts
    (omega (arith, pattern.some, c.requires)) (omega (arith, pattern.few, c.requires)))

pub returns : goal.returns
returns c =
    let rows = c.args.pattern.now in
    let order = c.args.perm.now in
    let pattern = c.rows.ensures.pattern in
    ap (drop 1)
    (written c.grow.new.parents (drop (length c.grow.new.parents) c.in_ok-table.table.items) c.in_ok-table.table.len
    (same_len (goal.at.returns c).After-grow))
    ∙ are_parents c.parent_is_first.ensures.parent (renumbered (is_joined rows) order)
    (pattern_by_columns rows order pattern) (length order)
    (within_by_columns rows order pattern) c.grow.new.parents (long (goal.at.returns c).After-grow) c.grow.ensures.firsts
