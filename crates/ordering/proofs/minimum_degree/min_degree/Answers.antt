use Rattle.std.proofs.Common.{subst, sym, length, arith}
use Rattle.patterns.specs.Pattern.{is_joined}
use Rattle.permutations.specs.Perm.{IsPerm}
use Rattle.ordering.specs.MinimumDegree.{IsMinimumDegreeOrder}
use Rattle.ordering.proofs.OneOrder.{listed_order}
use Rattle.ordering.proofs.minimum_degree.min_degree.Goals as goal

pub perm_of-requires : goal.perm_of-requires
perm_of-requires c =
    let rows = c.args.pattern.now in
    let e = c.in_ok-list.ensures in
    let order = listed_order (is_joined rows) (length rows) c.in_ok-list.list.items e.len e.vertices e.once e.least in
    subst (λ n. IsPerm n c.deref.result.now) (sym c.rows-2.ensures.value)
    (subst (IsPerm (length rows)) (sym c.deref.ensures.value) order.perm)

pub returns : goal.returns
returns c =
    let rows = c.args.pattern.now in
    let e = c.in_ok-list.ensures in
    let order = listed_order (is_joined rows) (length rows) c.in_ok-list.list.items e.len e.vertices e.once e.least in (
      omega (arith, c.rows.ensures.value, c.from.ensures, c.if-from-gt-MOST_MINDEG.false),
      subst (IsMinimumDegreeOrder (is_joined rows) (length rows)) (sym c.in_ok-perm_of.ensures)
          (subst (IsMinimumDegreeOrder (is_joined rows) (length rows)) (sym c.deref.ensures.value) order),
    )
