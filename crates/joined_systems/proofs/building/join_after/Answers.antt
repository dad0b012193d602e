use Rattle.std.proofs.Common.{◌-◌, Bool, cond, get_or, ◌∙◌, sym, ap, arith}
use Rattle.std.specs.Str.{bytes_eq}
use Rattle.joined_systems.specs.Joins.{join_of}
use Rattle.joined_systems.proofs.JoinNumbers.{join-le}
use Rattle.joined_systems.proofs.JoinCode.{after_is}
use Rattle.joined_systems.proofs.building.join_after.Goals as goal

pub row-requires : goal.row-requires
row-requires c = omega (arith, c.requires.len, join-le c.args.joins.now (get_or c.args.readers.now 0 0 - 1))

pub returns-else-eq : goal.returns-else-eq
returns-else-eq c =
    let joins = c.args.joins.now in
    let k = join_of joins (get_or c.args.readers.now 0 0) in
    let row = c.row.ensures ∙ c.requires.rows k (join-le joins (get_or c.args.readers.now 0 0 - 1)) in
    let is = after_is joins c.args.readers.now c.eq.result c.if-readers-lt2.false
    (c.eq.ensures ∙ ap (bytes_eq c.args.readers.now) row) in
    sym (is ∙ ap (λ (b : Bool). cond b k 0) c.if-eq.false)

pub returns-then-eq : goal.returns-then-eq
returns-then-eq c =
    let joins = c.args.joins.now in
    let k = join_of joins (get_or c.args.readers.now 0 0) in
    let row = c.row.ensures ∙ c.requires.rows k (join-le joins (get_or c.args.readers.now 0 0 - 1)) in
    let is = after_is joins c.args.readers.now c.eq.result c.if-readers-lt2.false
    (c.eq.ensures ∙ ap (bytes_eq c.args.readers.now) row) in
    sym (is ∙ ap (λ (b : Bool). cond b k 0) c.if-eq.true)
