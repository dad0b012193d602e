use Rattle.std.proofs.Common.{◌≡◌, length, arith, ap, ◌∙◌}
use Rattle.elimination.specs.Tables.{tables}
use Rattle.elimination.specs.Dense.{width_of}
use Rattle.elimination.proofs.Switches.{full_row}
use Rattle.elimination.proofs.search.Search.full_row.Goals as goal

pub bounds-numbers-v : goal.bounds-numbers-v
bounds-numbers-v c =
    let s = c.requires.start.1 in
    let most = s.vertex.1 in
    let size = s.stand.quotient.size in
    let links = c.requires.lengths.links in
    let len = c.requires.len in
    omega arith

pub add_hood-requires-clause-fit : goal.add_hood-requires-clause-fit
add_hood-requires-clause-fit c = λ x.
    let most = c.requires.most x in
    let len = c.in_ok-row.ensures.len in
    omega arith

pub returns : goal.returns
returns c = λ q vertices s a e.
    let t = tables c.args.self.now in
    let v = c.args.v in
    let numbers = c.args.numbers.now in
    let row = c.add_hood.new.row in
    let len : length row ≡ width_of c.args.order = c.add_hood.ensures.len ∙ c.in_ok-row.ensures.len in
    full_row q t v s vertices numbers a v s.vertex s.here row (len ∙ ap width_of e) (c.add_hood.ensures.exact q vertices s a)
