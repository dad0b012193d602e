use Rattle.std.proofs.Common.{◌≡◌, ◌≤◌, ◌∙◌, ap, arith, length, subst, sym}
use Rattle.std.specs.List.{sum_by}
use Rattle.std.proofs.lemmas.Grind.{get_or_default_zero}
use Rattle.limits.specs.Limits.{most_order}
use Rattle.elimination.specs.Quotients.{at}
use Rattle.elimination.specs.Tables.{tables}
use Rattle.elimination.proofs.Choices.{degree_is, near_few}
use Rattle.elimination.proofs.search.Search.degree.Goals as goal

pub weigh-requires-clause-few : goal.weigh-requires-clause-few
weigh-requires-clause-few c =
    let m = c.requires.start in
    let few = near_few m.0 (tables c.args.self.now) c.args.v m.1 in
    let size = m.1.gathered.quotient.size in
    let len = c.requires.lengths.links in
    let most = c.requires.few in
    subst (λ z. length z ≤ most_order) (sym c.deref.ensures.value) (omega arith)

pub returns : goal.returns
returns c = λ q m.
    let s = c.args.self.now in
    let is = degree_is q (tables s) c.args.v m in
    let sum : sum_by (at c.deref-2.result.now) c.deref.result.now ≡ sum_by (at s.sizes.items) s.hood.near.items =
    ap (λ z. sum_by (at z) c.deref.result.now) c.deref-2.ensures.value ∙ ap (sum_by (at s.sizes.items)) c.deref.ensures.value in
    let len = c.requires.lengths in
    let sizes_len = len.sizes in
    let links_len = len.links in
    let size = m.gathered.quotient.size in
    let vn = m.gathered.vertex.1 in
    let own = c.index.ensures in
    let zero = get_or_default_zero s.sizes.items c.args.v c.index.result.now (omega arith) in
    let wide = c.from.ensures in
    let weight = c.weigh.ensures.sum in
    let less = c.saturating_sub.ensures in
    omega arith
