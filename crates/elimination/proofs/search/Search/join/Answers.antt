use Rattle.std.proofs.Common.{◌≡◌, ℕ, List, ◌<◌, get_or, ◌+◌, ◌++◌, ◌∷◌, length, subst, sym, ap, ◌∙◌, true, set, arith}
use Rattle.std.specs.Vec.{with_items}
use Rattle.std.proofs.lemmas.List.{with_items_is}
use Rattle.std.proofs.lemmas.Grind.{get_or_default_zero}
use Rattle.elimination.specs.Quotients.{at, inner_at}
use Rattle.elimination.specs.Tables.{tables}
use Rattle.elimination.specs.Turns.{StandForOthers}
use Rattle.elimination.specs.Twins.{IsJoinedTo}
use Rattle.elimination.proofs.ListFacts.{mark_other, mark_here}
use Rattle.elimination.proofs.BoundSteps.{at_other, at_here}
use Rattle.elimination.proofs.Joinings.{sizes_small, joined_stand}
use Rattle.elimination.proofs.search.Search.join.Goals as goal

-- a read of a table of numbers, at the default 0
read_is : (sizes : List ℕ) (x value : ℕ) → x < length sizes → value ≡ get_or sizes x value → value ≡ at sizes x
read_is sizes x value lt e = e ∙ get_or_default_zero sizes x value lt

pub overflow_add-index_mut : goal.overflow_add-index_mut
overflow_add-index_mut c =
    let can = c.requires.can in
    let small = sizes_small can.0 (tables c.args.self.now) c.args.least c.args.other can.1 in
    let size = can.1.stand.quotient.size in
    let len = c.requires.lengths in
    let links_len = len.links in
    let sizes_len = len.sizes in
    let ln = can.1.vertices.0.1 in
    let on = can.1.vertices.1.1 in
    let a = read_is c.args.self.now.sizes.items c.args.least c.index_mut.result.now (omega arith) c.index_mut.ensures.value in
    let b = read_is c.args.self.now.sizes.items c.args.other c.index.result.now (omega arith) c.index.ensures in
    omega arith

pub returns-clause-joined : goal.returns-clause-joined
returns-clause-joined c = λ q can.
    let s = c.args.self.now in
    let least = c.args.least in
    let other = c.args.other in
    let len = c.requires.lengths in
    let sizes_len = len.sizes in
    let seen_len = len.seen in
    let links_len = len.links in
    let size = can.stand.quotient.size in
    let ln = can.vertices.0.1 in
    let on = can.vertices.1.1 in
    let before = can.before in
    let groups = (with_items s.groups c.join_groups.new.groups).items in
    let e : c.deref_mut.result.now ≡ s.groups.items = c.deref_mut.ensures.value in
    let w : groups ≡ c.join_groups.new.groups = with_items_is s.groups c.join_groups.new.groups (omega (arith, s.groups.ok.0)) in
    let a = read_is s.sizes.items least c.index_mut.result.now (omega arith) c.index_mut.ensures.value in
    let b = read_is s.sizes.items other c.index.result.now (omega arith) c.index.ensures in
    let sum = c.index_mut.result.now + c.index.result.now in
    let j : IsJoinedTo least other (inner_at s.groups.items) (inner_at groups) s.sizes.items (set s.sizes.items least sum) s.seen.items
    (set s.seen.items other true) = record {
      taken = ap (λ z. inner_at z least) w ∙ c.in_ok-join_groups.ensures.taken ∙ ap (λ z. inner_at z least ++ (other ∷ inner_at z other)) e;
      empty = ap (λ z. inner_at z other) w ∙ c.in_ok-join_groups.ensures.empty;
      others = λ r nl no. ap (λ z. inner_at z r) w ∙ c.in_ok-join_groups.ensures.others r nl no ∙ ap (λ z. inner_at z r) e;
      size = let h = at_here s.sizes.items least sum (omega arith) in omega arith;
      sizes_same = λ r nl. at_other s.sizes.items least sum r nl;
      marked = mark_here s.seen.items other true (omega arith);
      marks = λ x no. mark_other s.seen.items other x true no;
    } in
    subst (λ z. StandForOthers q (record (tables s) {
      groups = inner_at groups;
      sizes = set s.sizes.items least sum;
      seen = set s.seen.items other true;
      bounds = z;
    }))
    (sym c.put.ensures) (joined_stand q (tables s) least other can (inner_at groups) (set s.sizes.items least sum)
    (set s.seen.items other true) j)
