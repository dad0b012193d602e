use Rattle.std.proofs.Common.{sym, ap, ◌∙◌, ◌+◌, ◌<◌, ◌≤◌, ◌≡◌, length, arith, set, slice_index, subst}
use Rattle.permutations.specs.Perm.{vertex_at, place_of}
use Rattle.column_counts.specs.Leaves.{AreAncestors, last_of}
use Rattle.column_counts.proofs.MarkLemmas.{read_at}
use Rattle.lists.proofs.Lists.{at_other, at_here}
use Rattle.column_counts.proofs.RowLeaves.{no_leaf, first_leaf, further_leaf}
use Rattle.column_counts.proofs.VertexRows.{other_vertex, place_within}
use Rattle.column_counts.proofs.leaves.Leaves.take_leaf.Goals as goal

pub returns-then-firsts-j-clause-taken : goal.returns-then-firsts-j-clause-taken
returns-then-firsts-j-clause-taken c = λ from taken st.
    let t = c.args.self.now in
    let order = c.args.perm.now in
    let v = c.args.vertex in
    let i = place_of order v in
    let p = c.requires.places in
    let within = p.2 in
    let long = c.requires.ready.long.last in
    let len = c.requires.len in
    let back = c.places_are_inverse.ensures.vertex (length order) order c.keeps.ensures v within in
    let place_back = c.places_are_inverse.ensures.place (length order) order c.keeps.ensures in
    let inside : i < length c.args.firsts.now = omega (arith, place_within order place_back v back) in
    let here : last_of order t i ≡ slice_index t.last.items v = ap (slice_index t.last.items) back in
    let leaf = read_at t.last.items v c.index-leaf.result.now (omega arith) c.index-leaf.ensures in
    let under : slice_index c.args.firsts.now c.args.j ≤ last_of order t i = omega (arith, c.if-firsts-j.true) in
    no_leaf (slice_index c.args.firsts.now) (length c.args.firsts.now) c.args.j i inside
    (omega (arith, p.0, c.requires.spans.own c.args.j)) taken
    (last_of order t) (slice_index t.leaves.items)
    (slice_index t.meetings.items) c.requires.spans.nested c.requires.spans.own st (omega (arith, p.0)) under

pub overflow_add-index_mut : goal.overflow_add-index_mut
overflow_add-index_mut c =
    let p = c.requires.places in
    let most = p.1 in
    let long = c.requires.ready.long.leaves in
    let few = (c.requires.small c.args.j).0 in
    let count = read_at c.args.self.now.leaves.items c.args.j c.index_mut.result.now (omega arith) c.index_mut.ensures.value in
    omega arith

pub returns-then-leaf-eq0-clause-taken : goal.returns-then-leaf-eq0-clause-taken
returns-then-leaf-eq0-clause-taken c = λ from taken st.
    let t = c.args.self.now in
    let order = c.args.perm.now in
    let v = c.args.vertex in
    let i = place_of order v in
    let j = c.args.j in
    let p = c.requires.places in
    let most = p.1 in
    let within = p.2 in
    let long = c.requires.ready.long in
    let long_last = long.last in
    let long_leaves = long.leaves in
    let len = c.requires.len in
    let back = c.places_are_inverse.ensures.vertex (length order) order c.keeps.ensures v within in
    let place_back = c.places_are_inverse.ensures.place (length order) order c.keeps.ensures in
    let inside : i < length c.args.firsts.now = omega (arith, place_within order place_back v back) in
    let here : last_of order t i ≡ slice_index t.last.items v = ap (slice_index t.last.items) back in
    let leaf = read_at t.last.items v c.index-leaf.result.now (omega arith) c.index-leaf.ensures in
    let count = read_at t.leaves.items j c.index_mut.result.now (omega arith) c.index_mut.ensures.value in
    let more = c.index_mut.result.now + 1 in
    let some : 0 < j = omega (arith, p.0, c.requires.spans.own j) in
    first_leaf (slice_index c.args.firsts.now) (length c.args.firsts.now) j i inside some taken
    (last_of order t) (slice_index t.leaves.items) (slice_index t.meetings.items) c.requires.spans.nested c.requires.spans.own st
    (λ x. slice_index (set t.last.items v j) (vertex_at order x)) (slice_index (set t.leaves.items j more))
    (ap (slice_index (set t.last.items v j)) back ∙ at_here t.last.items v j (omega arith))
    (λ x ne. at_other t.last.items v j (vertex_at order x)
    (other_vertex order place_back v (omega arith) x ne))
    (at_here t.leaves.items j more (omega arith) ∙ ap (λ v. v + 1) count)
    (at_other t.leaves.items j more) (here ∙ sym leaf ∙ c.if-leaf-eq0.true)

pub overflow_add-index_mut-2 : goal.overflow_add-index_mut-2
overflow_add-index_mut-2 c =
    let q = c.least_common-meeting.result in
    let place = c.least_common-meeting.ensures.place in
    let same = c.least_common-meeting.ensures.len in
    let long = c.requires.ready.long in
    let long_ancestors = long.ancestors in
    let long_meetings = long.meetings in
    let few = (c.requires.small q).1 in
    let count = read_at c.args.self.now.meetings.items q c.index_mut-3.result.now (omega arith) c.index_mut-3.ensures.value in
    omega arith

pub returns-clause-taken : goal.returns-clause-taken
returns-clause-taken c = λ from taken st.
    let t = c.args.self.now in
    let first = slice_index c.args.firsts.now in
    let order = c.args.perm.now in
    let v = c.args.vertex in
    let i = place_of order v in
    let j = c.args.j in
    let q = c.least_common-meeting.result in
    let p = c.requires.places in
    let most = p.1 in
    let within = p.2 in
    let long = c.requires.ready.long in
    let long_ancestors = long.ancestors in
    let long_last = long.last in
    let long_leaves = long.leaves in
    let long_meetings = long.meetings in
    let len = c.requires.len in
    let back = c.places_are_inverse.ensures.vertex (length order) order c.keeps.ensures v within in
    let place_back = c.places_are_inverse.ensures.place (length order) order c.keeps.ensures in
    let inside : i < length c.args.firsts.now = omega (arith, place_within order place_back v back) in
    let here : last_of order t i ≡ slice_index t.last.items v = ap (slice_index t.last.items) back in
    let leaf = read_at t.last.items v c.index-leaf.result.now (omega arith) c.index-leaf.ensures in
    let count = read_at t.leaves.items j c.index_mut.result.now (omega arith) c.index_mut.ensures.value in
    let more = c.index_mut.result.now + 1 in
    let some_there : 0 < slice_index t.last.items v = omega (arith, c.if-leaf-eq0.false) in
    let some : 0 < last_of order t i = omega arith in
    let over : last_of order t i < first j = omega (arith, c.if-firsts-j.false) in
    let ancestors : AreAncestors first (length t.ancestors.table.items) j (slice_index t.ancestors.table.items) =
    subst (λ m. AreAncestors first m j (slice_index t.ancestors.table.items)) (sym long_ancestors) c.requires.ready.ancestors in
    let met = c.least_common-meeting.ensures.found first c.requires.spans ancestors i from
    (omega arith) (omega (arith, c.requires.before some_there)) in
    let start = met.from in
    let above : first q ≤ last_of order t i = omega (arith, met.above) in
    let place = c.least_common-meeting.ensures.place in
    let same = c.least_common-meeting.ensures.len in
    let met_count = read_at t.meetings.items q c.index_mut-3.result.now (omega arith) c.index_mut-3.ensures.value in
    let met_more = c.index_mut-3.result.now + 1 in
    let early : 0 < j = omega (arith, p.0, c.requires.spans.own j) in
    further_leaf first (length c.args.firsts.now) j i inside early taken
    (last_of order t) (slice_index t.leaves.items) (slice_index t.meetings.items) c.requires.spans.nested c.requires.spans.own st
    (λ x. slice_index (set t.last.items v j) (vertex_at order x)) (slice_index (set t.leaves.items j more))
    (ap (slice_index (set t.last.items v j)) back ∙ at_here t.last.items v j (omega arith))
    (λ x ne. at_other t.last.items v j (vertex_at order x)
    (other_vertex order place_back v (omega arith) x ne))
    (at_here t.leaves.items j more (omega arith) ∙ ap (λ v. v + 1) count) (at_other t.leaves.items j more)
    some over q start above (λ z zn le f. met.least z (omega arith) le (omega arith))
    (slice_index (set t.meetings.items q met_more))
    (at_here t.meetings.items q met_more (omega arith) ∙ ap (λ v. v + 1) met_count) (at_other t.meetings.items q met_more)
