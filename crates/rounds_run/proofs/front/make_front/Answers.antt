use Rattle.std.proofs.Common.{◌≡◌, ℕ, eqb, List, length, drop, ap, ◌∙◌, arith}
use Rattle.std.proofs.lemmas.List.Filters.{dedup_is}
use Rattle.patterns.specs.Pattern.{is_joined, neighbours_of}
use Rattle.permutations.specs.Perm.{vertex_at}
use Rattle.ordering.specs.Fill.{renumbered}
use Rattle.rounds_run.specs.FrontRows.{rows_of_front}
use Rattle.rounds_run.specs.Gathering.{is_gathered}
use Rattle.rounds_run.proofs.Gathered.{IsOrdered, gathered_rows}
use Rattle.rounds_run.proofs.RowLists.{Laws, rows_long}
use Rattle.rounds_run.proofs.front.make_front.Goals as goal
use Rattle.rounds_run.proofs.front.make_front.Goals.{After-deref}

laws_of : (c : After-deref) → Laws (renumbered (is_joined c.args.pattern.now) c.args.perm.now) (length c.args.perm.now)
laws_of c =
    let joined = renumbered (is_joined c.args.pattern.now) c.args.perm.now in
    let n = length c.args.perm.now in
    let pattern = c.renumbered_pattern.ensures.pattern c.args.pattern.now c.args.perm.now c.keeps.ensures in
    let inside = c.renumbered_pattern.ensures.within c.args.pattern.now c.args.perm.now c.keeps.ensures in
    record {
      pattern = pattern;
      inside = inside;
      later = c.no_earlier_row.ensures joined;
      children = λ j i vertex. c.structure_by_children.ensures joined n j i pattern inside vertex;
      paths = λ j i lt. c.path_theorem.ensures joined j i pattern lt;
    }

rows_are : (c : After-deref) → c.dedup.new.self.items
    ≡ rows_of_front (renumbered (is_joined c.args.pattern.now) c.args.perm.now) (length c.args.perm.now) c.args.job.now.first
rows_are c =
    let rows = c.args.pattern.now in
    let order = c.args.perm.now in
    let ordered : IsOrdered rows order = record {
      pattern = c.keeps.ensures;
      long = c.requires.perm;
      vertex = c.places_are_inverse.ensures.vertex (length order) order c.keeps-2.ensures;
      place = c.places_are_inverse.ensures.place (length order) order c.keeps-2.ensures;
    } in
    dedup_is eqb c.sort_unstable.new.self.items c.dedup.new.self.items c.dedup.ensures.filtered
    ∙ gathered_rows rows order ordered (laws_of c) c.args.job.now.first c.requires.job.first c.args.job.now.children c.requires.job.children
    c.in_ok-rows.rows.items c.sort_unstable.new.self.items
    (λ x. c.in_ok-rows.ensures x
    ∙ ap (λ z. is_gathered order (neighbours_of rows (vertex_at order c.args.job.now.first)) z c.args.job.now.first x) c.as_slice.ensures)
    c.sort_unstable.ensures.permutation c.sort_unstable.ensures.sorted

pub rest_of-requires : goal.rest_of-requires
rest_of-requires c =
    let joined = renumbered (is_joined c.args.pattern.now) c.args.perm.now in
    let n = length c.args.perm.now in
    let before = (goal.at.rest_of-requires c).After-deref in
    let long = ap (λ (z : List ℕ). length z) (c.deref.ensures.value ∙ rows_are before) in
    omega (arith, long, rows_long joined n (laws_of before) c.args.job.now.first, c.requires.job.columns)

pub returns : goal.returns
returns c =
    let before = (goal.at.returns c).After-deref in
    record {
      rows = c.new.ensures ∙ rows_are before;
      rest = c.new-2.ensures ∙ c.in_ok-rest.ensures ∙ ap (drop c.args.job.now.columns) (c.deref.ensures.value ∙ rows_are before);
    }
