use Rattle.std.proofs.Common.{◌≡◌, ℕ, ◌+◌, ◌-◌, length, drop, ap, sym, subst, ◌∙◌, arith}
use Rattle.patterns.specs.Pattern.{is_joined}
use Rattle.ordering.specs.Fill.{renumbered, parents_of, counts_of}
use Rattle.assembly_tree.specs.Assembly.{IsSuper}
use Rattle.assembly_tree.specs.Supernodes.{AreSupernodes, first_of}
use Rattle.rounds_run.specs.FrontRows.{rows_of_front, list_of_front}
use Rattle.rounds_run.proofs.RowLists.{Laws}
use Rattle.rounds_run.proofs.RowTrees.{supers_few, parents_within}
use Rattle.rounds_run.proofs.SuperRows.{rows_from}
use Rattle.rounds_run.proofs.running.run_fronts.Goals as goal
use Rattle.rounds_run.proofs.running.run_fronts.Goals.{After-of}

pub run_rounds-requires-clause-supers : goal.run_rounds-requires-clause-supers
run_rounds-requires-clause-supers g c = λ κs lives.
    let joined = renumbered (is_joined c.args.pattern.now) c.args.numbered.now.perm in
    let n = length c.args.numbered.now.perm in
    let own : AreSupernodes (parents_of joined n) (counts_of joined n) c.args.assembly.now =
    subst (λ z. AreSupernodes z (counts_of joined n) c.args.assembly.now) c.requires.tree c.requires.supernodes in
    record {
      pattern = c.renumbered_pattern.ensures.pattern c.args.pattern.now c.args.numbered.now.perm c.keeps.ensures;
      inside = c.renumbered_pattern.ensures.within c.args.pattern.now c.args.numbered.now.perm c.keeps.ensures;
      nodes = c.args.assembly.now.nodes;
      supernodes =
          subst (λ z. AreSupernodes (parents_of joined n) (counts_of joined n) (record { supers = z; nodes = c.args.assembly.now.nodes }))
          (sym c.supers.ensures.value) own;
    }

pub run_rounds-requires-clause-parents : goal.run_rounds-requires-clause-parents
run_rounds-requires-clause-parents g c = λ κs lives.
    parents_within c.args.assembly.now c.supers.ensures.assembly c.supers.result.now c.supers.ensures.value

pub of-requires : goal.of-requires
of-requires g c =
    let few = supers_few c.args.assembly.now c.supers.ensures.assembly in
    (omega (arith, few, ap length c.supers.ensures.value, c.in_ok-rows.ensures.len), c.in_ok-plan.ensures.few)

rows_are : (g : _) (c : After-of g) (s : ℕ) → IsSuper c.args.assembly.now.supers s → list_of_front c.of.result.rows s
    ≡ rows_of_front (renumbered (is_joined c.args.pattern.now) c.args.numbered.now.perm) (length c.args.numbered.now.perm)
    (first_of c.args.assembly.now.supers s)
rows_are g c s super =
    let joined = renumbered (is_joined c.args.pattern.now) c.args.numbered.now.perm in
    let n = length c.args.numbered.now.perm in
    let here : IsSuper c.supers.result.now s = subst (λ z. IsSuper z s) (sym c.supers.ensures.value) super in
    ap (λ z. list_of_front z.rows s) c.of.ensures ∙ c.in_ok-rows.ensures.rows s here
    ∙ ap (λ z. rows_of_front joined n (first_of z s)) c.supers.ensures.value

pub returns-clause-rows : goal.returns-clause-rows
returns-clause-rows g c = rows_are g (goal.at.returns-clause-rows g c).After-of

pub returns-clause-columns : goal.returns-clause-columns
returns-clause-columns g c = λ s j super low high.
    let before = (goal.at.returns-clause-columns g c).After-of in
    let joined = renumbered (is_joined c.args.pattern.now) c.args.numbered.now.perm in
    let n = length c.args.numbered.now.perm in
    let pattern = c.renumbered_pattern.ensures.pattern c.args.pattern.now c.args.numbered.now.perm c.keeps.ensures in
    let inside = c.renumbered_pattern.ensures.within c.args.pattern.now c.args.numbered.now.perm c.keeps.ensures in
    let laws : Laws joined n = record {
      pattern = pattern;
      inside = inside;
      later = c.no_earlier_row.ensures joined;
      children = λ j i vertex. c.structure_by_children.ensures joined n j i pattern inside vertex;
      paths = λ j i lt. c.path_theorem.ensures joined j i pattern lt;
    } in
    let own : AreSupernodes (parents_of joined n) (counts_of joined n) c.args.assembly.now =
    subst (λ z. AreSupernodes z (counts_of joined n) c.args.assembly.now) c.requires.tree c.requires.supernodes in
    let supers = c.args.assembly.now.supers in
    let k = j - first_of supers s in
    let at : first_of supers s + k ≡ j = omega (arith, low) in
    ap (rows_of_front joined n) (sym at) ∙ rows_from joined n laws supers c.args.assembly.now.nodes own s k super (omega (arith, at, high))
    ∙ ap (drop k) (sym (rows_are g before s super))
