use Rattle.std.proofs.Common.{◌≡◌, ℕ, ◌+◌, ◌-◌, ◌<◌, inl, inr, List, [], length, get_or, set, take, ap, sym, subst, ◌∙◌, arith}
use Rattle.std.proofs.lemmas.Bool.{cases_eq}
use Rattle.std.proofs.lemmas.List.{length-set, length_push, get_or_append_left, get_or_push, take_all}
use Rattle.assembly_tree.specs.Assembly.{IsSuper, super_at}
use Rattle.assembly_tree.specs.Supernodes.{first_of}
use Rattle.rounds_run.specs.declared.front.Job.{Job}
use Rattle.rounds_run.specs.Holding.{Factor, IsFactor, IsHeld, IsJobOf, or_in}
use Rattle.patterns.proofs.NumberLists.{has_at}
use Rattle.rounds_run.proofs.HeldLemmas.{held_taken}
use Rattle.rounds_run.proofs.JobLemmas.{or_in_more, not_taken, job_is}
use Rattle.rounds_run.proofs.RowLists.{Laws}
use Rattle.rounds_run.proofs.held.Held.jobs.Goals as goal
use Rattle.rounds_run.proofs.held.Held.jobs.Goals.{In_ok-push}

pub overflow_sub-at : goal.overflow_sub-at
overflow_sub-at c =
    (c.requires.within (get_or c.args.round.now c.loop-place.place 0)
    (has_at c.args.round.now c.loop-place.place c.loop-place-test.true)).0

pub take_lists-children-requires : goal.take_lists-children-requires
take_lists-children-requires c =
    let node = c.requires.within (get_or c.args.round.now c.loop-place.place 0)
    (has_at c.args.round.now c.loop-place.place c.loop-place-test.true) in
    (node.0, omega (arith, node.1, c.loop-place.invariant.long))

pub bounds-firsts-at : goal.bounds-firsts-at
bounds-firsts-at c =
    let node = c.requires.within (get_or c.args.round.now c.loop-place.place 0)
    (has_at c.args.round.now c.loop-place.place c.loop-place-test.true) in
    omega (arith, node.0, node.1, c.requires.firsts.long)

pub bounds-supers-at : goal.bounds-supers-at
bounds-supers-at c =
    let node = c.requires.within (get_or c.args.round.now c.loop-place.place 0)
    (has_at c.args.round.now c.loop-place.place c.loop-place-test.true) in
    omega (arith, node.0, node.1)

node_of : (c : In_ok-push) → IsSuper c.args.supers.now (get_or c.args.round.now c.loop-place.place 0)
node_of c =
    c.requires.within (get_or c.args.round.now c.loop-place.place 0)
    (has_at c.args.round.now c.loop-place.place c.loop-place-test.true)

laws_of : (c : In_ok-push) (f : Factor) → IsFactor f → Laws f.joined f.order
laws_of c f is = record {
  pattern = is.pattern;
  inside = is.inside;
  later = c.no_earlier_row.ensures f.joined;
  children = λ j i vertex. c.structure_by_children.ensures f.joined f.order j i is.pattern is.inside vertex;
  paths = λ j i lt. c.path_theorem.ensures f.joined j i is.pattern lt;
}

pub loop-place-preserved : goal.loop-place-preserved
loop-place-preserved c =
    let before = (goal.at.loop-place-preserved c).In_ok-push in
    let round = c.args.round.now in
    let place = c.loop-place.place in
    let node = get_or round place 0 in
    let old = c.loop-place.self in
    let new = c.take_lists-children.new.self in
    let super = node_of before in
    let there = has_at round place c.loop-place-test.true in
    let rows : new.rows ≡ old.rows = c.take_lists-children.ensures.rows in
    let inboxes : new.inboxes.items ≡ set old.inboxes.items (node - 1) [] = c.take_lists-children.ensures.inboxes in
    record {
      long = ap (λ (z : List (List (List ℕ))). length z) inboxes ∙ length-set old.inboxes.items (node - 1) [] ∙ c.loop-place.invariant.long;
      count = ap (λ (z : List Job). length z) c.in_ok-push.ensures.items ∙ length_push c.loop-place.jobs.items _
          ∙ ap (λ (n : ℕ). n + 1) c.loop-place.invariant.count;
      held = λ f ran supers is.
          held_taken f (or_in ran (take place round)) ran (or_in ran (take (place + 1) round)) node old new super.0 rows inboxes
          (λ t. or_in_more ran round place t c.loop-place-test.true) (c.loop-place.invariant.held f ran supers is);
      made = λ f ran factor supers due is i d lt. elim (cases_eq i place) [
        | inl e ↦ subst (λ z. IsJobOf f (get_or round z 0) (get_or c.push.new.self.items z d)) (sym e) (
            let own : IsSuper f.supers node = subst (λ z. IsSuper z node) (sym supers) super in
            let at = ap (λ (z : List Job). get_or z place d) c.in_ok-push.ensures.items
            ∙ get_or_push c.loop-place.jobs.items _ d place c.loop-place.invariant.count in
            subst (IsJobOf f node) (sym at)
            (job_is f factor (laws_of before f factor) (λ j. c.parent_is_first.ensures.parent f.joined f.order j)
            (or_in ran (take place round)) ran old node _ (c.loop-place.invariant.held f ran supers is) own
            (not_taken f.supers ran round place due c.loop-place-test.true there)
            (λ t child up. due.children node t there child up)
            (c.requires.firsts.each node super ∙ ap (λ z. first_of z node) (sym supers))
            (ap (λ z. (super_at z node).columns) (sym supers))
            c.take_lists-children.ensures.lists)
            )
        | inr ne ↦ (
            let old_jobs = c.loop-place.jobs.items in
            let lt_jobs : i < length old_jobs = omega (arith, lt, ne, c.loop-place.invariant.count) in
            let same = ap (λ (z : List Job). get_or z i d) c.in_ok-push.ensures.items ∙ get_or_append_left old_jobs _ d i lt_jobs in
            subst (IsJobOf f (get_or round i 0)) (sym same)
            (c.loop-place.invariant.made f ran factor supers due is i d (omega (arith, lt, ne)))
            )
      ];
    }

pub returns-clause-jobs : goal.returns-clause-jobs
returns-clause-jobs c = λ f ran factor supers due is.
    let end : c.loop-place.place ≡ length c.args.round.now = omega (arith, c.loop-place-test.false, c.loop-place.auto.place-end) in (
      c.loop-place.invariant.count ∙ end,
      λ i d lt. c.loop-place.invariant.made f ran factor supers due is i d (omega arith),
    )

pub returns-clause-held : goal.returns-clause-held
returns-clause-held c = λ f ran supers is.
    let end : take c.loop-place.place c.args.round.now ≡ c.args.round.now =
    take_all c.loop-place.place c.args.round.now c.loop-place-test.false in
    subst (λ z. IsHeld f (or_in ran z) ran c.loop-place.self) end (c.loop-place.invariant.held f ran supers is)
