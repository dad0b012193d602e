use Rattle.std.proofs.Common.{◌≡◌, ◌||◌, ℕ, ◌+◌, ◌-◌, ◌<◌, ◌≤◌, [], ◌∷◌, ◌++◌, length, get_or}
use Rattle.std.proofs.Common.{set, drop, cond, eqb, ap, sym, subst, ◌∙◌, arith}
use Rattle.std.proofs.lemmas.List.{length_push, length-set}
use Rattle.assembly_tree.specs.Assembly.{IsSuper, no_super, super_at}
use Rattle.rounds_run.specs.Holding.{IsHeld, IsMadeOf, or_in}
use Rattle.rounds_run.proofs.HeldLemmas.{held_made}
use Rattle.rounds_run.proofs.JobLemmas.{or_in_before}
use Rattle.patterns.proofs.NumberLists.{has_at}
use Rattle.rounds_run.proofs.RunLemmas.{popped, popped_at, cond_long}
use Rattle.rounds_run.proofs.held.Held.keep_all.Goals as goal

pub overflow_sub-parent : goal.overflow_sub-parent
overflow_sub-parent c =
    let at : c.len.result ≡ length c.pop.new.self.items = c.len.ensures ∙ c.pop.new.self.ok.0 in
    let more = ap length c.in-Some.ensures.items ∙ length_push c.pop.new.self.items c.in-Some.next in
    let lt : c.len.result < length c.args.round.now = omega (arith, at, more, c.loop-next.invariant.few) in
    (c.requires.within (get_or c.args.round.now c.len.result 0) (has_at c.args.round.now c.len.result lt)).0

pub bounds-supers-node : goal.bounds-supers-node
bounds-supers-node c =
    let at : c.len.result ≡ length c.pop.new.self.items = c.len.ensures ∙ c.pop.new.self.ok.0 in
    let more = ap length c.in-Some.ensures.items ∙ length_push c.pop.new.self.items c.in-Some.next in
    let lt : c.len.result < length c.args.round.now = omega (arith, at, more, c.loop-next.invariant.few) in
    let node = c.requires.within (get_or c.args.round.now c.len.result 0) (has_at c.args.round.now c.len.result lt) in
    omega (arith, node.0, node.1)

pub keep-requires-clause-node : goal.keep-requires-clause-node
keep-requires-clause-node c =
    let at : c.len.result ≡ length c.pop.new.self.items = c.len.ensures ∙ c.pop.new.self.ok.0 in
    let more = ap length c.in-Some.ensures.items ∙ length_push c.pop.new.self.items c.in-Some.next in
    let lt : c.len.result < length c.args.round.now = omega (arith, at, more, c.loop-next.invariant.few) in
    let node = c.requires.within (get_or c.args.round.now c.len.result 0) (has_at c.args.round.now c.len.result lt) in
    (node.0, omega (arith, node.1, c.loop-next.invariant.rows))

pub loop-next-preserved : goal.loop-next-preserved
loop-next-preserved c =
    let made = c.args.made.items in
    let round = c.args.round.now in
    let rest = c.pop.new.self.items in
    let left = c.loop-next.left.items in
    let k = c.len.result in
    let at : k ≡ length rest = c.len.ensures ∙ c.pop.new.self.ok.0 in
    let more : length left ≡ length rest + 1 = ap length c.in-Some.ensures.items ∙ length_push rest c.in-Some.next in
    let few = c.loop-next.invariant.few in
    let lt : k < length round = omega (arith, at, more, few) in
    let s = get_or round k 0 in
    let node = c.requires.within s (has_at round k lt) in
    let old = c.loop-next.self in
    let new = c.keep.new.self in
    let rows = c.in_ok-keep.ensures.rows in
    let inboxes = c.in_ok-keep.ensures.inboxes in
    record {
      rows = ap length rows ∙ length-set old.rows.items (s - 1) c.in-Some.next.rows ∙ c.loop-next.invariant.rows;
      inboxes = ap length inboxes ∙ cond_long (eqb (super_at c.args.supers.now s).parent 0) old.inboxes.items
          ((super_at c.args.supers.now s).parent - 1) _ ∙ c.loop-next.invariant.inboxes;
      few = omega (arith, more, few);
      are = popped made left rest c.in-Some.next c.in-Some.ensures.items c.loop-next.invariant.are;
      held = λ f ran supers_is made_is is.
          let own : IsSuper f.supers s = subst (λ z. IsSuper z s) (sym supers_is) node in
          let before = c.loop-next.invariant.held f ran supers_is made_is is in
          let told : get_or made k c.in-Some.next ≡ c.in-Some.next =
          ap (λ (i : ℕ). get_or made i c.in-Some.next) at
          ∙ popped_at made left rest c.in-Some.next c.in-Some.ensures.items c.loop-next.invariant.are in
          let is_made : IsMadeOf f s c.in-Some.next = subst (IsMadeOf f s) told (made_is.1 k c.in-Some.next lt) in
          let inside : (super_at f.supers s).parent ≤ length f.supers =
          subst (λ z. (super_at z s).parent ≤ length z) (sym supers_is)
          (c.requires.parents (s - 1) no_super (omega (arith, node.0, node.1))) in
          let next : k + 1 ≡ length left = omega (arith, at, more) in
          let now = held_made f (or_in ran round) (or_in ran (drop (length left) round)) (or_in ran (drop k round)) s c.in-Some.next
          old new own inside rows
          (subst (λ z. new.inboxes.items ≡ cond (eqb (super_at z s).parent 0) old.inboxes.items
          (set old.inboxes.items ((super_at z s).parent - 1)
          (get_or old.inboxes.items ((super_at z s).parent - 1) [] ++ c.in-Some.next.rest ∷ []))) (sym supers_is) inboxes)
          is_made
          (λ t. or_in_before ran round k t lt ∙ ap (λ (n : ℕ). or_in ran (drop n round) t || eqb s t) next) before in
          subst (λ z. IsHeld f (or_in ran round) (or_in ran (drop z round)) new) at now;
    }

pub returns : goal.returns
returns c = λ f ran supers made is.
    let round = c.args.round.now in
    let none : length c.loop-next.left.items ≡ 0 = sym c.loop-next.left.ok.0 ∙ c.in_default.ensures.cases.0 in
    subst (λ z. IsHeld f (or_in ran round) (or_in ran (drop z round)) c.loop-next.self) none
    (c.loop-next.invariant.held f ran supers made is)
