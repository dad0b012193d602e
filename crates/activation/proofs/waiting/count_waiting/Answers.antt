use Rattle.std.proofs.Common.{◌≡◌, ℕ, ◌<◌, ◌∙◌, Bool, true, false, cond, not, ◌&&◌, Option, Some, None, List, length, refl, ap, sym, arith, rules}
use Rattle.std.specs.Prelude.{replicate, count_by, ◌==◌}
use Rattle.std.specs.List.{list_any}
use Rattle.std.specs.Option.{is_some}
use Rattle.std.proofs.lemmas.List.{length-replicate, with_items_is}
use Rattle.std.proofs.lemmas.List.Sums.{sum_by_more}
use Rattle.mp_system.specs.Memory.{is_done_or}
use Rattle.shared_systems.specs.Shared.{shared_item_at}
use Rattle.shared_systems.proofs.KeySums.{no_item}
use Rattle.activation.specs.Schedule.{task_entry}
use Rattle.activation.specs.Tables.{is_awaited}
use Rattle.activation.proofs.Numbers.{number_replicate}
use Rattle.activation.proofs.Readers.{count_once}
use Rattle.activation.proofs.Sizes.{kept}
use Rattle.activation.proofs.waiting.count_waiting.Goals as goal
use Rattle.activation.proofs.waiting.count_waiting.Goals.{then-is_some, else-is_some}

-- at the start a task waits for an item that it reads and that has a producer
waited : (from : Option ℕ) (reads : Bool) → is_some from ≡ true →
    ◌≡◌ {A = ℕ} (cond (reads && not (is_done_or true (λ u. false) from)) 1 0) (cond reads 1 0)
waited None reads some = absurd cc
waited (Some u) true some = refl
waited (Some u) false some = refl

there : (from : Option ℕ) (reads : Bool) → is_some from ≡ false →
    ◌≡◌ {A = ℕ} (cond (reads && not (is_done_or true (λ u. false) from)) 1 0) 0
there None true none = refl
there None false none = refl
there (Some u) reads none = absurd cc

pub loop-i-init : goal.loop-i-init
loop-i-init c =
    let e : c.in_ok-waiting.waiting.items ≡ replicate (length c.tasks.result.now) 0 = search rules in
    record {
      len = ap length e ∙ length-replicate (length c.tasks.result.now) 0 ∙ ap length c.tasks.ensures.value;
      counts = λ t. rw e (number_replicate (length c.tasks.result.now) t);
    }

pub loop-i-preserved : goal.loop-i-preserved
loop-i-preserved c =
    let items = c.items-items.result.now in
    let i = c.loop-i.i in
    let lt : i < length items = omega (arith, c.loop-i-test.true, c.len-i-end.ensures) in
    let from = (shared_item_at items i).from in
    let readers = (shared_item_at items i).readers in
    let within = kept c.args.system.now c.items-items.ensures.system items c.items-items.ensures.value i lt in
    let more = λ (t : ℕ). sum_by_more (λ x. cond (is_awaited (λ _. false) t x) 1 0) items i no_item lt in
    elim c.if-is_some.branch [
      | then-is_some w ↦
          let some : is_some from ≡ true = sym (ap is_some c.producer.ensures) ∙ sym c.is_some.ensures ∙ w.if-is_some.true in
          let old = c.loop-i.waiting in
          let now = w.add_ones.new.counts in
          let long : length now ≡ old.len = omega (arith, w.add_ones.auto.counts, w.deref_mut.ensures.len) in
          let items_are = with_items_is old now long in
          rw (w.waiting-is, items_are) (record {
            len = omega (arith, long, old.ok, c.loop-i.invariant.len);
            counts = λ t.
                let added = w.add_ones.ensures t in
                let at = ap (λ (ns : List ℕ). task_entry ns t) w.deref_mut.ensures.value in
                let read = ap (count_by (λ d. d == t)) w.readers.ensures in
                omega (
                  arith,
                  added,
                  at,
                  read,
                  c.loop-i.invariant.counts t,
                  more t,
                  count_once readers within.rising t,
                  waited from (list_any (λ d. d == t) readers) some,
                );
          })
      | else-is_some w ↦
          let none : is_some from ≡ false = sym (ap is_some c.producer.ensures) ∙ sym c.is_some.ensures ∙ w.if-is_some.false in
          rw w.waiting-is (record {
            len = c.loop-i.invariant.len;
            counts = λ t. omega (arith, c.loop-i.invariant.counts t, more t, there from (list_any (λ d. d == t) readers) none);
          })
    ]
