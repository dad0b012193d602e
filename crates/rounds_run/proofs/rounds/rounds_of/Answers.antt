use Rattle.std.proofs.Common.{get_or, take, ap, sym, subst, ◌∙◌}
use Rattle.std.proofs.lemmas.List.{take_more}
use Rattle.activation.specs.declared.events.EventKind.TheVariants.{Activate}
use Rattle.activation.specs.declared.events.Event.{Event}
use Rattle.rounds_run.specs.Rounds.{AreStarts}
use Rattle.rounds_run.proofs.Starts.{starts_other, starts_more}
use Rattle.rounds_run.proofs.rounds.rounds_of.Goals as goal
use Rattle.rounds_run.proofs.rounds.rounds_of.Goals.{then-is_start+in_ok-reach+in_ok-put, else-is_start}

pub loop-event-preserved : goal.loop-event-preserved
loop-event-preserved c =
    let none : Event = record { time = 0; kind = Activate; task = 0 } in
    let events = c.args.events.now in
    let i = c.loop-event.event-index in
    let e = get_or events i none in
    let before = take i events in
    let longer = sym (take_more events i none c.loop-event-test.true) in
    elim c.if-is_start.branch [
      | then-is_start+in_ok-reach+in_ok-put w ↦ subst (λ z. AreStarts z c.if-is_start.rounds.items) longer
          (starts_more e (sym c.is_start.ensures ∙ w.if-is_start.true) before c.loop-event.rounds.items w.reach.new.lists.items
          c.if-is_start.rounds.items c.loop-event.invariant w.in_ok-reach.ensures.len w.in_ok-reach.ensures.lists
          (ap (λ z. z.items) w.rounds-is ∙ w.in_ok-put.ensures))
      | else-is_start w ↦ subst (λ z. AreStarts z c.if-is_start.rounds.items) longer
          (starts_other e (sym c.is_start.ensures ∙ w.if-is_start.false) before c.if-is_start.rounds.items
          (subst (λ z. AreStarts before z.items) (sym w.rounds-is) c.loop-event.invariant))
    ]
