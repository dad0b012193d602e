use Rattle.std.proofs.Common.{Bool, List, length, sym, ap, subst, ◌∙◌}
use Rattle.std.specs.Vec.{with_items}
use Rattle.std.proofs.lemmas.List.{with_items_is}
use Rattle.peak_bounds.specs.declared.step.Event.{Event}
use Rattle.peak_bounds.specs.declared.marks.Marks.{Marks}
use Rattle.peak_bounds.specs.Judged.{AreSetMarks, AreMarks}
use Rattle.peak_bounds.proofs.Marking.{on_ok_both, marks_of_last}
use Rattle.peak_bounds.proofs.marks.Marks.mark.Goals as goal

pub returns-in-Last : goal.returns-in-Last
returns-in-Last c =
    let system = c.args.system.now in
    let self = c.args.self.now in
    let done = c.mark_others.new.marks in
    let waiting = c.mark_from.new.marks in
    let m : Marks = record { done = with_items self.done done; waiting = with_items self.waiting waiting; work = c.mark_from.new.work } in
    let done_len = c.mark_others.auto.marks ∙ ap (λ (l : List Bool). length l) c.deref_mut-in-Last.ensures.value in
    let waiting_len = c.mark_from.auto.marks ∙ ap (λ (l : List Bool). length l) c.deref_mut-in-Last-2.ensures.value in
    on_ok_both c.mark_from.result (λ sound all tasks are.
    subst (λ (e : Event). AreMarks system e tasks c.args.task m) (sym c.in-Last.is)
    (marks_of_last system tasks c.args.task done waiting m
    (with_items_is self.done done (done_len ∙ sym self.done.ok.0)) (with_items_is self.waiting waiting (waiting_len ∙ sym self.waiting.ok.0))
    (done_len ∙ c.requires.lengths.done) (waiting_len ∙ c.requires.lengths.waiting)
    (c.mark_others.ensures system tasks (subst (λ (e : Event). AreSetMarks system e tasks c.args.set.now) c.in-Last.is are)) sound all))
    c.mark_from.ensures.sound c.mark_from.ensures.all
