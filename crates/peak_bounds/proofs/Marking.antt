-- The marks of one blocker, put together.
use Rattle.std.proofs.Common.{◌≡◌, ◌⊎◌, ◌↔◌, ℕ, Bool, true, List, length, sym, ap, ◌∙◌}
use Rattle.std.proofs.Common.{Result, Ok, Err}
use Rattle.std.specs.Prelude.{OnOk}
use Rattle.mp_system.specs.Replay.{is_marked}
use Rattle.shared_systems.specs.Shared.{SharedTaskSystem}
use Rattle.shared_systems.specs.Paths.{ComesAfter}
use Rattle.peak_bounds.specs.declared.step.Event.TheVariants.{Last}
use Rattle.peak_bounds.specs.declared.marks.Marks.{Marks}
use Rattle.peak_bounds.specs.Evidence.{HasRun}
use Rattle.peak_bounds.specs.Judged.{AreMarks}

pub on_ok_both : {T E P Q R : Type 0} (r : Result T E) → (P → Q → R) → OnOk r P → OnOk r Q → OnOk r R
on_ok_both (Ok x) f p q = f p q
on_ok_both (Err e) f p q = tt

pub marks_of_last : (system : SharedTaskSystem) (tasks : List ℕ) (t : ℕ) (done waiting : List Bool) (m : Marks)
    → m.done.items ≡ done → m.waiting.items ≡ waiting → length done ≡ length system.tasks → length waiting ≡ length system.tasks
    → ((v : ℕ) → (is_marked done v ≡ true) ↔ HasRun system Last tasks t v)
    → ((v : ℕ) → is_marked waiting v ≡ true → (v ≡ t) ⊎ ComesAfter system t v)
    → ((v : ℕ) → (v ≡ t) ⊎ ComesAfter system t v → is_marked waiting v ≡ true) → AreMarks system Last tasks t m
marks_of_last system tasks t done waiting m done_is waiting_is done_len waiting_len run sound all = record {
  lengths = record { done = ap (λ (l : List Bool). length l) done_is ∙ done_len; waiting = ap (λ (l : List Bool). length l) waiting_is ∙ waiting_len };
  has_run = λ v e. (run v).0 (ap (λ (l : List Bool). is_marked l v) (sym done_is) ∙ e);
  done = λ v h. ap (λ (l : List Bool). is_marked l v) done_is ∙ (run v).1 h;
  waits = λ v e. sound v (ap (λ (l : List Bool). is_marked l v) (sym waiting_is) ∙ e);
  waiting = λ v h. ap (λ (l : List Bool). is_marked l v) waiting_is ∙ all v h;
}
