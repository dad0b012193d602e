-- What fences that were made, or accepted, promise of the runs that keep to them.
use Rattle.std.proofs.Common.{◌≡◌, ◌∙◌, ◌≤◌, ℕ, List, Option, Some, None, IfSome, sym, ap, subst, inl, inr}
use Rattle.shared_systems.specs.Shared.{SharedTaskSystem}
use Rattle.shared_systems.specs.Bounds.{IsSharedSystem}
use Rattle.shared_systems.specs.SharedMemory.{shared_peak_of}
use Rattle.shared_systems.specs.SharedTraversal.{IsSharedTraversal}
use Rattle.fences.specs.declared.certificate.Workers.{Workers}
use Rattle.fences.specs.SharedRuns.{GoesOn, KeepsBound}
use Rattle.fences.specs.Certificates.{Certificate, Certifies}
use Rattle.fence_files.specs.FenceFile.{ReadsFences}
use Rattle.fence_files.specs.Printed.{AreCounted, IsPrintable, IsWord, fences_text}
use Rattle.fencing.specs.Asked.{IsFor}
use Rattle.requests.specs.Request.{AreWorkers, TaskSource, OrderSource, Fencing}
use Rattle.judging.specs.Files.{Answer, IsTaskSystemOf}
use Rattle.judging.specs.declared.status.Status.TheVariants.{Done}
use Rattle.reports.specs.Fence.{IsFenceAnswer, IsFenceAnswerOf, IsFencedIn, fences_answer}
use Rattle.reports.specs.CheckFences.{AreFencesCertified, IsFenceCheckOf}

-- ---- what is printed

pub counted : (asked : Option ℕ) (told : Workers) → IfSome asked AreWorkers → IsFor asked told → AreCounted told
counted None told range is = subst AreCounted (sym is) tt
counted (Some n) told range (room, is) = subst AreCounted (sym is) range

pub fence_told :
    ((system : SharedTaskSystem) (c : Certificate) → IsSharedSystem system → Certifies system c → IsWord c.bound → AreCounted c.workers
    → IsPrintable c)
    → ((c : Certificate) → IsPrintable c → ReadsFences (fences_text c) c)
    → (system : SharedTaskSystem) (order : List ℕ) (f : Fencing) (c : Certificate) (answer : Answer)
    → IsSharedSystem system → IsWord f.bound → IfSome f.workers AreWorkers
    → IsSharedTraversal system order × (shared_peak_of system order ≤ f.bound) → Certifies system c
    → (c.bound ≡ f.bound) × IsFor f.workers c.workers → answer ≡ fences_answer c → IsFenceAnswer system order f answer
fence_told printable reads system order f c answer within word range along certifies asked e =
    let fits = printable system c within certifies (subst IsWord (sym asked.0) word) (counted f.workers c.workers range asked.1) in
    inr (inr (inr (
      c,
      along.0,
      along.1,
      certifies,
      record { bound = asked.0; workers = asked.1 },
      reads c fits,
      e,
    )))

-- ---- what is promised

module _
    (shared : (tasks : TaskSource) (texts : List (List ℕ)) (system : SharedTaskSystem) → IsTaskSystemOf tasks texts system → IsSharedSystem system)
    (keeps : (system : SharedTaskSystem) (c : Certificate) → IsSharedSystem system → Certifies system c
    → KeepsBound system c.fences c.workers c.bound)
    (goes : (system : SharedTaskSystem) (c : Certificate) → IsSharedSystem system → Certifies system c → GoesOn system c.fences) where
  pub fences_certified : (tasks : TaskSource) (texts : List (List ℕ)) (answer : Answer)
      → IsFenceCheckOf tasks texts answer → answer.status ≡ Done → AreFencesCertified tasks texts answer.text
  fences_certified tasks texts answer (mine, text, system, c, split, is, is_fences, inl (certifies, e)) done =
      let within = shared tasks mine system is in
      record {
        mine = mine;
        text = text;
        texts_are = split;
        system = system;
        is_system = is;
        certificate = c;
        is_fences = is_fences;
        certifies = certifies;
        keeps_bound = keeps system c within certifies;
        goes_on = goes system c within certifies;
        printed_is = ap (λ (a : Answer). a.text) e;
      }
  fences_certified tasks texts answer (mine, text, system, c, split, is, is_fences, inr (refusal, told, against, e)) done =
      absurd (cc (sym (ap (λ (a : Answer). a.status) e) ∙ done))

  pub fenced : (tasks : TaskSource) (source : OrderSource) (f : Fencing) (texts : List (List ℕ)) (answer : Answer)
      → IsFenceAnswerOf tasks source f texts answer → answer.status ≡ Done → IsFencedIn tasks source f texts answer.text
  fenced tasks source f texts answer (mine, text, system, order, split, is, is_order, inl (place, kind, fault, e)) done =
      absurd (cc (sym (ap (λ (a : Answer). a.status) e) ∙ done))
  fenced tasks source f texts answer (mine, text, system, order, split, is, is_order, inr (inl (traversal, below, e))) done =
      absurd (cc (sym (ap (λ (a : Answer). a.status) e) ∙ done))
  fenced tasks source f texts answer (mine, text, system, order, split, is, is_order, inr (inr (inl (traversal, within, crowded, e)))) done =
      absurd (cc (sym (ap (λ (a : Answer). a.status) e) ∙ done))
  fenced tasks source f texts answer
      (mine, text, system, order, split, is, is_order, inr (inr (inr (c, traversal, within, certifies, asked, reads, e)))) done =
      let kept = keeps system c (shared tasks mine system is) certifies in
      record {
        mine = mine;
        text = text;
        texts_are = split;
        system = system;
        is_system = is;
        order = order;
        is_order = is_order;
        traversal = traversal;
        peak_within = within;
        certificate = c;
        asked = asked;
        certifies = certifies;
        keeps_bound = subst (KeepsBound system c.fences c.workers) asked.bound kept;
        goes_on = goes system c (shared tasks mine system is) certifies;
        reads = subst (λ (printed : List ℕ). ReadsFences printed c) (sym (ap (λ (a : Answer). a.text) e)) reads;
      }
