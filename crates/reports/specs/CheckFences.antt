-- `check` of fences: whether their amounts certify the bound; and what a yes says, whoever made the fences.
use Rattle.std.specs.Prelude.{◌≡◌, ◌⊎◌, ℕ, List, [], ◌∷◌, ◌++◌, codes, decimal}
use Rattle.mp_text.specs.Report.{line_text}
use Rattle.shared_systems.specs.Shared.{SharedTaskSystem}
use Rattle.fences.specs.declared.judged.AmountTest.{AmountTest}
use Rattle.fences.specs.declared.judged.AmountTest.TheVariants as amounts
use Rattle.fences.specs.declared.fenced.FenceTest.{FenceTest}
use Rattle.fences.specs.declared.fenced.FenceTest.TheVariants as tests
use Rattle.fences.specs.declared.fenced.FencesRefusal.{FencesRefusal}
use Rattle.fences.specs.declared.fenced.FencesRefusal.TheVariants as fences
use Rattle.fences.specs.declared.certificate.CertificateRefusal.{CertificateRefusal}
use Rattle.fences.specs.declared.certificate.CertificateRefusal.TheVariants as refusals
use Rattle.fences.specs.SharedRuns.{GoesOn, KeepsBound}
use Rattle.fences.specs.Certificates.{Certificate, Certifies, IsCertificateRefusal}
use Rattle.requests.specs.Request.{TaskSource}
use Rattle.judging.specs.declared.status.Status.TheVariants as status
use Rattle.judging.specs.Files.{Answer, IsFencesFile, IsTaskSystemOf}

-- the word for a test of a fence, and of an amount
abbrev pub fence_word : FenceTest → List ℕ
fence_word tests.Tasks = codes "tasks"
fence_word tests.Apart = codes "apart"

abbrev pub amount_word : AmountTest → List ℕ
amount_word amounts.Size = codes "size"
amount_word amounts.Limit = codes "limit"

-- `no fences many`, `no fence PLACE TEST`, `no item PLACE own`, `no fences cycle TASK`, `no amounts count`, `no amount PLACE TEST`,
-- `no amounts total` or `no bound CERTIFIED`
abbrev pub fences_line : FencesRefusal → List (List ℕ)
fences_line fences.ManyFences = codes "no" ∷ codes "fences" ∷ codes "many" ∷ []
fences_line (fences.Fence test place) = codes "no" ∷ codes "fence" ∷ decimal place ∷ fence_word test ∷ []
fences_line (fences.OwnInput place) = codes "no" ∷ codes "item" ∷ decimal place ∷ codes "own" ∷ []
fences_line (fences.Cycle task) = codes "no" ∷ codes "fences" ∷ codes "cycle" ∷ decimal task ∷ []
fences_line fences.Length = codes "no" ∷ codes "amounts" ∷ codes "count" ∷ []
fences_line (fences.Item test place) = codes "no" ∷ codes "amount" ∷ decimal place ∷ amount_word test ∷ []
fences_line fences.Total = codes "no" ∷ codes "amounts" ∷ codes "total" ∷ []
fences_line (fences.Bound certified) = codes "no" ∷ codes "bound" ∷ decimal certified ∷ []
fences_line fences.NoMemory = []

-- `no joins many`, `no joins items`, `no workers room`, `no fence PLACE join`, or what is said of the fences and amounts
abbrev pub refusal_line : CertificateRefusal → List (List ℕ)
refusal_line refusals.ManyJoins = codes "no" ∷ codes "joins" ∷ codes "many" ∷ []
refusal_line refusals.Joins = codes "no" ∷ codes "joins" ∷ codes "items" ∷ []
refusal_line refusals.Reserve = codes "no" ∷ codes "workers" ∷ codes "room" ∷ []
refusal_line (refusals.JoinWaits place) = codes "no" ∷ codes "fence" ∷ decimal place ∷ codes "join" ∷ []
refusal_line (refusals.Fences refusal) = fences_line refusal
refusal_line refusals.NoMemory = []

-- want of memory is told in another way
abbrev pub IsOfFences : FencesRefusal → Type 0
IsOfFences fences.NoMemory = ⊥
IsOfFences refusal = Unit {0}

abbrev pub IsObjection : CertificateRefusal → Type 0
IsObjection (refusals.Fences refusal) = IsOfFences refusal
IsObjection refusals.NoMemory = ⊥
IsObjection refusal = Unit {0}

-- `yes BOUND`
abbrev pub kept_answer : ℕ → Answer
kept_answer bound = record { status = status.Done; text = line_text (codes "yes" ∷ decimal bound ∷ []) }

abbrev pub objection_answer : CertificateRefusal → Answer
objection_answer refusal = record { status = status.No; text = line_text (refusal_line refusal) }

-- the amounts certify the bound, or the first thing that is to be said against them is told
abbrev pub IsFenceCheck : SharedTaskSystem → Certificate → Answer → Type 0
IsFenceCheck system certificate answer =
    (Certifies system certificate × (answer ≡ kept_answer certificate.bound))
    ⊎ ((refusal : CertificateRefusal) × IsObjection refusal × IsCertificateRefusal system certificate refusal
    × (answer ≡ objection_answer refusal))

-- the texts are those of the tasks' files and of the fences
abbrev pub IsFenceCheckOf : TaskSource → List (List ℕ) → Answer → Type 0
IsFenceCheckOf tasks texts answer =
    (mine : List (List ℕ)) × (text : List ℕ) × (system : SharedTaskSystem) × (certificate : Certificate)
    × (texts ≡ mine ++ text ∷ []) × IsTaskSystemOf tasks mine system × IsFencesFile text certificate
    × IsFenceCheck system certificate answer

-- along every parallel run that keeps to the fences, on as many workers as the file says, memory stays within the bound that it states and that
-- was printed, and no such run comes to a stop before all tasks are done
pub record AreFencesCertified (tasks : TaskSource) (texts : List (List ℕ)) (printed : List ℕ) : Type 0 where
  pub mine : List (List ℕ)
  pub text : List ℕ
  pub texts_are : texts ≡ mine ++ text ∷ []
  pub system : SharedTaskSystem
  pub is_system : IsTaskSystemOf tasks mine system
  pub certificate : Certificate
  pub is_fences : IsFencesFile text certificate
  pub certifies : Certifies system certificate
  pub keeps_bound : KeepsBound system certificate.fences certificate.workers certificate.bound
  pub goes_on : GoesOn system certificate.fences
  pub printed_is : printed ≡ (kept_answer certificate.bound).text
