-- The words of the contract of the top call.
use Rattle.std.specs.Prelude.{◌≡◌, ℕ, ◌<◌, List, length, take, Option}
use Rattle.mp_outside.specs.Outside.{Appended}
use Rattle.requests.specs.Request.{Request, files_of}
use Rattle.reports.specs.Reports.{IsAnswer}
use Rattle.judging.specs.Files.{Answer}
use Rattle.judging.specs.declared.status.Status.{Status}
use Rattle.judging.specs.declared.status.Status.TheVariants as status
use Rattle.judging.specs.Told.{AreTold}

-- the statuses that come with a text
abbrev pub HasText : Status → Type 0
HasText status.Done = Unit {0}
HasText status.No = Unit {0}
HasText status.Usage = ⊥
HasText status.Format = Unit {0}
HasText status.Limit = Unit {0}
HasText status.Bound = Unit {0}
HasText status.ReadFault = ⊥
HasText status.WriteFault = ⊥
HasText status.NoMemory = ⊥
HasText status.NotSeriesParallel = Unit {0}
HasText status.WorkingSet = Unit {0}

-- where all files of the request tell their texts, P holds of an answer over them
abbrev pub SomeAnswer : (List ℕ → Option (List ℕ)) → Request → (Answer → Type 0) → Type 0
SomeAnswer told request P =
    (texts : List (List ℕ)) → AreTold told (files_of request) texts → (answer : Answer) × IsAnswer request texts answer × P answer

-- the status and the bytes that were appended are an answer
abbrev pub IsAnswered : (List ℕ → Option (List ℕ)) → Request → Status → Option (List ℕ) → Option (List ℕ) → Type 0
IsAnswered told request ended before after = SomeAnswer told request (λ answer. (answer.status ≡ ended) × Appended before after answer.text)

-- a proper prefix of the text of an answer was appended
abbrev pub IsCutShort : (List ℕ → Option (List ℕ)) → Request → Option (List ℕ) → Option (List ℕ) → Type 0
IsCutShort told request before after =
    SomeAnswer told request (λ answer. (n : ℕ) × (n < length answer.text) × Appended before after (take n answer.text))
