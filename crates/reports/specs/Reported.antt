-- No public clause names this.
-- What a report is of: the texts of the files of its request.
use Rattle.std.specs.Prelude.{ℕ, List}
use Rattle.std.specs.Prelude.{[], Option, Result}
use Rattle.reports.specs.Reports.{IsReport}
use Rattle.judging.specs.Files.{IsFirstRefusal}
use Rattle.judging.specs.Pages.{answer_of}
use Rattle.requests.specs.Request.{Request, files_of}
use Rattle.judging.specs.declared.page.Page.{Page}
use Rattle.judging.specs.declared.stop.Stop.{Stop}
use Rattle.judging.specs.Judged.{AreJudged}

-- the page of a report, or why there is none
abbrev pub IsReported : (List ℕ → Option (List ℕ)) → (List ℕ → ℕ) → (List ℕ → ℕ) → Request → Result Page Stop → Type 0
IsReported told before after request result =
    AreJudged told before after (files_of request)
    (λ texts page. IsReport request texts (answer_of page))
    (IsFirstRefusal (files_of request) []) result
