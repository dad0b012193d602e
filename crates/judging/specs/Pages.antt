-- What the code's pages say, as answers.
use Rattle.judging.specs.declared.page.Page.{Page}
use Rattle.judging.specs.declared.page.PageKind.{PageKind}
use Rattle.judging.specs.declared.page.PageKind.TheVariants as kinds
use Rattle.judging.specs.declared.status.Status.{Status}
use Rattle.judging.specs.declared.status.Status.TheVariants as status
use Rattle.judging.specs.Files.{Answer}

abbrev pub status_of : PageKind → Status
status_of kinds.Done = status.Done
status_of kinds.No = status.No
status_of kinds.Format = status.Format
status_of kinds.Limit = status.Limit
status_of kinds.Bound = status.Bound
status_of kinds.NotSeriesParallel = status.NotSeriesParallel
status_of kinds.WorkingSet = status.WorkingSet

abbrev pub answer_of : Page → Answer
answer_of page = record { status = status_of page.kind; text = page.report }
