use Rattle.fences.proofs.Fencing.{moment_own, used_same, run_own, traversal_own, peak_same}
use Rattle.fences.proofs.Keeping.{longer, longer_amounts, longer_bound}
use Rattle.fences.proofs.laws.fenced_law.Goals as goal

pub returns-clause-moment : goal.returns-clause-moment
returns-clause-moment c = λ system fenced moment is m. moment_own system fenced is moment m

pub returns-clause-used : goal.returns-clause-used
returns-clause-used c = λ system fenced moment is. used_same system fenced is moment

pub returns-clause-run : goal.returns-clause-run
returns-clause-run c = λ system fenced changes is run. run_own system fenced is changes run

pub returns-clause-traversal : goal.returns-clause-traversal
returns-clause-traversal c = λ system fenced order is t. traversal_own system fenced is order t

pub returns-clause-peak : goal.returns-clause-peak
returns-clause-peak c = λ system fenced order is. peak_same system fenced is order

pub returns-clause-amounts : goal.returns-clause-amounts
returns-clause-amounts c = λ system fenced amounts is handed. (longer system fenced is amounts handed, longer_amounts system fenced is amounts handed, longer_bound system fenced is amounts handed)
