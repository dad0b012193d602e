use Rattle.std.proofs.Common.{ℕ, ◌<◌, Option, length, subst}
use Rattle.std.specs.Prelude.{IfSome}
use Rattle.std.proofs.lemmas.List.Elements.{All-same}
use Rattle.fences.specs.Before.{IsBefore, IsFound}
use Rattle.fences.proofs.Before.{marked_more}
use Rattle.fences.proofs.implied.Search.find.Goals as goal

pub returns-clause-search : goal.returns-clause-search
returns-clause-search c = λ system is before.
    let search = c.args.self.now in
    let own = subst (λ (o : Option ℕ). IfSome o (IsBefore system search.task)) c.in-Some.is before in
    let lt = subst (λ (o : Option ℕ). IfSome o (λ u. u < length search.marks.items)) c.in-Some.is c.requires in
    let both = marked_more system search.marks.items search.found.items search.task c.in-Some.task is.0 is.1 own lt in
    (both.0, All-same (IsFound system search.task) _ _ c.in_ok-push.ensures.items both.1)
