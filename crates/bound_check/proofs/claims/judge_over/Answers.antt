use Rattle.std.proofs.Common.{subst, Option, Some, None, length}
use Rattle.bound_check.specs.Failing.{IsFirstIn}
use Rattle.bound_check.specs.declared.failing.Failing.{Failing}
use Rattle.bound_check.proofs.Said.{rooted, all_meet, one_fails}
use Rattle.bound_check.proofs.claims.judge_over.Goals as goal

pub returns-in-Some : goal.returns-in-Some
returns-in-Some g c =
    let ps = c.args.terms.now in
    let cs = c.args.claims.now in
    let view = c.in_ok-view.view in
    let known = rooted ps cs view c.len-last.result c.args.bound c.has_root.result c.in_ok-view.ensures c.len-last.ensures.value
    c.has_root.ensures c.if-not-has_root.false c.requires.claims.rising in
    let first : IsFirstIn view.positions cs 0 (length cs) (Some c.in-Some.field-0) =
    subst (λ (r : Option Failing). IsFirstIn view.positions cs 0 (length cs) r) c.in-Some.is c.in_ok-position.ensures in
    one_fails ps cs view c.args.bound c.in-Some.field-0 known first

pub returns : goal.returns
returns g c =
    let ps = c.args.terms.now in
    let cs = c.args.claims.now in
    let view = c.in_ok-view.view in
    let known = rooted ps cs view c.len-last.result c.args.bound c.has_root.result c.in_ok-view.ensures c.len-last.ensures.value
    c.has_root.ensures c.if-not-has_root.false c.requires.claims.rising in
    let first : IsFirstIn view.positions cs 0 (length cs) None =
    subst (λ (r : Option Failing). IsFirstIn view.positions cs 0 (length cs) r) c.in-None.is c.in_ok-position.ensures in
    all_meet ps cs view c.args.bound known first
