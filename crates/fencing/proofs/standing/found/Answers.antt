use Rattle.std.proofs.Common.{Option, subst}
use Rattle.std.specs.Prelude.{IfSome}
use Rattle.fencing.specs.declared.least_room.Least.{Least}
use Rattle.fencing.specs.Asked.{IsFor}
use Rattle.fencing.proofs.BySizes.{found_stands}
use Rattle.fencing.proofs.standing.found.Goals as goal

pub returns : goal.returns
returns c =
    let workers = subst (λ (o : Option Least). IfSome o (λ least. IsFor c.args.workers least.workers)) c.in-Some.is c.in_ok-least.ensures in
    found_stands _ c.args.system.now c.args.workers _ c.judged.result workers c.judged.ensures.found c.judged.ensures.certifies c.judged.ensures.implied
