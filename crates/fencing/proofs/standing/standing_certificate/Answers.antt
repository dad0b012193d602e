use Rattle.std.proofs.Common.{List, ℕ, subst, sym}
use Rattle.mp_system.specs.System.{TaskSystem}
use Rattle.mp_system.specs.Traversal.{IsTraversal}
use Rattle.fencing.proofs.Certificates.{has_room, is_collected}
use Rattle.fencing.proofs.standing.standing_certificate.Goals as goal

pub by_sizes-requires : goal.by_sizes-requires
by_sizes-requires c =
    let system = c.args.system.now in
    let own = c.in-Some.collected in
    let same = is_collected system c.in_ok-collected.field-0 own c.in-Some.is c.in_ok-collected.ensures.system in
    record {
      collected = same;
      room = has_room system c.in_ok-collected.field-0 own c.in-Some.is c.in_ok-collected.ensures.room;
      ordered = (c.in_ok-order.order.items, subst (λ (s : TaskSystem). IsTraversal s c.in_ok-order.order.items) (sym same) c.in_ok-order.ensures);
    }
