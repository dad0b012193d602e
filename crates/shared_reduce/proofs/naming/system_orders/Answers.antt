use Rattle.std.proofs.Common.{ℕ, List, map, ap, sym, subst, ◌∙◌}
use Rattle.mp_system.specs.Renaming.{name_in}
use Rattle.sp_terms.specs.Values.{term_of}
use Rattle.shared_systems.specs.Paths.{IsRealizer}
use Rattle.shared_reduce.proofs.NamedOrders.{realizer_named}
use Rattle.shared_reduce.proofs.naming.system_orders.Goals as goal

pub returns : goal.returns
returns c = λ system is has.
    let names = c.args.reduced.now.names.items in
    let first = c.in_ok-first.ensures
    ∙ ap (λ (l : List ℕ). map (name_in l) c.deref.result.now) c.deref-2.ensures.value
    ∙ ap (map (name_in names)) c.deref.ensures.value in
    let second = c.in_ok-second.ensures
    ∙ ap (λ (l : List ℕ). map (name_in l) c.deref-3.result.now) c.deref-4.ensures.value
    ∙ ap (map (name_in names)) c.deref-3.ensures.value in
    subst (λ (l : List ℕ). IsRealizer system l c.in_ok-second.second.items) (sym first)
    (subst (λ (l : List ℕ). IsRealizer system (map (name_in names) c.in_ok-orders.orders.first.items) l) (sym second)
    (realizer_named system names (term_of c.args.reduced.now.terms) is has
    c.in_ok-orders.orders.first.items c.in_ok-orders.orders.second.items c.in_ok-orders.ensures))
