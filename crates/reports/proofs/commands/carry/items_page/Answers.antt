use Rattle.sp_terms.specs.Values.{term_of}
use Rattle.reports.proofs.commands.carry.items_page.Goals as goal

pub term_page-requires : goal.term_page-requires
term_page-requires c = λ given.
    c.told_term_law.ensures.traversal c.args.system.now c.in-Ok.reduced.names.items (term_of c.in-Ok.reduced.terms) c.args.order.now
    c.keeps.ensures c.in-Ok.ensures.reduced given
