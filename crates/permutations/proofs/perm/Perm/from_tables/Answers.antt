use Rattle.std.proofs.Common.{sym}
use Rattle.permutations.specs.PermTables.{ArePermTables}
use Rattle.permutations.proofs.InverseLemmas.{inverse_tables}
use Rattle.permutations.proofs.perm.Perm.from_tables.Goals as goal

the_tables : (c : goal.Start) → ArePermTables c.args.vertices.items c.args.places.items
the_tables c = inverse_tables c.args.vertices.items c.args.places.items c.requires.inverse c.requires.small

pub invariant_of-result : goal.invariant_of-result
invariant_of-result c = the_tables c

pub returns-clause-perm : goal.returns-clause-perm
returns-clause-perm c = (the_tables c).perm

pub returns-clause-places : goal.returns-clause-places
returns-clause-places c = λ v. sym ((the_tables c).tables.inverse v)
