-- The words of what is wrong with a plan file.
use Rattle.std.specs.Prelude.{ℕ, List, codes}
use Rattle.plan_files.specs.declared.kind.PlanKind.{PlanKind}
use Rattle.plan_files.specs.declared.kind.PlanKind.TheVariants.{Header, Number, Section, Order, Claim, NoEnd, Priority, Amount, Json}

-- the word for it in reports
abbrev pub word_of : PlanKind → List ℕ
word_of Header = codes "header"
word_of Number = codes "number"
word_of Section = codes "section"
word_of Order = codes "order"
word_of Claim = codes "claim"
word_of NoEnd = codes "no-end"
word_of Priority = codes "priority"
word_of Amount = codes "amount"
word_of Json = codes "json"
