-- The words of what is wrong with an order file, and with a permutation file.
use Rattle.std.specs.Prelude.{ℕ, List, codes}
use Rattle.matrix_files.specs.declared.order_file.OrderFileKind.{OrderFileKind}
use Rattle.matrix_files.specs.declared.order_file.OrderFileKind.TheVariants as order_files
use Rattle.matrix_files.specs.declared.perm_file.PermKind.{PermKind}
use Rattle.matrix_files.specs.declared.perm_file.PermKind.TheVariants as perms

-- the word for it in reports
abbrev pub order_file_word : OrderFileKind → List ℕ
order_file_word order_files.Number = codes "number"
order_file_word order_files.Header = codes "header"
order_file_word order_files.Count = codes "count"
order_file_word order_files.NoEnd = codes "no-end"

abbrev pub perm_word : PermKind → List ℕ
perm_word perms.Number = codes "number"
perm_word perms.Range = codes "range"
perm_word perms.Repeated = codes "repeated"
perm_word perms.Count = codes "count"
