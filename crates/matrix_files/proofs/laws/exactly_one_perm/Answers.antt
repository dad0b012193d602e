use Rattle.std.proofs.Common.{inl, inr, refl}
use Rattle.mp_text.specs.declared.layout.Layout.TheVariants.{Commented}
use Rattle.mp_text.specs.Ahead.{rows_of_bytes, past_of_bytes}
use Rattle.matrix_files.specs.OrderFile.{numbers_stated}
use Rattle.matrix_files.specs.PermFile.{perm_format}
use Rattle.matrix_files.proofs.laws.exactly_one_perm.Goals as goal

pub returns-clause-some : goal.returns-clause-some
returns-clause-some c = λ n bytes.
    elim (c.exactly_one.ensures.some (perm_format n) (rows_of_bytes Commented bytes) (past_of_bytes bytes)) [
      | inl form ↦ inl (numbers_stated (rows_of_bytes Commented bytes), record { form = form; stated = refl })
      | inr refused ↦ inr refused
    ]

pub returns-clause-one_refusal : goal.returns-clause-one_refusal
returns-clause-one_refusal c =
    λ n bytes. c.exactly_one.ensures.one_refusal (perm_format n) (rows_of_bytes Commented bytes) (past_of_bytes bytes)
