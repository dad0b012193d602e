use Rattle.std.proofs.Common.{inl, inr, refl}
use Rattle.mp_text.specs.declared.layout.Layout.TheVariants.{Commented}
use Rattle.mp_text.specs.Ahead.{rows_of_bytes, past_of_bytes}
use Rattle.matrix_files.specs.OrderFile.{order_format, tasks_stated}
use Rattle.matrix_files.proofs.laws.exactly_one_order.Goals as goal

pub returns-clause-some : goal.returns-clause-some
returns-clause-some c = λ bytes.
    elim (c.exactly_one.ensures.some order_format (rows_of_bytes Commented bytes) (past_of_bytes bytes)) [
      | inl form ↦ inl (tasks_stated (rows_of_bytes Commented bytes), record { form = form; stated = refl })
      | inr refused ↦ inr refused
    ]

pub returns-clause-one_refusal : goal.returns-clause-one_refusal
returns-clause-one_refusal c = λ bytes. c.exactly_one.ensures.one_refusal order_format (rows_of_bytes Commented bytes) (past_of_bytes bytes)
