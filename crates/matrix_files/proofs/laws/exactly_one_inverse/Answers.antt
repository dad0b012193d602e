use Rattle.std.proofs.Common.{inl, inr, refl, sym, ◌∙◌}
use Rattle.mp_text.specs.declared.layout.Layout.TheVariants.{Commented}
use Rattle.mp_text.specs.Ahead.{rows_of_bytes, past_of_bytes}
use Rattle.matrix_files.specs.InverseFile.{inverse_of, inverse_format, places_stated}
use Rattle.matrix_files.proofs.laws.exactly_one_inverse.Goals as goal

pub returns-clause-some : goal.returns-clause-some
returns-clause-some c = λ n bytes.
    let rows = rows_of_bytes Commented bytes in
    elim (c.exactly_one.ensures.some (inverse_format n rows) rows (past_of_bytes bytes)) [
      | inl form ↦ inl (inverse_of (places_stated n rows), record { form = form; stated = refl })
      | inr refused ↦ inr refused
    ]

pub returns-clause-not_both : goal.returns-clause-not_both
returns-clause-not_both c = λ n bytes order refusal reads refused.
    let rows = rows_of_bytes Commented bytes in
    c.exactly_one.ensures.not_both (inverse_format n rows) rows (past_of_bytes bytes) refusal reads.form refused

pub returns-clause-one_order : goal.returns-clause-one_order
returns-clause-one_order c = λ n bytes one two first second. first.stated ∙ sym second.stated

pub returns-clause-one_refusal : goal.returns-clause-one_refusal
returns-clause-one_refusal c = λ n bytes one two first second.
    let rows = rows_of_bytes Commented bytes in
    c.exactly_one.ensures.one_refusal (inverse_format n rows) rows (past_of_bytes bytes) one two first second
