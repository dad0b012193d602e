use Rattle.std.proofs.Common.{refl, inl, inr}
use Rattle.mp_text.specs.declared.layout.Layout.TheVariants.{Commented}
use Rattle.mp_text.specs.Ahead.{rows_of_bytes, past_of_bytes}
use Rattle.fence_files.specs.FenceFile.{fences_format, certificate_stated, stated}
use Rattle.fence_files.proofs.laws.exactly_one.Goals as goal

pub returns-clause-some : goal.returns-clause-some
returns-clause-some c = λ bytes.
    elim (c.exactly_one.ensures.some fences_format (rows_of_bytes Commented bytes) (past_of_bytes bytes)) [
      | inl form ↦ inl (certificate_stated (stated (rows_of_bytes Commented bytes)), record { form = form; stated = refl })
      | inr refused ↦ inr refused
    ]

pub returns-clause-one_refusal : goal.returns-clause-one_refusal
returns-clause-one_refusal c = λ bytes. c.exactly_one.ensures.one_refusal fences_format (rows_of_bytes Commented bytes) (past_of_bytes bytes)
