-- For how many workers fences are asked.
use Rattle.std.specs.Prelude.{◌≡◌, ℕ, Option, Some, None}
use Rattle.fences.specs.declared.certificate.Workers.{Workers}
use Rattle.fences.specs.declared.certificate.Workers.TheVariants as workers

-- any number of them where none is told; else at most the number that is told, with some room for each
abbrev pub IsFor : Option ℕ → Workers → Type 0
IsFor None found = found ≡ workers.Any
IsFor (Some count) found = (room : ℕ) × (found ≡ workers.AtMost count room)
