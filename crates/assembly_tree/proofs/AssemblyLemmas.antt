-- Fronts fit into the matrix: the further rows of a front are among the columns of later supernodes.
use Rattle.std.proofs.Common.{ℕ, zero, suc, ◌+◌, ◌-◌, ◌≤◌, List, length, inl, inr, arith}
use Rattle.std.specs.List.{sum_by}
use Rattle.std.proofs.lemmas.Bool.{cases_eq}
use Rattle.assembly_tree.specs.declared.assembly.Super.{Super}
use Rattle.assembly_tree.specs.Assembly.{IsSuper, IsSuperWithin, super_at, columns_in, front_of}
use Rattle.assembly_tree.specs.Supernodes.{last_of}
use Rattle.assembly_tree.proofs.RunLemmas.{last-more, last-le, last-within, last-all}

module _ (supers : List Super) (each : (s : ℕ) → IsSuper supers s → IsSuperWithin supers s) where
  rest_fits : (fuel s : ℕ) → length supers ≤ s + fuel → IsSuper supers s
      → (super_at supers s).rest + last_of supers s ≤ last_of supers (length supers)
  rest_fits zero s le is =
      elim (cases_eq (super_at supers s).parent 0) [
        | inl none ↦ omega (arith, (each s is).root none, last-within supers s)
        | inr some ↦ absurd (omega (arith, (each s is).parent (omega (arith, some))))
      ]
  rest_fits (suc fuel) s le is =
      elim (cases_eq (super_at supers s).parent 0) [
        | inl none ↦ omega (arith, (each s is).root none, last-within supers s)
        | inr some ↦ (
            let p = (super_at supers s).parent in
            let above = (each s is).parent (omega (arith, some)) in
            let rest = (each s is).rest (omega (arith, some)) in
            let later = rest_fits fuel p (omega (arith, above.0, le)) (omega (arith, above.0), above.1) in
            omega (
              arith,
              rest,
              later,
              last-more supers p (omega (arith, above.0)) above.1,
              last-le supers s (p - 1) (omega (arith, above.0)),
            )
            )
      ]

  pub front_fits : (s : ℕ) → IsSuper supers s → front_of (super_at supers s) ≤ sum_by columns_in supers
  front_fits s is = omega (arith, rest_fits (length supers) s (omega arith) is, last-more supers s is.0 is.1, last-all supers)
