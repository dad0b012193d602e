use Rattle.std.proofs.Common.{◌≡◌, ℕ, ◌<◌, ◌≤◌, List, [], ◌∷◌, Option, Some, None, MatchOption, ap, arith, refl}
use Rattle.side_laws.specs.Segments.{StartsAbove}
use Rattle.hill_valley.specs.declared.side.Seg.{Seg}
use Rattle.hill_valley.specs.Side.{profile}
use Rattle.hill_valley.specs.Descents.{first_up}
use Rattle.hill_valley.proofs.side.Side.take_first_within.Goals as goal

above : (ss : List Seg) (up most : ℕ) → Some up ≡ first_up ss → most < up → StartsAbove most (profile ss)
above [] up most h lt = tt
above (s ∷ ss) up most h lt = let g : up ≡ s.up = cc in omega arith

some : (s : Seg) (ss : List Seg) → s ∷ ss ≡ [] → ⊥
some s ss e = cc

same_up : (s t : Seg) (ss ts : List Seg) → s ∷ ss ≡ t ∷ ts → s.up ≡ t.up
same_up s t ss ts h = let e : s ≡ t = cc in ap (λ (x : Seg). x.up) e

within : (old new : List Seg) (up most : ℕ) (o : Option Seg) → Some up ≡ first_up old
    → up ≤ most → MatchOption o ((old ≡ []) × (new ≡ [])) (λ s. old ≡ s ∷ new)
    → MatchOption o ((new ≡ old) × StartsAbove most (profile old)) (λ s. (old ≡ s ∷ new) × (s.up ≤ most))
within [] new up most o h le m = absurd (cc)
within (t ∷ old) new up most None h le m = absurd (some t old m.0)
within (t ∷ old) new up most (Some s) h le m = (m, let u = same_up t s old new m in let g : up ≡ t.up = cc in omega arith)

pub returns-in-Some-clause-first : goal.returns-in-Some-clause-first
returns-in-Some-clause-first c =
    within c.args.self.now c.take_first.new.self c.in-Some.up c.args.most
    c.take_first.result c.in-Some.ensures.value c.if-up-most.true c.take_first.ensures.first

pub returns-in_default-clause-first : goal.returns-in_default-clause-first
returns-in_default-clause-first c = (refl, above c.args.self.now c.in-Some.up c.args.most c.in-Some.ensures.value c.if-up-most.false)
