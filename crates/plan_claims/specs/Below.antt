-- No public clause names this.
-- The laws of the layers below that the proofs of this crate stand on.
use Rattle.std.specs.Prelude.{ℕ, ◌<◌, ◌≤◌, List}
use Rattle.side_laws.specs.Levels.{level_sum, AllStart, AreLevels}
use Rattle.side_laws.specs.Merging.{AllRising}
use Rattle.segment_merge.specs.Laws.{SideLaws}
use Rattle.sp_terms.specs.declared.position.Position.{Position}
use Rattle.sp_terms.specs.Postfix.{Denotes}
use Rattle.sp_terms.specs.Term.{Term, Direction, IsAllowed}
use Rattle.sp_terms.specs.Values.{IsTerms, term_of}
use Rattle.cut_laws.specs.Cuts.{Cut, par_cut, top_of, starts, sides}
use Rattle.cut_laws.specs.Names.{Names, names_of}
use Rattle.cut_laws.specs.Standing.{StandsFor}
use Rattle.cut_laws.specs.TermCuts.{cut_of_term}
use Rattle.cut_laws.specs.Tops.{SomeReaches, tops}
use Rattle.sp_cuts.specs.Laws.{NumbersWithoutNames}

pub record LawsBelow : Type 0 where
  -- terms
  pub denotes : (ps : List Position) → IsTerms ps → Denotes ps (term_of ps)
  -- cuts
  pub stands : (t : Term) (n : Names t) → IsAllowed t → StandsFor t (names_of t n) (cut_of_term t n)
  pub some : (d : Direction) (limit : ℕ) (cs : List Cut) (levels : List ℕ) → AreLevels limit 0 (starts d cs) (sides d cs) levels
      → limit ≤ top_of d (par_cut cs) → level_sum (starts d cs) < limit → SomeReaches d limit (level_sum levels) cs levels
  pub together : (d : Direction) (cs : List Cut) → AllRising (sides d cs) → AllStart (starts d cs) (sides d cs)
      → top_of d (par_cut cs) ≤ tops d cs
  pub names : NumbersWithoutNames
  -- sides and ropes; last, since the laws above speak of the sides of cuts
  pub sides : SideLaws
