-- The tables of the code as lists and functions. No public clause names this.
use Rattle.std.specs.Prelude.{◌≡◌, ℕ, ◌≤◌, Bool, false, List, [], length}
use Rattle.min_tree.specs.Least.{greatest}
use Rattle.patterns.specs.Pattern.{neighbours_of}
use Rattle.elimination.specs.Elimination.{IsVertex}
use Rattle.elimination.specs.declared.search.Search.{Search}
use Rattle.elimination.specs.Quotients.{at, inner_at}
use Rattle.elimination.specs.Hoods.{mark_at}

pub record Tables : Type 0 where
  pub turn : ℕ → ℕ
  pub links : List ℕ
  pub rims : ℕ → List ℕ
  pub groups : ℕ → List ℕ
  pub sizes : List ℕ
  pub seen : List Bool
  pub bounds : List ℕ
  pub near : List ℕ
  pub touched : List ℕ

abbrev pub tables : Search → Tables
tables s = record {
  turn = at s.turns.items;
  links = s.links.items;
  rims = inner_at s.rims.items;
  groups = inner_at s.groups.items;
  sizes = s.sizes.items;
  seen = s.seen.items;
  bounds = s.bounds;
  near = s.hood.near.items;
  touched = s.hood.touched.items;
}

-- all tables have this length
pub record AllHaveLength (len : ℕ) (s : Search) : Type 0 where
  pub turns : length s.turns.items ≡ len
  pub links : length s.links.items ≡ len
  pub rims : length s.rims.items ≡ len
  pub groups : length s.groups.items ≡ len
  pub sizes : length s.sizes.items ≡ len
  pub seen : length s.seen.items ≡ len
  pub bounds : length s.bounds ≡ len

-- none of the vertices is eliminated, and the bounds are the degrees
pub record IsUntouched (rows : List (List ℕ)) (t : Tables) : Type 0 where
  pub clear : (x : ℕ) → t.turn x ≡ 0
  pub empty : (x : ℕ) → t.rims x ≡ []
  pub single : (x : ℕ) → t.groups x ≡ []
  pub ones : (x : ℕ) → x ≤ length rows → at t.sizes x ≡ 1
  pub unmarked : (x : ℕ) → mark_at t.seen x ≡ false
  pub exact : (w : ℕ) → IsVertex (length rows) w → at t.bounds w ≡ length (neighbours_of rows w)
  pub unused : at t.bounds 0 ≡ greatest
