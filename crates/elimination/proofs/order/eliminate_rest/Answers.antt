use Rattle.std.proofs.Common.{ℕ, List, length, refl}
use Rattle.patterns.specs.Pattern.{is_joined}
use Rattle.elimination.specs.Elimination.{times, eliminated}
use Rattle.elimination.specs.Quotients.{at}
use Rattle.elimination.specs.Tables.{Tables, tables}
use Rattle.elimination.specs.Turns.{quotient_of}
use Rattle.elimination.specs.Progress.{IsUnderWay}
use Rattle.elimination.specs.Switch.{AreNumbered, CanFill, IsRestAfter}
use Rattle.elimination.proofs.Switches.{joined_left}
use Rattle.elimination.proofs.order.eliminate_rest.Goals as goal
use Rattle.elimination.proofs.order.eliminate_rest.Goals.{In_ok-rest}

-- the elimination that the tables stand for
can_fill : (rows : List (List ℕ)) (vertices : List ℕ) (t : Tables) (place : ℕ) (s : IsUnderWay rows vertices t place)
    → CanFill rows (quotient_of rows (eliminated (is_joined rows) vertices) s.search.part s.search.rim s.search.rep) t
can_fill rows vertices t place s = record { stand = s.search.stand; joined = λ a b. refl; order = refl }

-- those that have had no turn are those that are not gone
numbered_still : (rows : List (List ℕ)) (vertices : List ℕ) (t : Tables) (place : ℕ) (s : IsUnderWay rows vertices t place) (list : List ℕ)
    → (n : ℕ) → AreNumbered t.turn n list → AreNumbered (times vertices) n list
numbered_still rows vertices t place s list n a = record {
  some = a.some;
  first = a.first;
  rises = a.rises;
  left = λ k vk. let l = a.left k vk in (l.0, s.unlisted (at list k) l.1);
  all = λ x vx none. a.all x vx (s.unturned x none);
}

pub to_dense-requires-clause-start : goal.to_dense-requires-clause-start
to_dense-requires-clause-start c =
    let rows = c.args.pattern.now in
    let vertices = c.args.vertices.now.items in
    let s = c.requires.start.1 in (
      quotient_of rows (eliminated (is_joined rows) vertices) s.search.part s.search.rim s.search.rep,
      can_fill rows vertices (tables c.args.search.now) c.requires.start.0 s,
    )

-- what is left, by new numbers
rest_is : (c : In_ok-rest)
    → IsRestAfter (is_joined c.args.pattern.now) (length c.args.pattern.now) c.args.vertices.now.items c.in_ok-rest.rest
rest_is c =
    let rows = c.args.pattern.now in
    let vertices = c.args.vertices.now.items in
    let t = tables c.args.search.now in
    let place = c.requires.start.0 in
    let s = c.requires.start.1 in
    let q = quotient_of rows (eliminated (is_joined rows) vertices) s.search.part s.search.rim s.search.rep in
    record {
      begun = s.begun;
      within = λ a b h. let l = joined_left q t s.search.stand a b h in (l.0, s.unlisted b l.1);
      numbered = numbered_still rows vertices t place s c.in_ok-rest.rest.vertices.items (length rows) c.in_ok-rest.ensures.numbered;
      dense = c.in_ok-rest.ensures.dense q (can_fill rows vertices t place s);
    }

pub eliminate-requires : goal.eliminate-requires
eliminate-requires c =
    (is_joined c.args.pattern.now, length c.args.pattern.now, rest_is (goal.at.eliminate-requires c).In_ok-rest)

pub returns-clause-len : goal.returns-clause-len
returns-clause-len c =
    let rows = c.args.pattern.now in
    (c.in_ok-eliminate.ensures (is_joined rows) (length rows) (rest_is (goal.at.returns-clause-len c).In_ok-rest)).len

pub returns-clause-begun : goal.returns-clause-begun
returns-clause-begun c =
    let rows = c.args.pattern.now in
    (c.in_ok-eliminate.ensures (is_joined rows) (length rows) (rest_is (goal.at.returns-clause-begun c).In_ok-rest)).begun
