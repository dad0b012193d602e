use Rattle.std.proofs.Common.{◌≡◌, ◌+◌, ◌-◌, length, ℕ, Bool, List, arith, subst, sym, ◌∙◌, ap, refl, set, length-set}
use Rattle.std.specs.Prelude.{min, max}
use Rattle.std.specs.List.{sum_by}
use Rattle.min_tree.specs.Least.{IsFirstLeast, greatest}
use Rattle.patterns.specs.Pattern.{has}
use Rattle.elimination.specs.Elimination.{IsVertex}
use Rattle.elimination.specs.Quotients.{Quotient, at}
use Rattle.elimination.specs.Tables.{Tables, tables}
use Rattle.elimination.specs.Turns.{StandFor, HasMarks, CanPair, IsSearch, quotient_of}
use Rattle.elimination.proofs.Lengths.{have_length, with_bounds}
use Rattle.elimination.proofs.Degrees.{degree_le}
use Rattle.elimination.proofs.Choices.{the_first, can_gather, the_twin, the_choice, raised, can_join, falls, falls_on}
use Rattle.elimination.proofs.search.Search.choose.Goals as goal
use Rattle.elimination.proofs.search.Search.choose.Goals.{After-first_least-vertex, In_ok-gather, After-put, In-Some}

-- the elimination for which the tables stand
abbrev elimination : (rows : List (List ℕ)) (left : ℕ → ℕ → Bool) (t : Tables) → IsSearch rows left t → Quotient
elimination rows left t s = quotient_of rows left s.part s.rim s.rep

first : (c : After-first_least-vertex) (left : ℕ → ℕ → Bool) → IsSearch c.args.pattern.now left (tables c.search.self)
    → IsVertex (length c.args.pattern.now) c.first_least-vertex.result
first c left s =
    let w = c.requires.some in
    let here : at c.search.self.turns.items w.0 ≡ 0 = ap (λ z. at z.items w.0) c.search.invariant.turns ∙ w.2 in
    (the_first (elimination c.args.pattern.now left (tables c.search.self) s) (tables c.search.self) s.stand c.requires.few w.0 w.1 here
    c.first_least-vertex.result c.first_least-vertex.ensures).0

pub neighbours-requires : goal.neighbours-requires
neighbours-requires c =
    let start = c.requires.start in
    first (goal.at.neighbours-requires c).After-first_least-vertex start.0 (c.search.invariant.stands start.0 start.1)

pub gather-requires-clause-start : goal.gather-requires-clause-start
gather-requires-clause-start c =
    let left = c.requires.start.0 in
    let s = c.search.invariant.stands left c.requires.start.1 in
    let w = c.requires.some in
    let here : at c.search.self.turns.items w.0 ≡ 0 = ap (λ z. at z.items w.0) c.search.invariant.turns ∙ w.2 in
    let q = elimination c.args.pattern.now left (tables c.search.self) s in (
      q,
      can_gather q (tables c.search.self) s.stand c.requires.few w.0 w.1 here c.first_least-vertex.result c.first_least-vertex.ensures
          c.neighbours.result.now (λ x. ap (λ z. has z x) c.neighbours.ensures),
    )

-- the neighbours are gathered, whatever is left
marked : (c : In_ok-gather) (left : ℕ → ℕ → Bool) (s : IsSearch c.args.pattern.now left (tables c.search.self))
    → HasMarks (elimination c.args.pattern.now left (tables c.search.self) s) (tables c.gather.new.self) c.first_least-vertex.result
marked c left s =
    let w = c.requires.some in
    let here : at c.search.self.turns.items w.0 ≡ 0 = ap (λ z. at z.items w.0) c.search.invariant.turns ∙ w.2 in
    let q = elimination c.args.pattern.now left (tables c.search.self) s in
    c.in_ok-gather.ensures.marked q
    (can_gather q (tables c.search.self) s.stand c.requires.few w.0 w.1 here c.first_least-vertex.result c.first_least-vertex.ensures
    c.neighbours.result.now (λ x. ap (λ z. has z x) c.neighbours.ensures))

some_marked : (c : In_ok-gather) → (q : Quotient) × HasMarks q (tables c.gather.new.self) c.first_least-vertex.result
some_marked c =
    let left = c.requires.start.0 in
    let s = c.search.invariant.stands left c.requires.start.1 in
    (elimination c.args.pattern.now left (tables c.search.self) s, marked c left s)

pub degree-degree-requires-clause-start : goal.degree-degree-requires-clause-start
degree-degree-requires-clause-start c = some_marked (goal.at.degree-degree-requires-clause-start c).In_ok-gather

pub release-requires-clause-start : goal.release-requires-clause-start
release-requires-clause-start c = some_marked (goal.at.release-requires-clause-start c).In_ok-gather

pub returns-then-degree-at-clause-chosen : goal.returns-then-degree-at-clause-chosen
returns-then-degree-at-clause-chosen c = λ left init.
    let s = c.search.invariant.stands left init in
    let q = elimination c.args.pattern.now left (tables c.search.self) s in
    let v = c.first_least-vertex.result in
    let m = marked (goal.at.returns-then-degree-at-clause-chosen c).In_ok-gather left s in
    let is = c.degree-degree.ensures q m in
    let keys : c.release.new.self.bounds ≡ c.search.self.bounds = c.release.ensures.bounds ∙ c.in_ok-gather.ensures.bounds in
    let bound = ap (λ z. at z v) c.release.ensures.bounds in
    let read = c.at.ensures in
    the_choice c.args.pattern.now left s.part s.rim s.rep (tables c.release.new.self) v (c.release.ensures.released q m)
    (subst (λ z. IsFirstLeast z v) (sym keys) c.first_least-vertex.ensures) (omega arith)

pub find_twin-twin-requires-clause-near : goal.find_twin-twin-requires-clause-near
find_twin-twin-requires-clause-near c = λ j lt.
    let left = c.requires.start.0 in
    let s = c.search.invariant.stands left c.requires.start.1 in
    (marked (goal.at.find_twin-twin-requires-clause-near c).In_ok-gather left s).gathered.hood.vertices j 0 lt

pub find_twin-twin-requires-clause-linked : goal.find_twin-twin-requires-clause-linked
find_twin-twin-requires-clause-linked c =
    let left = c.requires.start.0 in
    let s = c.search.invariant.stands left c.requires.start.1 in
    (marked (goal.at.find_twin-twin-requires-clause-linked c).In_ok-gather left s).gathered.quotient.linked

pub release-requires-in-search-clause-start : goal.release-requires-in-search-clause-start
release-requires-in-search-clause-start c =
    let m = some_marked (goal.at.release-requires-in-search-clause-start c).In_ok-gather in
    (m.0, c.find_twin-twin.ensures.marked m.0 c.first_least-vertex.result m.1)

-- the bound of the vertex is raised
still : (c : After-put) (left : ℕ → ℕ → Bool) (s : IsSearch c.args.pattern.now left (tables c.search.self))
    → HasMarks (elimination c.args.pattern.now left (tables c.search.self) s) (tables c.gather.new.self) c.first_least-vertex.result
    → StandFor (elimination c.args.pattern.now left (tables c.search.self) s)
    (record (tables c.release-in-search.new.self) { bounds = c.put.new.self })
still c left s m =
    let q = elimination c.args.pattern.now left (tables c.search.self) s in
    let t = tables c.release-in-search.new.self in
    let v = c.first_least-vertex.result in
    let r = c.release-in-search.ensures.released q (c.find_twin-twin.ensures.marked q v m) in
    subst (λ z. StandFor q (record t { bounds = z })) (sym c.put.ensures)
    (raised q t v r c.degree-degree.result (c.degree-degree.ensures q m))

pub search-preserved-in_default : goal.search-preserved-in_default
search-preserved-in_default c = record {
  lengths =
      let s = c.release-in-search.new.self in
      let h = have_length (length c.args.pattern.now + 1) c.find_twin-twin.new.self s c.release-in-search.ensures.lengths
      c.find_twin-twin.ensures.lengths in
      with_bounds (length c.args.pattern.now + 1) s c.put.new.self h
      (ap length c.put.ensures ∙ length-set s.bounds c.first_least-vertex.result c.degree-degree.result ∙ h.bounds);
  turns = c.release-in-search.ensures.turns ∙ c.find_twin-twin.ensures.turns ∙ c.in_ok-gather.ensures.turns ∙ c.search.invariant.turns;
  stands = λ left init.
      let s = c.search.invariant.stands left init in
      let m = marked (goal.at.search-preserved-in_default c).In_ok-gather left s in
      record { part = s.part; rim = s.rim; rep = s.rep; stand = still (goal.at.search-preserved-in_default c).After-put left s m };
}

-- the lesser of the vertex and its twin can come to stand for the other
joinable : (c : In-Some) (left : ℕ → ℕ → Bool) (s : IsSearch c.args.pattern.now left (tables c.search.self))
    → HasMarks (elimination c.args.pattern.now left (tables c.search.self) s) (tables c.gather.new.self) c.first_least-vertex.result
    → CanPair (elimination c.args.pattern.now left (tables c.search.self) s)
    (record (tables c.release-in-search.new.self) { bounds = c.put.new.self })
    (min c.first_least-vertex.result c.in-Some.twin) (max c.first_least-vertex.result c.in-Some.twin)
joinable c left s m =
    let rows = c.args.pattern.now in
    let q = elimination rows left (tables c.search.self) s in
    let t = tables c.release-in-search.new.self in
    let v = c.first_least-vertex.result in
    let twin = c.in-Some.twin in
    let is = c.degree-degree.ensures q m in
    let r = c.release-in-search.ensures.released q (c.find_twin-twin.ensures.marked q v m) in
    let found = the_twin q (tables c.gather.new.self) v m rows c.degree-degree.result twin (λ x. refl) is c.in-Some.ensures.twin in
    subst (λ z. CanPair q (record t { bounds = z }) (min v twin) (max v twin)) (sym c.put.ensures)
    (can_join q t v r c.degree-degree.result is twin c.requires.few found)

pub join-requires-clause-can : goal.join-requires-clause-can
join-requires-clause-can c =
    let left = c.requires.start.0 in
    let s = c.search.invariant.stands left c.requires.start.1 in
    let q = elimination c.args.pattern.now left (tables c.search.self) s in
    let t = record (tables c.release-in-search.new.self) { bounds = c.put.new.self } in
    let m = marked (goal.at.join-requires-clause-can c).In_ok-gather left s in
    let can = joinable (goal.at.join-requires-clause-can c).In-Some left s m in (
      q,
      subst (λ z. CanPair q t z c.max.result) (sym c.min.ensures) (subst
          (λ z. CanPair q t (min c.first_least-vertex.result c.in-Some.twin) z) (sym c.max.ensures) can),
    )

pub search-smaller : goal.search-smaller
search-smaller c =
    let left = c.requires.start.0 in
    let s = c.search.invariant.stands left c.requires.start.1 in
    let m = marked (goal.at.search-smaller c).In_ok-gather left s in
    let q = elimination c.args.pattern.now left (tables c.search.self) s in
    let v = c.first_least-vertex.result in
    let degree = c.degree-degree.result in
    let is = c.degree-degree.ensures q m in
    let few = c.requires.few in
    let most = degree_le left (length c.args.pattern.now) v in
    let keys : c.release-in-search.new.self.bounds ≡ c.search.self.bounds =
    c.release-in-search.ensures.bounds ∙ c.find_twin-twin.ensures.bounds ∙ c.in_ok-gather.ensures.bounds in
    let raised_to : c.put.new.self ≡ set c.search.self.bounds v degree = c.put.ensures ∙ ap (λ z. set z v degree) keys in
    let within = c.first_least-vertex.ensures.within in
    let bound = ap (λ z. at z v) c.in_ok-gather.ensures.bounds in
    let read = c.at.ensures in
    let first_falls = falls c.search.self.bounds v degree within (omega arith) (omega arith) in
    let len = ap length raised_to in
    let len1 = length-set c.search.self.bounds v degree in
    let inside = (joinable (goal.at.search-smaller c).In-Some left s m).vertices.1.1 in
    let other = c.max.ensures in
    let bounds_len = c.search.invariant.lengths.bounds in
    let then_not_up = falls_on c.put.new.self c.max.result (omega arith) in
    let a = ap (sum_by (λ x. greatest - x)) raised_to in
    let b = ap (sum_by (λ x. greatest - x)) c.in_ok-join.ensures.bounds in
    omega arith

pub search-preserved : goal.search-preserved
search-preserved c = record {
  lengths =
      let n = length c.args.pattern.now + 1 in
      let s = c.release-in-search.new.self in
      let h = have_length n c.find_twin-twin.new.self s c.release-in-search.ensures.lengths c.find_twin-twin.ensures.lengths in
      let b = with_bounds n s c.put.new.self h (ap length c.put.ensures
      ∙ length-set s.bounds c.first_least-vertex.result c.degree-degree.result ∙ h.bounds) in
      have_length n (record s { bounds = c.put.new.self }) c.join.new.self c.in_ok-join.ensures.lengths b;
  turns = c.in_ok-join.ensures.turns ∙ c.release-in-search.ensures.turns ∙ c.find_twin-twin.ensures.turns ∙ c.in_ok-gather.ensures.turns
      ∙ c.search.invariant.turns;
  stands = λ left init.
      let s = c.search.invariant.stands left init in
      let q = elimination c.args.pattern.now left (tables c.search.self) s in
      let t = record (tables c.release-in-search.new.self) { bounds = c.put.new.self } in
      let m = marked (goal.at.search-preserved c).In_ok-gather left s in
      let can = joinable (goal.at.search-preserved c).In-Some left s m in
      let joined = c.in_ok-join.ensures.joined q
      (subst (λ z. CanPair q t z c.max.result) (sym c.min.ensures) (subst
      (λ z. CanPair q t (min c.first_least-vertex.result c.in-Some.twin) z) (sym c.max.ensures) can)) in
      record { part = s.part; rim = s.rim; rep = joined.rep; stand = joined.stand };
}
