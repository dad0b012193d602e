-- No public clause names this.
-- The fronts as they are made: what a task is given and hands back, and what is held between the rounds.
use Rattle.std.specs.Prelude.{◌≡◌, ◌↔◌, ℕ, ◌-◌, ◌<◌, ◌≤◌, Bool, true, false, IsTrue, ◌||◌, nat_eq, List, [], length}
use Rattle.std.specs.Prelude.{drop, take, slice_index, slice_index_or}
use Rattle.std.specs.List.{IsDistinct}
use Rattle.patterns.specs.Pattern.{has}
use Rattle.permutations.specs.Perm.{IsVertex}
use Rattle.ordering.specs.Fill.{IsAdjacency, count_of, parents_of, counts_of}
use Rattle.elim_tree.specs.Paths.{IsWithin, IsFromChild}
use Rattle.assembly_tree.specs.declared.assembly.Super.{Super}
use Rattle.assembly_tree.specs.Assembly.{IsSuper, super_at}
use Rattle.assembly_tree.specs.Supernodes.{AreSupernodes, first_of}
use Rattle.rounds_run.specs.declared.front.Job.{Job}
use Rattle.rounds_run.specs.declared.front.Made.{Made}
use Rattle.rounds_run.specs.declared.held.Held.{Held}
use Rattle.rounds_run.specs.FrontRows.{rows_of_front, list_of_front}
use Rattle.rounds_run.specs.Gathering.{in_lists}

-- the factor of a matrix: its pattern by columns, of so many, and its supernodes
pub record Factor : Type 0 where
  pub joined : ℕ → ℕ → Bool
  pub order : ℕ
  pub supers : List Super

-- the rows of a front, and those past its columns
abbrev pub front_rows : Factor → ℕ → List ℕ
front_rows f s = rows_of_front f.joined f.order (first_of f.supers s)

abbrev pub rest_rows : Factor → ℕ → List ℕ
rest_rows f s = drop (super_at f.supers s).columns (front_rows f s)

-- a task has what it takes: the lists of all children of its first column
pub record IsJob (joined : ℕ → ℕ → Bool) (n : ℕ) (job : Job) : Type 0 where
  pub first : IsVertex n job.first
  pub columns : job.columns ≤ count_of joined n job.first
  pub children : (i : ℕ) → IsTrue (in_lists job.children i) ↔ IsFromChild joined n job.first i

-- the task is that of supernode s
pub record IsJobOf (f : Factor) (s : ℕ) (job : Job) : Type 0 where
  pub ready : IsJob f.joined f.order job
  pub first : job.first ≡ first_of f.supers s
  pub columns : job.columns ≡ (super_at f.supers s).columns

-- what the task of a column hands back, where the front has so many columns
pub record IsHandedBack (joined : ℕ → ℕ → Bool) (n first columns : ℕ) (made : Made) : Type 0 where
  pub rows : made.rows ≡ rows_of_front joined n first
  pub rest : made.rest ≡ drop columns (rows_of_front joined n first)

abbrev pub IsMadeOf : Factor → ℕ → Made → Type 0
IsMadeOf f s made = IsHandedBack f.joined f.order (first_of f.supers s) (super_at f.supers s).columns made

-- what tasks hand back, in their order
abbrev pub AreHandedBack : (ℕ → ℕ → Bool) → ℕ → List Job → List Made → Type 0
AreHandedBack joined n jobs made =
    (length made ≡ length jobs)
    × ((i : ℕ) (d : Made) (e : Job) → i < length jobs →
    IsHandedBack joined n (slice_index_or jobs i e).first (slice_index_or jobs i e).columns (slice_index_or made i d))

-- the tasks of a round, in its order, and what they hand back
abbrev pub AreJobsOf : Factor → List ℕ → List Job → Type 0
AreJobsOf f round jobs =
    (length jobs ≡ length round)
    × ((i : ℕ) (d : Job) → i < length round → IsJobOf f (slice_index round i) (slice_index_or jobs i d))

abbrev pub AreMadeOf : Factor → List ℕ → List Made → Type 0
AreMadeOf f round made =
    (length made ≡ length round)
    × ((i : ℕ) (d : Made) → i < length round → IsMadeOf f (slice_index round i) (slice_index_or made i d))

-- row i was left to supernode s by a child that is done
abbrev pub HandedOver : Factor → (ℕ → Bool) → ℕ → ℕ → Type 0
HandedOver f done s i =
    (c : ℕ) × IsSuper f.supers c × ((super_at f.supers c).parent ≡ s) × (done c ≡ true) × IsTrue (has (rest_rows f c) i)

-- of each supernode that is done the rows are kept; and each whose lists were not taken has those that its children left to it
pub record IsHeld (f : Factor) (taken done : ℕ → Bool) (held : Held) : Type 0 where
  pub rows_long : length held.rows.items ≡ length f.supers
  pub inboxes_long : length held.inboxes.items ≡ length f.supers
  pub kept : (s : ℕ) → IsSuper f.supers s → done s ≡ true → list_of_front held.rows.items s ≡ front_rows f s
  pub handed : (s : ℕ) → IsSuper f.supers s → taken s ≡ false → (i : ℕ) →
      IsTrue (in_lists (slice_index_or held.inboxes.items (s - 1) []) i) ↔ HandedOver f done s i

-- whether a supernode stands in one of the first k rounds
abbrev pub in_rounds : List (List ℕ) → ℕ → ℕ → Bool
in_rounds rounds k s = in_lists (take k rounds) s

-- the supernodes of a round may be made: each once, none was made before, and all their children were
pub record AreDue (supers : List Super) (ran : ℕ → Bool) (round : List ℕ) : Type 0 where
  pub within : (s : ℕ) → has round s ≡ true → IsSuper supers s
  pub once : IsDistinct nat_eq round
  pub apart : (s : ℕ) → has round s ≡ true → ran s ≡ false
  pub children : (s c : ℕ) → has round s ≡ true → IsSuper supers c → (super_at supers c).parent ≡ s → ran c ≡ true

-- those that were made before, and those of the round
abbrev pub or_in : (ℕ → Bool) → List ℕ → ℕ → Bool
or_in ran round s = ran s || has round s

-- a pattern by columns, and the supernodes of its factor
pub record IsFactor (f : Factor) : Type 0 where
  pub pattern : IsAdjacency f.joined
  pub inside : IsWithin f.order f.joined
  pub nodes : List ℕ
  pub supernodes : AreSupernodes (parents_of f.joined f.order) (counts_of f.joined f.order) (record { supers = f.supers; nodes = nodes })

-- the rounds have each supernode once, after its children
pub record AreOrderly (supers : List Super) (rounds : List (List ℕ)) : Type 0 where
  pub within : (k s : ℕ) → has (slice_index_or rounds k []) s ≡ true → IsSuper supers s
  pub all : (s : ℕ) → IsSuper supers s → in_lists rounds s ≡ true
  pub once : (k : ℕ) → IsDistinct nat_eq (slice_index_or rounds k [])
  pub apart : (k s : ℕ) → has (slice_index_or rounds k []) s ≡ true → in_rounds rounds k s ≡ false
  pub children : (k s c : ℕ) → has (slice_index_or rounds k []) s ≡ true → IsSuper supers c → (super_at supers c).parent ≡ s →
      in_rounds rounds k c ≡ true

-- the first column of each supernode
pub record AreFirsts (supers : List Super) (firsts : List ℕ) : Type 0 where
  pub long : length firsts ≡ length supers
  pub each : (s : ℕ) → IsSuper supers s → slice_index_or firsts (s - 1) 0 ≡ first_of supers s
