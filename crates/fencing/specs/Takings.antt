-- No public clause names this.
-- Memory that is handed on along an order: pieces that tasks gave back, and what others take of them.
use Rattle.std.specs.Prelude.{◌≡◌, ◌==◌, ℕ, zero, suc, ◌+◌, ◌*◌, ◌-◌, ◌<◌, ◌≤◌, Bool, true, false, if◌then◌else◌, Option, Some, None, All, count_by, slice_index_or, slice_set, List, [], ◌∷◌, ◌++◌, length, map}
use Rattle.std.specs.List.{filter, fold, sum_by}
use Rattle.std.specs.Option.{ForSome}
use Rattle.mp_system.specs.declared.system.Item.{Item}
use Rattle.mp_system.specs.System.{TaskSystem, IsTask, inputs_of, item_size, outputs_of}
use Rattle.mp_system.specs.Memory.{state_memory, stands_in}
use Rattle.fences.specs.declared.fenced.Fence.{Fence}
use Rattle.fences.specs.Moments.{numbers_of}
use Rattle.fencing.specs.Needs.{taken_need}
use Rattle.fencing.specs.declared.ledger.Piece.{Piece}
use Rattle.fencing.specs.declared.ledger.Taking.{Taking}

-- what is there of all that was given back, and of what one task gave back
abbrev pub piece_amount : Piece → ℕ
piece_amount piece = piece.amount

abbrev pub all_kept : List Piece → ℕ
all_kept pieces = sum_by piece_amount pieces

abbrev pub amount_of : ℕ → Piece → ℕ
amount_of u piece = if piece.task == u then piece.amount else 0

abbrev pub kept_of : List Piece → ℕ → ℕ
kept_of pieces u = sum_by (amount_of u) pieces

-- a task gives something back, and takes something
abbrev pub pieces_with : List Piece → ℕ → ℕ → List Piece
pieces_with pieces task zero = pieces
pieces_with pieces task (suc rest) = pieces ++ (record { task = task; amount = suc rest }) ∷ []

abbrev pub takings_if : ℕ → List Taking → Taking → List Taking
takings_if zero takings taking = takings
takings_if (suc rest) takings taking = takings ++ taking ∷ []

abbrev pub takings_with : List Taking → Taking → List Taking
takings_with takings taking = takings_if taking.amount takings taking

-- what is taken of what one task gave back, and what one task takes
abbrev pub taking_amount : Taking → ℕ
taking_amount taking = taking.amount

abbrev pub amount_from : ℕ → Taking → ℕ
amount_from u taking = if taking.from == u then taking.amount else 0

abbrev pub taken_from : List Taking → ℕ → ℕ
taken_from takings u = sum_by (amount_from u) takings

abbrev pub amount_to : ℕ → Taking → ℕ
amount_to v taking = if taking.to == v then taking.amount else 0

abbrev pub taken_by : List Taking → ℕ → ℕ
taken_by takings v = sum_by (amount_to v) takings

-- a taking along no item is a fence
abbrev pub is_none : Option ℕ → Bool
is_none None = true
is_none (Some index) = false

abbrev pub is_fence : Taking → Bool
is_fence taking = is_none taking.along

abbrev pub fences_among : List Taking → ℕ
fences_among takings = count_by is_fence takings

-- the item at a place, from 0
abbrev pub item_at : List Item → ℕ → Item
item_at items index = slice_index_or items index (record { size = 0; from = None; to = None })

-- task v consumes the item at this place
abbrev pub IsInputAt : List Item → ℕ → ℕ → Type 0
IsInputAt items v index = (index < length items) × ((item_at items index).to ≡ Some v)

-- the producer of an item is below a number
abbrev pub HasProducer : ℕ → Item → Type 0
HasProducer count item = ForSome item.from (λ u. u < count)

-- the item along which something is taken, if there is one, is from the task that gave to the one that takes
abbrev pub Carries : List Item → Taking → ℕ → Type 0
Carries items taking index =
    (index < length items) × ((item_at items index).from ≡ Some taking.from) × ((item_at items index).to ≡ Some taking.to)

abbrev pub IsCarried : List Item → Taking → Type 0
IsCarried items taking = ForSome taking.along (Carries items taking)

-- a task takes so much of the pieces, in takings that are added
pub record Takes (items : List Item) (task amount : ℕ) (pieces later : List Piece) (takings more : List Taking) : Type 0 where
  pub added : List Taking
  pub more_are : more ≡ takings ++ added
  pub aimed : All (λ taking. taking.to ≡ task) added
  pub solid : All (λ taking. 1 ≤ taking.amount) added
  pub carried : All (IsCarried items) added
  pub total : sum_by taking_amount added ≡ amount
  pub less : all_kept later + amount ≡ all_kept pieces
  pub each : (u : ℕ) → kept_of later u + taken_from added u ≡ kept_of pieces u

-- the task that takes stands in the list behind the one that gave
pub record GoesForward (order : List ℕ) (taking : Taking) : Type 0 where
  pub before : List ℕ
  pub rest : List ℕ
  pub split : order ≡ before ++ taking.to ∷ rest
  pub stands : stands_in before taking.from ≡ true

-- what a task draws from the start is what it does not take of others, once it has run
abbrev pub draws_of : TaskSystem → List ℕ → List Taking → ℕ → ℕ
draws_of system before takings v = if stands_in before v then taken_need system v - taken_by takings v else 0

-- after some first tasks of an order: what is free and what is there are the bound; each task that ran drew and took what it needs, and of what
-- it holds at its end and does not hand on along its items no more was taken than it gave back
pub record IsLedger (system : TaskSystem) (bound : ℕ) (before : List ℕ) (pool : ℕ) (pieces : List Piece) (takings : List Taking) : Type 0 where
  pub whole : pool + all_kept pieces + state_memory system (stands_in before) ≡ bound
  pub drawn : state_memory system (λ _. false) + sum_by (draws_of system before takings) (numbers_of system) + pool ≡ bound
  pub taken : (v : ℕ) → taken_by takings v ≤ (if stands_in before v then taken_need system v else 0)
  pub given : (v : ℕ) → kept_of pieces v + taken_from takings v
      ≤ (if stands_in before v then inputs_of system v + taken_need system v - outputs_of system v else 0)
  pub forward : All (GoesForward before) takings
  pub carried : All (IsCarried system.items) takings
  pub solid : All (λ taking. 1 ≤ taking.amount) takings
  pub few : fences_among takings + length pieces ≤ 2 * length before
  pub unfenced : 1 ≤ pool → fences_among takings ≡ 0

-- after all of them
pub record AreTakings (system : TaskSystem) (order : List ℕ) (bound : ℕ) (takings : List Taking) : Type 0 where
  pub drawn : state_memory system (λ _. false) + sum_by (λ v. taken_need system v - taken_by takings v) (numbers_of system) ≤ bound
  pub taken : (v : ℕ) → IsTask system v → taken_by takings v ≤ taken_need system v
  pub given : (v : ℕ) → IsTask system v → taken_from takings v ≤ inputs_of system v + taken_need system v - outputs_of system v
  pub forward : All (GoesForward order) takings
  pub carried : All (IsCarried system.items) takings
  pub solid : All (λ taking. 1 ≤ taking.amount) takings
  pub few : fences_among takings ≤ 2 * length system.tasks
  pub none : state_memory system (λ _. false) + sum_by (taken_need system) (numbers_of system) ≤ bound → fences_among takings ≡ 0

-- the amounts of the items, with what is taken along them
abbrev pub raised_at : Option ℕ → ℕ → List ℕ → List ℕ
raised_at None amount amounts = amounts
raised_at (Some index) amount amounts = slice_set amounts index (slice_index_or amounts index 0 + amount)

abbrev pub raised_by : List ℕ → Taking → List ℕ
raised_by amounts taking = raised_at taking.along taking.amount amounts

abbrev pub handed_along : List Item → List Taking → List ℕ
handed_along items takings = fold raised_by (map item_size items) takings

-- the takings that are fences, and all amounts
abbrev pub fences_left : List Taking → List Taking
fences_left takings = filter is_fence takings

abbrev pub amounts_for : List Item → List Taking → List ℕ
amounts_for items takings = handed_along items takings ++ map taking_amount (fences_left takings)

-- the fence of a taking, and the taking as an item
abbrev pub fence_of : Taking → Fence
fence_of taking = record { from = taking.from; to = taking.to }

abbrev pub item_of : Taking → Item
item_of taking = record { size = taking.amount; from = Some taking.from; to = Some taking.to }
