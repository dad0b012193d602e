-- No public clause names this.
-- Terms whose tasks have names, and the arcs of such a term.
use Rattle.mp_system.specs.declared.system.Item.{Item}
use Rattle.std.specs.Prelude.{ℕ, ◌+◌, ◌≤◌, ◌==◌, cond, min, List, [], ◌∷◌, ◌++◌, Option, Some, None}

-- a term with tasks by name; a `par` of more parts is a nest of these
pub data Net : Type 0 where
  hold : ℕ → Net
  series : Net → ℕ → Net → Net
  both : Net → Net → Net

-- the arcs between two ends
abbrev pub arcs : Option ℕ → Option ℕ → Net → List Item
arcs from to (hold n) = record { from = from; size = n; to = to } ∷ []
arcs from to (series a v b) = arcs from (Some v) a ++ arcs (Some v) to b
arcs from to (both a b) = arcs from to a ++ arcs from to b

abbrev pub names : Net → List ℕ
names (hold n) = []
names (series a v b) = names a ++ (names b ++ v ∷ [])
names (both a b) = names a ++ names b

-- how often a name stands in a term
abbrev pub times : ℕ → Net → ℕ
times v (hold n) = 0
times v (series a w b) = times v a + (cond (w == v) 1 0 + times v b)
times v (both a b) = times v a + times v b

abbrev pub IsDistinct : Net → Type 0
IsDistinct t = (v : ℕ) → times v t ≤ 1

-- the sum of a weight over the arcs
abbrev pub weigh : (Option ℕ → ℕ → Option ℕ → ℕ) → Option ℕ → Option ℕ → Net → ℕ
weigh f from to (hold n) = f from n to
weigh f from to (series a v b) = weigh f from (Some v) a + weigh f (Some v) to b
weigh f from to (both a b) = weigh f from to a + weigh f from to b

-- the sum of a weight of the ends alone
abbrev pub count : (Option ℕ → Option ℕ → ℕ) → Option ℕ → Option ℕ → Net → ℕ
count g from to (hold n) = g from to
count g from to (series a v b) = count g from (Some v) a + count g (Some v) to b
count g from to (both a b) = count g from to a + count g from to b

-- one where two ends are the same, else nothing
abbrev pub hits : Option ℕ → Option ℕ → ℕ
hits None None = 1
hits None (Some v) = 0
hits (Some u) None = 0
hits (Some u) (Some v) = cond (u == v) 1 0

abbrev pub pair : Option ℕ → Option ℕ → Option ℕ → Option ℕ → ℕ
pair p q from to = min (hits from p) (hits to q)

abbrev pub into : Option ℕ → Option ℕ → Option ℕ → ℕ
into o from to = hits to o

abbrev pub out_of : Option ℕ → Option ℕ → Option ℕ → ℕ
out_of o from to = hits from o

-- how often an end is a task of the term
abbrev pub knows : Option ℕ → Net → ℕ
knows None t = 0
knows (Some v) t = times v t
