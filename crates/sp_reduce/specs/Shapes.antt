-- No public clause names this.
-- The term of a net, with the parts of nested pairs side by side in one `par`; and the net of a term whose tasks are renamed.
use Rattle.std.specs.Prelude.{ℕ, suc, ◌+◌}
use Rattle.mp_system.specs.declared.system.Task.{Task}
use Rattle.sp_terms.specs.Term.{Term, Parts, no_parts, part}
use Rattle.sp_terms.specs.Term as terms
use Rattle.sp_terms.specs.SystemOfTerm.{task_count, own_number}
use Rattle.sp_reduce.specs.Nets.{Net, hold, series, both}

-- the term, and its parts in front of others
pub record Shape : Type 0 where
  pub whole : Term
  pub among : Parts → Parts

abbrev pub alone : Term → Shape
alone t = record { whole = t; among = λ ts. part t ts }

abbrev pub shape_of : (ℕ → Task) → Net → Shape
shape_of tasks (hold n) = alone (terms.hold n)
shape_of tasks (series a v b) = alone (terms.series (shape_of tasks a).whole (tasks v) (shape_of tasks b).whole)
shape_of tasks (both a b) =
    record {
      whole = terms.par ((shape_of tasks a).among ((shape_of tasks b).among no_parts));
      among = λ ts. (shape_of tasks a).among ((shape_of tasks b).among ts);
    }

abbrev pub term_of_net : (ℕ → Task) → Net → Term
term_of_net tasks t = (shape_of tasks t).whole

-- the last part stands alone
abbrev pub beside : Net → Parts → Net → Net
beside a no_parts b = a
beside a (part t ts) b = both a b

-- the term with its tasks by name
abbrev mutual
  pub named : (ℕ → ℕ) → ℕ → Term → Net
  named f base (terms.hold n) = hold n
  named f base (terms.series a v b) = series (named f base a) (f (own_number base a b)) (named f (base + task_count a) b)
  named f base (terms.par ts) = all_named f base ts

  pub all_named : (ℕ → ℕ) → ℕ → Parts → Net
  all_named f base no_parts = hold 0
  all_named f base (part t ts) = beside (named f base t) ts (all_named f (base + task_count t) ts)

-- how many parts a net has, side by side, and of how many nets it is made
abbrev pub parts_of : Net → ℕ
parts_of (hold n) = 1
parts_of (series a v b) = 1
parts_of (both a b) = parts_of a + parts_of b

abbrev pub holds_of : Net → ℕ
holds_of (hold n) = 1
holds_of (series a v b) = holds_of a + holds_of b
holds_of (both a b) = holds_of a + holds_of b

-- how many nets a net is made of, itself included
abbrev pub size_of : Net → ℕ
size_of (hold n) = 1
size_of (series a v b) = suc (size_of a + size_of b)
size_of (both a b) = suc (size_of a + size_of b)
