-- The lengths of the tables.
use Rattle.std.proofs.Common.{◌≡◌, ℕ, List, length, subst}
use Rattle.elimination.specs.declared.search.Search.{Search}
use Rattle.elimination.specs.Tables.{AllHaveLength}

-- what a step keeps
pub have_length : (len : ℕ) (s s' : Search) → AllHaveLength (length s.turns.items) s' → AllHaveLength len s → AllHaveLength len s'
have_length len s s' now before = subst (λ z. AllHaveLength z s') before.turns now

pub with_bounds : (len : ℕ) (s : Search) (keys : List ℕ) → AllHaveLength len s → length keys ≡ len
    → AllHaveLength len (record s { bounds = keys })
with_bounds len s keys h e = record {
  turns = h.turns;
  links = h.links;
  rims = h.rims;
  groups = h.groups;
  sizes = h.sizes;
  seen = h.seen;
  bounds = e;
}
