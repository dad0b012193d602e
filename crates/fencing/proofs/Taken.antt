-- What a task takes, piece by piece.
use Rattle.std.proofs.Common.{◌≡◌, ℕ, zero, suc, ◌+◌, ◌-◌, ◌<◌, ◌≤◌, Bool, true, false, cond, eqb, Option, None, Some, List, [], ◌∷◌, ◌++◌, length, get_or, set, append-nil, append_assoc, refl, sym, ap, subst, ◌∙◌, arith}
use Rattle.std.proofs.lemmas.List.{length-append}
use Rattle.std.proofs.lemmas.List.Elements.{All-nil, All-push, All-append}
use Rattle.std.proofs.lemmas.List.Sums.{sum_by-append, sum_by_push, sum_by-set}
use Rattle.mp_system.specs.declared.system.Item.{Item}
use Rattle.fencing.specs.declared.ledger.Piece.{Piece}
use Rattle.fencing.specs.declared.ledger.Taking.{Taking}
use Rattle.fencing.specs.Takings.{Carries, IsCarried, Takes, all_kept, amount_from, amount_of, kept_of, piece_amount, pieces_with, taking_amount, takings_with}

-- ---- a task gives something back

pub all_with : (pieces : List Piece) (task amount : ℕ) → all_kept (pieces_with pieces task amount) ≡ all_kept pieces + amount
all_with pieces task zero = omega arith
all_with pieces task (suc rest) = sum_by_push piece_amount pieces (record { task = task; amount = suc rest })

pub kept_with : (pieces : List Piece) (task amount u : ℕ) → kept_of (pieces_with pieces task amount) u ≡ kept_of pieces u + cond (eqb task u) amount 0
kept_with pieces task zero u =
    let none : ◌≡◌ {A = ℕ} (cond (eqb task u) 0 0) 0 = elim (eqb task u) as (λ b. ◌≡◌ {A = ℕ} (cond b 0 0) 0) [ true ↦ refl | false ↦ refl ] in
    omega (arith, none)
kept_with pieces task (suc rest) u = sum_by_push (amount_of u) pieces (record { task = task; amount = suc rest })

pub long_with : (pieces : List Piece) (task amount : ℕ) → length (pieces_with pieces task amount) ≤ length pieces + 1
long_with pieces task zero = omega arith
long_with pieces task (suc rest) = omega (arith, length-append pieces ((record { task = task; amount = suc rest }) ∷ []))

-- ---- a task takes

-- nothing
pub takes_none : (items : List Item) (task : ℕ) (pieces : List Piece) (takings : List Taking) → Takes items task 0 pieces pieces takings takings
takes_none items task pieces takings = record {
  added = [];
  more_are = sym (append-nil takings);
  aimed = All-nil (λ (t : Taking). t.to ≡ task);
  solid = All-nil (λ (t : Taking). 1 ≤ t.amount);
  carried = All-nil (IsCarried items);
  total = refl;
  less = omega arith;
  each = λ u. omega arith;
}

-- one taking, which leaves these pieces
abbrev one : ℕ → ℕ → ℕ → Option ℕ → Taking
one from to amount along = record { from = from; to = to; amount = amount; along = along }

takes_one : (items : List Item) (from to amount : ℕ) (along : Option ℕ) (pieces later : List Piece) (takings : List Taking) → IsCarried items (one from to amount along)
    → all_kept later + amount ≡ all_kept pieces → ((u : ℕ) → kept_of later u + cond (eqb from u) amount 0 ≡ kept_of pieces u)
    → Takes items to amount pieces later takings (takings_with takings (one from to amount along))
takes_one items from to zero along pieces later takings carried less each = record {
  added = [];
  more_are = sym (append-nil takings);
  aimed = All-nil (λ (t : Taking). t.to ≡ to);
  solid = All-nil (λ (t : Taking). 1 ≤ t.amount);
  carried = All-nil (IsCarried items);
  total = refl;
  less = less;
  each = λ u. omega (arith, each u, nothing (eqb from u));
}
  where
    nothing : (b : Bool) → ◌≡◌ {A = ℕ} (cond b 0 0) 0
    nothing true = refl
    nothing false = refl
takes_one items from to (suc rest) along pieces later takings carried less each =
    let taking = one from to (suc rest) along in
    record {
      added = taking ∷ [];
      more_are = refl;
      aimed = All-push (λ (t : Taking). t.to ≡ to) [] taking (All-nil (λ (t : Taking). t.to ≡ to)) refl;
      solid = All-push (λ (t : Taking). 1 ≤ t.amount) [] taking (All-nil (λ (t : Taking). 1 ≤ t.amount)) (omega arith);
      carried = All-push (IsCarried items) [] taking (All-nil (IsCarried items)) carried;
      total = omega arith;
      less = less;
      each = λ u. omega (arith, each u);
    }

-- one after the other
pub takes_more : (items : List Item) (task a b : ℕ) (pieces middle later : List Piece) (takings more most : List Taking)
    → Takes items task a pieces middle takings more → Takes items task b middle later more most → Takes items task (a + b) pieces later takings most
takes_more items task a b pieces middle later takings more most x y = record {
  added = x.added ++ y.added;
  more_are = y.more_are ∙ ap (λ (l : List Taking). l ++ y.added) x.more_are ∙ append_assoc takings x.added y.added;
  aimed = All-append (λ (t : Taking). t.to ≡ task) x.added y.added x.aimed y.aimed;
  solid = All-append (λ (t : Taking). 1 ≤ t.amount) x.added y.added x.solid y.solid;
  carried = All-append (IsCarried items) x.added y.added x.carried y.carried;
  total = omega (arith, sum_by-append taking_amount x.added y.added, x.total, y.total);
  less = omega (arith, x.less, y.less);
  each = λ u. omega (arith, x.each u, y.each u, sum_by-append (amount_from u) x.added y.added);
}

-- ---- what a piece gives

both_parts : (b : Bool) (whole part : ℕ) → part ≤ whole → cond b (whole - part) 0 + cond b part 0 ≡ cond b whole 0
both_parts true whole part low = omega arith
both_parts false whole part low = refl

-- of the one on top
pub takes_top : (items : List Item) (task amount : ℕ) (top : Piece) (rest : List Piece) (takings : List Taking) → amount ≤ top.amount
    → Takes items task amount (rest ++ top ∷ []) (pieces_with rest top.task (top.amount - amount)) takings
    (takings_with takings (one top.task task amount None))
takes_top items task amount top rest takings low =
    takes_one items top.task task amount None (rest ++ top ∷ []) (pieces_with rest top.task (top.amount - amount)) takings
    (λ i e. absurd cc)
    (omega (arith, all_with rest top.task (top.amount - amount), sum_by_push piece_amount rest top))
    (λ u. omega (arith, both_parts (eqb top.task u) top.amount amount low, kept_with rest top.task (top.amount - amount) u, sum_by_push (amount_of u) rest top))

-- of one that stands anywhere
pub takes_at : (items : List Item) (from task amount index : ℕ) (pieces : List Piece) (at : ℕ) (piece : Piece) (takings : List Taking) → at < length pieces → piece ≡ get_or pieces at piece → piece.task ≡ from
    → amount ≤ piece.amount → Carries items (one from task amount (Some index)) index
    → Takes items task amount pieces (set pieces at (record { task = piece.task; amount = piece.amount - amount })) takings
    (takings_with takings (one from task amount (Some index)))
takes_at items from task amount index pieces at piece takings lt is of low carries =
    let new : Piece = record { task = piece.task; amount = piece.amount - amount } in
    let old_amount : piece_amount (get_or pieces at piece) ≡ piece.amount = ap piece_amount (sym is) in
    takes_one items from task amount (Some index) pieces (set pieces at new) takings
    (λ i e. let same : index ≡ i = cc in subst (Carries items (one from task amount (Some index))) same carries)
    (omega (arith, old_amount, sum_by-set piece_amount pieces at new piece lt))
    (λ u.
    let old_part : amount_of u (get_or pieces at piece) ≡ cond (eqb piece.task u) piece.amount 0 = ap (amount_of u) (sym is) in
    let part : cond (eqb from u) amount 0 ≡ cond (eqb piece.task u) amount 0 = ap (λ (w : ℕ). cond (eqb w u) amount 0) (sym of) in
    omega (arith, both_parts (eqb piece.task u) piece.amount amount low, part, old_part, sum_by-set (amount_of u) pieces at new piece lt))
