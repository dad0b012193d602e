-- The uses of what tasks make, as two lists.
use Rattle.std.proofs.Common.{◌≡◌, ℕ, zero, suc, ◌+◌, ◌<◌, ◌≤◌, Bool, true, false, ◌&&◌, ◌||◌, eqb, List, [], ◌∷◌, ◌++◌, length}
use Rattle.std.proofs.Common.{length-append, Option, Some, None, refl, sym, ap, ◌∙◌, arith}
use Rattle.std.specs.Prelude.{All, replicate, unwrap_or}
use Rattle.std.specs.List.{list_any, sum_by}
use Rattle.std.specs.Option.{ForSome}
use Rattle.std.proofs.lemmas.List.{length-replicate}
use Rattle.std.proofs.lemmas.List.Sums.{sum_by-cons}
use Rattle.std.proofs.lemmas.List.Elements.{All-head, All-tail, All-nil, All-cons, All-append, All-weaker}
use Rattle.std.proofs.lemmas.Bool.{ne_eqb}
use Rattle.row_table.specs.Rows.{has}
use Rattle.mp_system.specs.System.{is_named}
use Rattle.graphs.specs.Graph.{IsAmong}
use Rattle.shared_systems.specs.Shared.{SharedItem, is_made_by, is_read_by}
use Rattle.shared_systems.specs.Bounds.{IsSharedItemWithin, reader_count}
use Rattle.joined_systems.specs.Kinds.{makers, takers, meet}

or_assoc : (a b c : Bool) → ((a || b) || c) ≡ (a || (b || c))
or_assoc true b c = refl
or_assoc false b c = refl

and_none : (b : Bool) → (b && false) ≡ false
and_none true = refl
and_none false = refl

shared : (a b c : Bool) → ((a && b) || (a && c)) ≡ (a && (b || c))
shared true b c = refl
shared false b c = refl

pub flip_and : (a b : Bool) → (a && b) ≡ (b && a)
flip_and true true = refl
flip_and true false = refl
flip_and false true = refl
flip_and false false = refl

pub meet_flip : (fs ts : List ℕ) (u w : ℕ) → meet ts fs w u ≡ meet fs ts u w
meet_flip [] [] u w = refl
meet_flip [] (t ∷ ts) u w = refl
meet_flip (f ∷ fs) [] u w = refl
meet_flip (f ∷ fs) (t ∷ ts) u w =
    ap (λ (b : Bool). b || meet ts fs w u) (flip_and (eqb t w) (eqb f u)) ∙ ap (λ (b : Bool). (eqb f u && eqb t w) || b) (meet_flip fs ts u w)

meet_append : (fs ts gs hs : List ℕ) (u w : ℕ) → length fs ≡ length ts
    → meet (fs ++ gs) (ts ++ hs) u w ≡ (meet fs ts u w || meet gs hs u w)
meet_append [] [] gs hs u w same = refl
meet_append [] (t ∷ ts) gs hs u w same = absurd (omega arith)
meet_append (f ∷ fs) [] gs hs u w same = absurd (omega arith)
meet_append (f ∷ fs) (t ∷ ts) gs hs u w same =
    ap (λ (b : Bool). (eqb f u && eqb t w) || b) (meet_append fs ts gs hs u w (omega arith))
    ∙ sym (or_assoc (eqb f u && eqb t w) (meet fs ts u w) (meet gs hs u w))

meet_one : (f : ℕ) (to : List ℕ) (u w : ℕ) → meet (replicate (length to) f) to u w ≡ (eqb f u && has to w)
meet_one f [] u w = sym (and_none (eqb f u))
meet_one f (c ∷ to) u w =
    ap (λ (b : Bool). (eqb f u && eqb c w) || b) (meet_one f to u w) ∙ shared (eqb f u) (eqb c w) (has to w)

maker_is : (from : Option ℕ) (u : ℕ) → 1 ≤ u → eqb (unwrap_or from 0) u ≡ is_named from u
maker_is None u some = ne_eqb 0 u (λ e. omega (arith, e, some))
maker_is (Some v) u some = refl

pub meet_reads : (xs : List SharedItem) (u w : ℕ) → 1 ≤ u
    → meet (makers xs) (takers xs) u w ≡ list_any (λ x. is_made_by u x && is_read_by w x) xs
meet_reads [] u w some = refl
meet_reads (x ∷ xs) u w some =
    meet_append (replicate (length x.readers) (unwrap_or x.from 0)) x.readers (makers xs) (takers xs) u w
    (length-replicate (length x.readers) (unwrap_or x.from 0))
    ∙ ap (λ (b : Bool). b || meet (makers xs) (takers xs) u w) (meet_one (unwrap_or x.from 0) x.readers u w
    ∙ ap (λ (b : Bool). b && has x.readers w) (maker_is x.from u some))
    ∙ ap (λ (b : Bool). (is_made_by u x && is_read_by w x) || b) (meet_reads xs u w some)

pub makers_long : (xs : List SharedItem) → length (makers xs) ≡ sum_by reader_count xs
makers_long [] = refl
makers_long (x ∷ xs) =
    omega (
      arith,
      length-append (replicate (length x.readers) (unwrap_or x.from 0)) (makers xs),
      length-replicate (length x.readers) (unwrap_or x.from 0),
      makers_long xs,
      sum_by-cons reader_count x xs,
    )

pub takers_long : (xs : List SharedItem) → length (takers xs) ≡ sum_by reader_count xs
takers_long [] = refl
takers_long (x ∷ xs) = omega (arith, length-append x.readers (takers xs), takers_long xs, sum_by-cons reader_count x xs)

all_one : (n k v : ℕ) → v < n → All (λ u. u < n) (replicate k v)
all_one n zero v lt = All-nil (λ u. u < n)
all_one n (suc k) v lt = All-cons (λ u. u < n) v (replicate k v) lt (all_one n k v lt)

maker_low : (n : ℕ) (from : Option ℕ) → ForSome from (IsAmong n) → unwrap_or from 0 < n + 1
maker_low n None within = omega arith
maker_low n (Some u) within = (let task = within u refl in omega (arith, task.1))

pub makers_low : (n : ℕ) (xs : List SharedItem) → All (IsSharedItemWithin n) xs → All (λ u. u < n + 1) (makers xs)
makers_low n [] within = All-nil (λ u. u < n + 1)
makers_low n (x ∷ xs) within =
    All-append (λ u. u < n + 1) (replicate (length x.readers) (unwrap_or x.from 0)) (makers xs)
    (all_one (n + 1) (length x.readers) (unwrap_or x.from 0) (maker_low n x.from (All-head (IsSharedItemWithin n) x xs within).producer))
    (makers_low n xs (All-tail (IsSharedItemWithin n) x xs within))

pub takers_low : (n : ℕ) (xs : List SharedItem) → All (IsSharedItemWithin n) xs → All (λ u. u < n + 1) (takers xs)
takers_low n [] within = All-nil (λ u. u < n + 1)
takers_low n (x ∷ xs) within =
    All-append (λ u. u < n + 1) x.readers (takers xs)
    (All-weaker (IsAmong n) (λ u. u < n + 1) (λ u task. omega (arith, task.1)) x.readers (All-head (IsSharedItemWithin n) x xs within).readers)
    (takers_low n xs (All-tail (IsSharedItemWithin n) x xs within))
