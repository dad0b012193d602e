-- What the tests of an item line say of its item, and of its readers.
use Rattle.std.proofs.Common.{◌≡◌, ℕ, zero, suc, ◌+◌, ◌<◌, ◌≤◌, Bool, true, false, ◌&&◌, not, cond, leb, ltb, eqb, inl, inr}
use Rattle.std.proofs.Common.{Option, Some, None, List, [], ◌∷◌, length, get_or, refl, sym, ap, ◌∙◌, arith}
use Rattle.std.specs.Prelude.{unwrap_or}
use Rattle.std.specs.List.{All, list_all}
use Rattle.std.specs.List.Sorted.{IsStrictlyIncreasing}
use Rattle.std.specs.Option.{ForSome}
use Rattle.std.proofs.lemmas.Bool.{leb-true, le-leb, ltb-true, lt-ltb, eqb-true, eqb-false, ne_eqb, and_from}
use Rattle.std.proofs.lemmas.List.Elements.{All-head, All-tail}
use Rattle.lists.proofs.Lists.{rising-tail}
use Rattle.lists.proofs.Bools.{both_true, false_of_not, eqb_flip, true_or_false}
use Rattle.mp_system.specs.System.{is_named}
use Rattle.mp_system.specs.Given.{end_given}
use Rattle.graphs.specs.Graph.{IsAmong}
use Rattle.shared_systems.specs.Shared.{SharedItem}
use Rattle.shared_systems.specs.Bounds.{IsSharedItemWithin}
use Rattle.shared_graph_files.specs.SharedGraphFile.{item_of_numbers, is_producer, is_reader, rise_from, are_rising, has_ends}
use Rattle.shared_graph_files.specs.Reader.{are_fit}

-- ---- the numbers rise

rising_after : (c : ℕ) (ds : List ℕ) → rise_from c ds ≡ true → (k : ℕ) → k + 1 < length (c ∷ ds)
    → get_or (c ∷ ds) k 0 < get_or ds k 0
rising_after c [] e k lt = absurd (omega arith)
rising_after c (d ∷ ds) e zero lt = ltb-true c d (both_true (ltb c d) (rise_from d ds) e).0
rising_after c (d ∷ ds) e (suc k) lt = rising_after d ds (both_true (ltb c d) (rise_from d ds) e).1 k (omega arith)

pub increasing : (cs : List ℕ) → are_rising cs ≡ true → IsStrictlyIncreasing cs
increasing [] e k lt = absurd (omega arith)
increasing (c ∷ cs) e k lt =
    let next : k + 1 ≡ suc k = omega arith in
    rw next (rising_after c cs e k lt)

-- ---- each reader is a task other than the producer

module _ (n : ℕ) (from : Option ℕ) where
  reader_is : (c : ℕ) → is_reader n from c ≡ true → (IsAmong n c) × (is_named from c ≡ false)
  reader_is c e =
      let parts = both_true (leb 1 c && leb c n) (not (is_named from c)) e in
      let ends = both_true (leb 1 c) (leb c n) parts.0 in
      ((leb-true 1 c ends.0, leb-true c n ends.1), false_of_not (is_named from c) parts.1)

  reader_at : (cs : List ℕ) → list_all (is_reader n from) cs ≡ true → (i d : ℕ) → i < length cs → is_reader n from (get_or cs i d) ≡ true
  reader_at [] e i d lt = absurd (omega arith)
  reader_at (c ∷ cs) e zero d lt = (both_true (is_reader n from c) (list_all (is_reader n from) cs) e).0
  reader_at (c ∷ cs) e (suc i) d lt =
      reader_at cs (both_true (is_reader n from c) (list_all (is_reader n from) cs) e).1 i d (omega arith)

  pub are_among : (cs : List ℕ) → list_all (is_reader n from) cs ≡ true → All (IsAmong n) cs
  are_among cs e i d lt = (reader_is (get_or cs i d) (reader_at cs e i d lt)).0

  pub are_apart : (cs : List ℕ) → list_all (is_reader n from) cs ≡ true → All (λ c. is_named from c ≡ false) cs
  are_apart cs e i d lt = (reader_is (get_or cs i d) (reader_at cs e i d lt)).1

-- ---- the producer

-- what an item line states as producer is a number of which 0 names none
pub stated_from : (x : SharedItem) → x.from ≡ end_given 0 → (numbers : Option (List ℕ))
    → (from : ℕ) × ((unwrap_or (item_of_numbers numbers) x).from ≡ end_given from)
stated_from x none None = (0, none)
stated_from x none (Some []) = (0, none)
stated_from x none (Some (size ∷ [])) = (0, none)
stated_from x none (Some (size ∷ from ∷ readers)) = (from, refl)

given_among : (n from : ℕ) (b : Bool) → eqb from 0 ≡ b → is_producer n (cond b None (Some from)) ≡ true
    → ForSome (cond b None (Some from)) (IsAmong n)
given_among n from true e fits u is = absurd cc
given_among n from false e fits u is =
    let same : from ≡ u = cc in
    let small = leb-true from n fits in
    let some = eqb-false from 0 e in
    (omega (arith, some, same), omega (arith, small, same))

pub producer_among : (n from : ℕ) → is_producer n (end_given from) ≡ true → ForSome (end_given from) (IsAmong n)
producer_among n from fits = given_among n from (eqb from 0) refl fits

-- a producer is one of so many tasks where its number is at most as great
given_small : (n from : ℕ) (b : Bool) → eqb from 0 ≡ b → is_producer n (cond b None (Some from)) ≡ leb from n
given_small n from true e = sym (le-leb from n (omega (arith, eqb-true from 0 e)))
given_small n from false e = refl

pub producer_small : (n from : ℕ) → is_producer n (end_given from) ≡ leb from n
producer_small n from = given_small n from (eqb from 0) refl

-- ---- the readers that the code takes

-- a reader that is greater than another number is no 0
named : (from c : ℕ) (b : Bool) → eqb from 0 ≡ b → 1 ≤ c → is_named (cond b None (Some from)) c ≡ eqb c from
named from c true e some = sym (ne_eqb c from (let none = eqb-true from 0 e in omega arith))
named from c false e some = eqb_flip from c

-- the tests of a reader, and of those after it, one by one and all at once
shuffle : (a b c l r : Bool) → (((a && b) && c) && (l && r)) ≡ ((((a && b) && c) && l) && r)
shuffle false b c l r = refl
shuffle true false c l r = refl
shuffle true true false l r = refl
shuffle true true true l r = refl

and_false : (b : Bool) → (b && false) ≡ false
and_false true = refl
and_false false = refl

module _ (n from : ℕ) where
  fit_step : (last c : ℕ) (l r : Bool) (b : Bool) → ltb last c ≡ b
      → (((ltb last c && leb c n) && not (eqb c from)) && (l && r))
      ≡ ((is_reader n (end_given from) c && l) && (ltb last c && r))
  fit_step last c l r true e =
      let some : 1 ≤ c = (let lt = ltb-true last c e in omega arith) in
      rw (e, le-leb 1 c some, named from c (eqb from 0) refl some) (shuffle true (leb c n) (not (eqb c from)) l r)
  fit_step last c l r false e = rw e (sym (and_false (is_reader n (end_given from) c && l)))

  fit_after : (last : ℕ) (cs : List ℕ) → are_fit n from last cs ≡ (list_all (is_reader n (end_given from)) cs && rise_from last cs)
  fit_after last [] = refl
  fit_after last (c ∷ cs) =
      ap (λ (b : Bool). ((ltb last c && leb c n) && not (eqb c from)) && b) (fit_after c cs)
      ∙ fit_step last c (list_all (is_reader n (end_given from)) cs) (rise_from c cs) (ltb last c) refl

  rise_from_zero : (cs : List ℕ)
      → (list_all (is_reader n (end_given from)) cs && rise_from 0 cs) ≡ (list_all (is_reader n (end_given from)) cs && are_rising cs)
  rise_from_zero [] = refl
  rise_from_zero (c ∷ cs) = elim (true_or_false (is_reader n (end_given from) c)) [
    | inl is ↦ (let some = (reader_is n (end_given from) c is).0.0 in rw (lt-ltb 0 c (omega (arith, some))) refl)
    | inr not_one ↦ rw not_one refl
  ]

  -- the code's test of all readers is that of the format
  pub fit_is : (cs : List ℕ) → are_fit n from 0 cs ≡ (list_all (is_reader n (end_given from)) cs && are_rising cs)
  fit_is cs = fit_after 0 cs ∙ rise_from_zero cs

-- ---- an item within the limits passes

rises : (c : ℕ) (ds : List ℕ) → IsStrictlyIncreasing (c ∷ ds) → rise_from c ds ≡ true
rises c [] rising = refl
rises c (d ∷ ds) rising =
    and_from (ltb c d) (rise_from d ds) (lt-ltb c d (rising 0 (omega arith))) (rises d ds (rising-tail c (d ∷ ds) rising))

rising_is : (cs : List ℕ) → IsStrictlyIncreasing cs → are_rising cs ≡ true
rising_is [] rising = refl
rising_is (c ∷ cs) rising = rises c cs rising

producer_is : (n : ℕ) (from : Option ℕ) → ForSome from (IsAmong n) → is_producer n from ≡ true
producer_is n None among = refl
producer_is n (Some u) among = le-leb u n (among u refl).1

readers_are : (n : ℕ) (from : Option ℕ) (cs : List ℕ) → All (IsAmong n) cs → All (λ c. is_named from c ≡ false) cs
    → list_all (is_reader n from) cs ≡ true
readers_are n from [] among apart = refl
readers_are n from (c ∷ cs) among apart =
    let one = All-head (IsAmong n) c cs among in
    let other = All-head (λ d. is_named from d ≡ false) c cs apart in
    and_from (is_reader n from c) (list_all (is_reader n from) cs)
    (and_from (leb 1 c && leb c n) (not (is_named from c)) (and_from (leb 1 c) (leb c n) (le-leb 1 c one.0) (le-leb c n one.1)) (ap not other))
    (readers_are n from cs (All-tail (IsAmong n) c cs among) (All-tail (λ d. is_named from d ≡ false) c cs apart))

pub ends_are : (n : ℕ) (x : SharedItem) → IsSharedItemWithin n x → has_ends n x ≡ true
ends_are n x within =
    and_from (is_producer n x.from) (list_all (is_reader n x.from) x.readers && are_rising x.readers)
    (producer_is n x.from within.producer)
    (and_from (list_all (is_reader n x.from) x.readers) (are_rising x.readers)
    (readers_are n x.from x.readers within.readers within.apart) (rising_is x.readers within.rising))

-- a producer is the task that its number names
pub from_back : (n : ℕ) (from : Option ℕ) → ForSome from (IsAmong n) → end_given (unwrap_or from 0) ≡ from
from_back n None among = refl
from_back n (Some u) among = let some = (among u refl).0 in rw (ne_eqb u 0 (λ z. omega arith)) refl

pub from_low : (n : ℕ) (from : Option ℕ) → ForSome from (IsAmong n) → unwrap_or from 0 ≤ n
from_low n None among = omega arith
from_low n (Some u) among = (among u refl).1
