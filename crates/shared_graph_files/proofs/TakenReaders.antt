-- The readers of an item line, as the code takes them one by one.
use Rattle.std.proofs.Common.{◌≡◌, ℕ, ◌≤◌, Bool, true, false, ◌&&◌, not, leb, ltb, eqb, Option, Some, None, List, [], ◌∷◌, ◌++◌}
use Rattle.std.proofs.Common.{refl, sym, ap, ◌∙◌, append_assoc}
use Rattle.std.specs.Option.{option_map}
use Rattle.std.proofs.lemmas.Bool.{leb-true}
use Rattle.lists.proofs.Bools.{both_true}
use Rattle.lists.proofs.Lists.{append_nil}
use Rattle.mp_text.specs.Text.{number_of, numbers_of}
use Rattle.shared_systems.specs.Growing.{ItemsSoFar, with_reader}
use Rattle.shared_graph_files.specs.Reader.{is_next, are_fit, AreTaken, IsTaking}

pub first_number : (word : List ℕ) (left : List (List ℕ)) (c : ℕ) → Some c ≡ number_of word
    → numbers_of (word ∷ left) ≡ option_map (λ ns. c ∷ ns) (numbers_of left)
unfolding numbers_of
first_number word left c e = rw (← e) refl

pub first_none : (word : List ℕ) (left : List (List ℕ)) → None ≡ number_of word → numbers_of (word ∷ left) ≡ None
unfolding numbers_of
first_none word left e = rw (← e) refl

pub no_numbers : numbers_of [] ≡ Some []
unfolding numbers_of
no_numbers = refl

map_none : (f : List ℕ → List ℕ) (o : Option (List ℕ)) → o ≡ None → option_map f o ≡ None
map_none f o e = rw e refl

map_both : (read : List ℕ) (c : ℕ) (o : Option (List ℕ))
    → option_map (λ rest. read ++ rest) (option_map (λ ns. c ∷ ns) o) ≡ option_map (λ rest. (read ++ c ∷ []) ++ rest) o
map_both read c None = refl
map_both read c (Some ns) = ap Some (sym (append_assoc read (c ∷ []) ns))

and_assoc : (a b c : Bool) → (a && (b && c)) ≡ ((a && b) && c)
and_assoc true b c = refl
and_assoc false b c = refl

and_true : (a : Bool) → (a && true) ≡ a
and_true true = refl
and_true false = refl

module _ (n from : ℕ) (words left later : List (List ℕ)) (word : List ℕ) (fit : Bool) (last : ℕ) (old new : ItemsSoFar)
    (taking : IsTaking n from words left fit last old new) (split : left ≡ word ∷ later) where
  -- a word that is no number
  pub no_number : None ≡ number_of word → numbers_of words ≡ None
  no_number e =
      taking.numbers
      ∙ map_none (λ rest. taking.read ++ rest) (numbers_of left) (ap numbers_of split ∙ first_none word later e)

  -- one reader more
  module _ (c : ℕ) (number : Some c ≡ number_of word) (next : Bool) (next_is : next ≡ (fit && is_next n from last c)) where
    numbers_next : numbers_of words ≡ option_map (λ rest. (taking.read ++ c ∷ []) ++ rest) (numbers_of later)
    numbers_next =
        taking.numbers
        ∙ ap (option_map (λ rest. taking.read ++ rest)) (ap numbers_of split ∙ first_number word later c number)
        ∙ map_both taking.read c (numbers_of later)

    fits_next : (rest : List ℕ) → are_fit n from 0 ((taking.read ++ c ∷ []) ++ rest) ≡ (next && are_fit n from c rest)
    fits_next rest =
        ap (are_fit n from 0) (append_assoc taking.read (c ∷ []) rest)
        ∙ taking.fits (c ∷ rest)
        ∙ and_assoc fit (is_next n from last c) (are_fit n from c rest)
        ∙ ap (λ (b : Bool). b && are_fit n from c rest) (sym next_is)

    was_fit : next ≡ true → fit ≡ true
    was_fit e = (both_true fit (is_next n from last c) (sym next_is ∙ e)).0

    -- a reader that is fit is no greater than the number of tasks
    pub next_small : next ≡ true → c ≤ n
    next_small e =
        let is = (both_true fit (is_next n from last c) (sym next_is ∙ e)).1 in
        let ends = (both_true (ltb last c && leb c n) (not (eqb c from)) is).0 in
        leb-true c n (both_true (ltb last c) (leb c n) ends).1

    pub taken_next : (newer : ItemsSoFar) → newer ≡ with_reader new c → IsTaking n from words later next c old newer
    taken_next newer is = record {
      read = taking.read ++ c ∷ [];
      numbers = numbers_next;
      fits = fits_next;
      taken = λ e. is ∙ ap (λ (made : ItemsSoFar). with_reader made c) (taking.taken (was_fit e))
          ∙ (λ i. record { items = old.items; waiting = append_assoc old.waiting taking.read (c ∷ []) i });
    }

    pub left_out : next ≡ false → IsTaking n from words later next c old new
    left_out not_fit = record {
      read = taking.read ++ c ∷ [];
      numbers = numbers_next;
      fits = fits_next;
      taken = λ e. absurd (cc (sym not_fit ∙ e));
    }

-- no word is left
pub all_taken : (n from : ℕ) (words left : List (List ℕ)) (fit : Bool) (last : ℕ) (old new : ItemsSoFar)
    → IsTaking n from words left fit last old new → left ≡ [] → AreTaken n from words old new fit
all_taken n from words left fit last old new taking none =
    record {
      readers = taking.read;
      numbers = taking.numbers ∙ ap (option_map (λ rest. taking.read ++ rest)) (ap numbers_of none ∙ no_numbers)
          ∙ ap Some (append_nil taking.read);
      fits = sym (ap (are_fit n from 0) (sym (append_nil taking.read)) ∙ taking.fits [] ∙ and_true fit);
      taken = taking.taken;
    }
