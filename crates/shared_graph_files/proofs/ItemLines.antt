-- The words of an item line: those that are no item, and the item that others are.
use Rattle.std.proofs.Common.{◌≡◌, ℕ, Bool, ◌&&◌, leb, Option, Some, None, List, [], ◌∷◌, get_or, drop}
use Rattle.std.proofs.Common.{refl, sym, ap, ◌∙◌}
use Rattle.std.specs.Option.{option_map, option_and_then}
use Rattle.lists.proofs.Bools.{both_true}
use Rattle.mp_text.specs.Text.{number_of, numbers_of}
use Rattle.mp_system.specs.Given.{end_given}
use Rattle.shared_systems.specs.Growing.{ItemsSoFar}
use Rattle.shared_graph_files.specs.SharedGraphFile.{item_of_numbers}
use Rattle.shared_graph_files.specs.SharedGraphFile.{is_producer}
use Rattle.shared_graph_files.specs.Reader.{AreTaken, IsTaken}
use Rattle.shared_graph_files.proofs.ItemLemmas.{producer_small, fit_is}
use Rattle.shared_graph_files.proofs.TakenReaders.{first_number, first_none, no_numbers}

-- ---- words that are no item

abbrev both : Option ℕ → Option (List ℕ) → Option (List ℕ)
both first rest = option_and_then (λ n. option_map (λ ns. n ∷ ns) rest) first

by_words : (word : List ℕ) (words : List (List ℕ)) → numbers_of (word ∷ words) ≡ both (number_of word) (numbers_of words)
unfolding numbers_of
by_words word words = refl

both_none : (first : Option ℕ) → both first None ≡ None
both_none None = refl
both_none (Some n) = refl

none_item : (numbers : Option (List ℕ)) → numbers ≡ None → item_of_numbers numbers ≡ None
none_item numbers e = rw e refl

one_item : (first : Option ℕ) → item_of_numbers (both first (Some [])) ≡ None
one_item None = refl
one_item (Some n) = refl

-- the first word is no number, or there is none
pub no_size : (words : List (List ℕ)) → None ≡ number_of (get_or words 0 []) → item_of_numbers (numbers_of words) ≡ None
no_size [] e = ap item_of_numbers no_numbers
no_size (word ∷ words) e = none_item (numbers_of (word ∷ words)) (first_none word words e)

-- the second is none, or there is none
pub no_from : (words left : List (List ℕ)) → left ≡ drop 1 words → None ≡ number_of (get_or left 0 []) → item_of_numbers (numbers_of words) ≡ None
no_from [] left is e = ap item_of_numbers no_numbers
no_from (word ∷ []) left is e =
    ap item_of_numbers (by_words word [] ∙ ap (both (number_of word)) no_numbers) ∙ one_item (number_of word)
no_from (word ∷ second ∷ words) left is e =
    let none : numbers_of (second ∷ words) ≡ None =
    first_none second words (e ∙ ap (λ (ws : List (List ℕ)). number_of (get_or ws 0 [])) is) in
    none_item (numbers_of (word ∷ second ∷ words))
    (by_words word (second ∷ words) ∙ ap (both (number_of word)) none ∙ both_none (number_of word))

-- one of the others is none
pub no_readers : (words left rest : List (List ℕ)) → left ≡ drop 1 words → rest ≡ drop 1 left → numbers_of rest ≡ None
    → item_of_numbers (numbers_of words) ≡ None
no_readers [] left rest is rest_is e = ap item_of_numbers no_numbers
no_readers (word ∷ []) left rest is rest_is e =
    ap item_of_numbers (by_words word [] ∙ ap (both (number_of word)) no_numbers) ∙ one_item (number_of word)
no_readers (word ∷ second ∷ words) left rest is rest_is e =
    let none : numbers_of words ≡ None = ap numbers_of (sym (rest_is ∙ ap (drop 1) is)) ∙ e in
    let later : numbers_of (second ∷ words) ≡ None =
    by_words second words ∙ ap (both (number_of second)) none ∙ both_none (number_of second) in
    none_item (numbers_of (word ∷ second ∷ words))
    (by_words word (second ∷ words) ∙ ap (both (number_of word)) later ∙ both_none (number_of word))

-- ---- words that are an item

no_word : (n : ℕ) → Some n ≡ number_of [] → ⊥
unfolding number_of
no_word n e = cc

numbers_are : (words left rest : List (List ℕ)) (size from : ℕ) (readers : List ℕ) → left ≡ drop 1 words → rest ≡ drop 1 left
    → Some size ≡ number_of (get_or words 0 []) → Some from ≡ number_of (get_or left 0 []) → numbers_of rest ≡ Some readers
    → numbers_of words ≡ Some (size ∷ from ∷ readers)
numbers_are [] left rest size from readers is rest_is first second others = absurd (no_word size first)
numbers_are (word ∷ []) left rest size from readers is rest_is first second others =
    absurd (no_word from (second ∙ ap (λ (ws : List (List ℕ)). number_of (get_or ws 0 [])) is))
numbers_are (word ∷ next ∷ words) left rest size from readers is rest_is first second others =
    let third : numbers_of words ≡ Some readers = ap numbers_of (sym (rest_is ∙ ap (drop 1) is)) ∙ others in
    let later : numbers_of (next ∷ words) ≡ Some (from ∷ readers) =
    first_number next words from (second ∙ ap (λ (ws : List (List ℕ)). number_of (get_or ws 0 [])) is)
    ∙ ap (option_map (λ ns. from ∷ ns)) third in
    first_number word (next ∷ words) size first ∙ ap (option_map (λ ns. size ∷ ns)) later

pub item_taken : (n : ℕ) (words left rest : List (List ℕ)) (size from : ℕ) (fit all : Bool) (old new : ItemsSoFar)
    → left ≡ drop 1 words → rest ≡ drop 1 left
    → Some size ≡ number_of (get_or words 0 []) → Some from ≡ number_of (get_or left 0 []) → AreTaken n from rest old new fit
    → all ≡ (leb from n && fit) → IsTaken n words old new size from all
item_taken n words left rest size from fit all old new is rest_is first second taken all_is =
    let readers = taken.readers in
    record {
      readers = readers;
      numbers = numbers_are words left rest size from readers is rest_is first second taken.numbers;
      fits = all_is ∙ ap (λ (b : Bool). b && fit) (sym (producer_small n from))
          ∙ ap (λ (b : Bool). is_producer n (end_given from) && b) (taken.fits ∙ fit_is n from readers);
      taken = λ e. taken.taken (both_true (leb from n) fit (sym all_is ∙ e)).1;
    }
