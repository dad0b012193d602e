-- How a scan takes off the first line, the first token and the first digit.
use Rattle.std.proofs.Common.{◌≡◌, ℕ, zero, suc, ◌+◌, ◌*◌, ◌-◌, ◌^◌, ◌<◌, ◌≤◌, Bool, true, false, ltb, eqb, List, [], ◌∷◌}
use Rattle.std.proofs.Common.{length, take, drop, get_or, refl, sym, ap, ◌∙◌, arith, Option, Some, None, inl, inr, ⊎_elim}
use Rattle.std.proofs.lemmas.Bool.{lt-ltb, le-ltb}
use Rattle.std.specs.List.{position_or_len, prefix_len, before_first, after_first, filter, slice_split, onto_first, list_all}
use Rattle.std.proofs.lemmas.List.{drop_all, drop-drop, take_rest, length-drop}
use Rattle.std.specs.Char.{is_ascii_digit}
use Rattle.std.specs.Option.{SomeIff, MatchOption, option_and_then}
use Rattle.std.proofs.lemmas.Bool.{and_parts}
use lib.Pointwise.{pointwise}
use Rattle.std.proofs.str.Laws.{order}
use Rattle.mp_text.specs.Text.{is_blank, is_feed, onto_line, lines_of, is_filled, tokens_of, is_digit, value_from}
use Rattle.mp_text.specs.Text.{number_from, number_of, positive_of, negative_of, signed_of}
use Rattle.lists.proofs.Bools.{true_or_false}

-- ---- a cut at the first element that passes

pub before_first-yes : {X : Type 0} (p : X → Bool) (x : X) (xs : List X) → p x ≡ true → before_first p (x ∷ xs) ≡ []
before_first-yes p x xs h = rw h refl

pub after_first-yes : {X : Type 0} (p : X → Bool) (x : X) (xs : List X) → p x ≡ true → after_first p (x ∷ xs) ≡ xs
after_first-yes p x xs h = rw h refl

pub before_first-no : {X : Type 0} (p : X → Bool) (x : X) (xs : List X) → p x ≡ false → before_first p (x ∷ xs) ≡ x ∷ before_first p xs
before_first-no p x xs h =
    rw h (let e : 1 + position_or_len p xs ≡ suc (position_or_len p xs) = omega arith in ap (λ (n : ℕ). take n (x ∷ xs)) e)

pub after_first-no : {X : Type 0} (p : X → Bool) (x : X) (xs : List X) → p x ≡ false → after_first p (x ∷ xs) ≡ after_first p xs
after_first-no p x xs h =
    rw h (let e : 1 + position_or_len p xs + 1 ≡ suc (position_or_len p xs + 1) = omega arith in ap (λ (n : ℕ). drop n (x ∷ xs)) e)

-- ---- lines

pub lines_of-yes : (b : ℕ) (bs : List ℕ) → is_feed b ≡ true → lines_of (b ∷ bs) ≡ [] ∷ lines_of bs
unfolding lines_of
lines_of-yes b bs h = rw h refl

pub lines_of-no : (b : ℕ) (bs : List ℕ) → is_feed b ≡ false → lines_of (b ∷ bs) ≡ onto_line b (lines_of bs)
unfolding lines_of
lines_of-no b bs h = rw h refl

pub lines_of-nil : lines_of [] ≡ []
unfolding lines_of
lines_of-nil = refl

-- the first line ends before the first feed
pub lines_of-cut : (b : ℕ) (bs : List ℕ) → lines_of (b ∷ bs) ≡ before_first is_feed (b ∷ bs) ∷ lines_of (after_first is_feed (b ∷ bs))
lines_of-cut b [] =
    elim (true_or_false (is_feed b)) [
      | inl h ↦ rw (lines_of-yes b [] h, before_first-yes is_feed b [] h, after_first-yes is_feed b [] h) refl
      | inr h ↦ rw (lines_of-no b [] h, before_first-no is_feed b [] h, after_first-no is_feed b [] h, lines_of-nil) refl
    ]
lines_of-cut b (c ∷ cs) =
    elim (true_or_false (is_feed b)) [
      | inl h ↦ rw (lines_of-yes b (c ∷ cs) h, before_first-yes is_feed b (c ∷ cs) h, after_first-yes is_feed b (c ∷ cs) h) refl
      | inr h ↦ rw (lines_of-no b (c ∷ cs) h, before_first-no is_feed b (c ∷ cs) h, after_first-no is_feed b (c ∷ cs) h)
          (ap (onto_line b) (lines_of-cut c cs))
    ]

-- ---- tokens

-- the first part of a split, and what the other parts hold
record Cut (p : ℕ → Bool) (xs : List ℕ) : Type 0 where
  parts : List (List ℕ)
  split : slice_split p xs ≡ before_first p xs ∷ parts
  rest : filter is_filled parts ≡ filter is_filled (slice_split p (after_first p xs))

cut_of : (p : ℕ → Bool) (xs : List ℕ) → Cut p xs
cut_of p [] = record { parts = []; split = refl; rest = refl }
cut_of p (x ∷ xs) =
    elim (true_or_false (p x)) [
      | inl h ↦
          record { parts = slice_split p xs; split = rw (before_first-yes p x xs h, h) refl; rest = rw (after_first-yes p x xs h) refl }
      | inr h ↦ (let c = cut_of p xs in record {
        parts = c.parts;
        split = rw (before_first-no p x xs h, h) (ap (onto_first x) c.split);
        rest = rw (after_first-no p x xs h) c.rest;
      })
    ]

pub tokens_of-nil : tokens_of [] ≡ []
unfolding tokens_of
tokens_of-nil = refl

pub tokens_of-skip : (b : ℕ) (bs : List ℕ) → is_blank b ≡ true → tokens_of (b ∷ bs) ≡ tokens_of bs
unfolding tokens_of
tokens_of-skip b bs h = rw h refl

pub tokens_of-cut : (b : ℕ) (bs : List ℕ) → is_blank b ≡ false
    → tokens_of (b ∷ bs) ≡ before_first is_blank (b ∷ bs) ∷ tokens_of (after_first is_blank (b ∷ bs))
unfolding tokens_of
tokens_of-cut b bs h =
    let c = cut_of is_blank (b ∷ bs) in
    let front = before_first-no is_blank b bs h in
    ap (filter is_filled) c.split ∙ rw front (ap (λ (ts : List (List ℕ)). (b ∷ before_first is_blank bs) ∷ ts) c.rest)

-- ---- numbers

-- further digits never make a number smaller
pub value_from-le : (n : ℕ) (bs : List ℕ) → n ≤ value_from n bs
value_from-le n [] = omega arith
value_from-le n (b ∷ bs) = omega (arith, value_from-le (10 * n + (b - 48)) bs)

pub number_of-filled : (bs : List ℕ) → 0 < length bs → number_of bs ≡ number_from 0 bs
unfolding number_of
number_of-filled [] lt = absurd (omega arith)
number_of-filled (b ∷ bs) lt = refl

pub number_of-empty : (bs : List ℕ) → length bs ≡ 0 → number_of bs ≡ None
unfolding number_of
number_of-empty [] e = refl
number_of-empty (b ∷ bs) e = absurd (omega arith)

pub number_from-digit : (n b : ℕ) (bs : List ℕ) → is_digit b ≡ true → number_from n (b ∷ bs) ≡ number_from (10 * n + (b - 48)) bs
unfolding number_from
number_from-digit n b bs h = rw h refl

pub number_from-other : (n b : ℕ) (bs : List ℕ) → is_digit b ≡ false → number_from n (b ∷ bs) ≡ None
unfolding number_from
number_from-other n b bs h = rw h refl

number_from-past : (n : ℕ) (bs : List ℕ) → 2 ^ 64 ≤ n → number_from n bs ≡ None
unfolding number_from
number_from-past n bs h =
    let t : ltb (value_from n bs) (2 ^ 64) ≡ false = le-ltb _ _ (omega (arith, value_from-le n bs)) in
    elim (true_or_false (list_all is_digit bs)) [ inl d ↦ rw (d, t) refl | inr d ↦ rw d refl ]

pub number_from-overflow : (n b : ℕ) (bs : List ℕ) → is_digit b ≡ true → 2 ^ 64 ≤ 10 * n + (b - 48) → number_from n (b ∷ bs) ≡ None
number_from-overflow n b bs digit past = number_from-digit n b bs digit ∙ number_from-past _ bs past

pub number_from-nil : (n : ℕ) → n < 2 ^ 64 → number_from n [] ≡ Some n
unfolding number_from
number_from-nil n h = let t : ltb n (2 ^ 64) ≡ true = lt-ltb _ _ h in rw t refl

-- ---- blanks

pub tokens_of-drop : (n : ℕ) (xs : List ℕ) → n ≤ prefix_len is_blank xs → tokens_of (drop n xs) ≡ tokens_of xs
tokens_of-drop zero xs h = refl
tokens_of-drop (suc n) [] h = refl
tokens_of-drop (suc n) (x ∷ xs) h =
    elim (true_or_false (is_blank x)) [
      | inl b ↦
          (let shorter : suc n ≤ 1 + prefix_len is_blank xs = rw b at h in tokens_of-drop n xs (omega arith) ∙ sym (tokens_of-skip x xs b))
      | inr b ↦ (let none : suc n ≤ 0 = rw b at h in absurd (omega arith))
    ]

-- ---- a list that is not empty, cut

pub lines_of-front : (bs : List ℕ) → 0 < length bs → lines_of bs ≡ before_first is_feed bs ∷ lines_of (after_first is_feed bs)
lines_of-front [] lt = absurd (omega arith)
lines_of-front (b ∷ bs) lt = lines_of-cut b bs

pub lines_of-empty : (bs : List ℕ) → length bs ≡ 0 → lines_of bs ≡ []
lines_of-empty [] e = lines_of-nil
lines_of-empty (b ∷ bs) e = absurd (omega arith)

-- the first byte after the blanks is none
pub not_blank_after : (xs : List ℕ) → prefix_len is_blank xs < length xs → is_blank (get_or (drop (prefix_len is_blank xs) xs) 0 0) ≡ false
not_blank_after [] h = absurd (omega arith)
not_blank_after (x ∷ xs) h =
    elim (true_or_false (is_blank x)) [
      | inl b ↦
          (let shorter : 1 + prefix_len is_blank xs < suc (length xs) = rw b at h in
          let one : 1 + prefix_len is_blank xs ≡ suc (prefix_len is_blank xs) = omega arith in
          rw (b, one) (not_blank_after xs (omega arith)))
      | inr b ↦ rw (b, b) refl
    ]

-- the blank after a token adds no token
after_token : (xs : List ℕ) → tokens_of (after_first is_blank xs) ≡ tokens_of (drop (position_or_len is_blank xs) xs)
after_token [] = refl
after_token (x ∷ xs) =
    elim (true_or_false (is_blank x)) [
      | inl b ↦ rw (b) (sym (tokens_of-skip x xs b))
      | inr b ↦
          (let one : 1 + position_or_len is_blank xs ≡ suc (position_or_len is_blank xs) = omega arith in
          let two : 1 + position_or_len is_blank xs + 1 ≡ suc (position_or_len is_blank xs + 1) = omega arith in
          rw (b, two, one) (after_token xs))
    ]

pub tokens_of-front : (xs : List ℕ) → 0 < length xs → is_blank (get_or xs 0 0) ≡ false
    → tokens_of xs ≡ take (position_or_len is_blank xs) xs ∷ tokens_of (drop (position_or_len is_blank xs) xs)
tokens_of-front [] lt b = absurd (omega arith)
tokens_of-front (x ∷ xs) lt b =
    tokens_of-cut x xs b ∙ ap (λ (ts : List (List ℕ)). take (position_or_len is_blank (x ∷ xs)) (x ∷ xs) ∷ ts) (after_token (x ∷ xs))

pub tokens_of-empty : (xs : List ℕ) → length xs ≡ 0 → tokens_of xs ≡ []
tokens_of-empty [] e = tokens_of-nil
tokens_of-empty (x ∷ xs) e = absurd (omega arith)

-- ---- what the cuts of the code give

module _ (bs front back : List ℕ) (k : ℕ) (filled : 0 < length bs)
    (at_feed : k ≡ position_or_len is_feed bs) (front_is : front ≡ take k bs) (back_is : back ≡ drop k bs) where
  pub last_line : length back < 1 → lines_of bs ≡ front ∷ lines_of back
  last_line none =
      let short : length bs ≤ k = omega (arith, ap length back_is, length-drop k bs) in
      rw (front_is, back_is, drop_all k bs short)
      (lines_of-front bs filled ∙ rw (← at_feed) (ap (λ (l : List ℕ). take k bs ∷ lines_of l) (drop_all (k + 1) bs (omega arith))))

  pub next_line_cut : 1 ≤ length back → lines_of bs ≡ front ∷ lines_of (take (length back - 1) (drop 1 back))
  next_line_cut some =
      rw (take_rest back 1, front_is, back_is, drop-drop 1 k bs) (lines_of-front bs filled ∙ rw (← at_feed) refl)

module _ (line front text : List ℕ) (k : ℕ) (blanks : k ≡ prefix_len is_blank line) (text_is : text ≡ drop k line) where
  pub no_token : length text ≡ 0 → tokens_of line ≡ []
  no_token none = sym (tokens_of-drop k line (omega arith)) ∙ rw (← text_is) (tokens_of-empty text none)

  pub token_cut : 0 < length text
      → tokens_of line ≡ take (position_or_len is_blank text) text ∷ tokens_of (drop (position_or_len is_blank text) text)
  token_cut some =
      let in_line : prefix_len is_blank line < length line = omega (arith, ap length text_is, length-drop k line) in
      let begins : is_blank (get_or text 0 0) ≡ false = rw (text_is, blanks) (not_blank_after line in_line) in
      sym (tokens_of-drop k line (omega arith)) ∙ rw (← text_is) (tokens_of-front text some begins)

-- with one more digit
pub number_from-more : (n b tens digit : ℕ) (r : Option ℕ) → is_digit b ≡ true
    → tens ≡ n * 10 → digit ≡ b - 48 → SomeIff r (tens + digit < 2 ^ 64) (tens + digit)
    → MatchOption r ((bs : List ℕ) → number_from n (b ∷ bs) ≡ None) (λ m. (bs : List ℕ) → number_from n (b ∷ bs) ≡ number_from m bs)
number_from-more n b tens digit (Some m) h t d fits =
    λ bs. number_from-digit n b bs h ∙ ap (λ (k : ℕ). number_from k bs) (let e : 10 * n + (b - 48) ≡ m = omega (arith, fits.1) in e)
number_from-more n b tens digit None h t d fits =
    λ bs. number_from-overflow n b bs h (⊎_elim (λ low. absurd (fits (omega arith))) (λ high. high) (order (10 * n + (b - 48)) (2 ^ 64)))

pub is_digit-is : (b : ℕ) → is_ascii_digit b ≡ is_digit b
is_digit-is b = refl

-- ---- signed numbers

pub and_then-value : {A B : Type 0} (f : A → Option B) (o : Option A) (r : Option B)
    → MatchOption o (r ≡ None) (λ x. r ≡ f x) → r ≡ option_and_then f o
and_then-value f None r none = none
and_then-value f (Some x) r some = some

pub signed_of-minus : (token digits : List ℕ) → pointwise eqb (take 1 token) (45 ∷ []) ≡ true
    → digits ≡ drop 1 token → signed_of token ≡ option_and_then negative_of (number_of digits)
unfolding signed_of
signed_of-minus [] digits minus rest = cc
signed_of-minus (b ∷ bs) digits minus rest = let is : eqb b 45 ≡ true = (and_parts (eqb b 45) true minus).0 in rw (is, rest) refl

pub signed_of-plain : (token : List ℕ) → pointwise eqb (take 1 token) (45 ∷ []) ≡ false
    → signed_of token ≡ option_and_then positive_of (number_of token)
unfolding signed_of number_of
signed_of-plain [] minus = refl
signed_of-plain (b ∷ bs) minus =
    elim (true_or_false (eqb b 45)) [ inl is ↦ (let not_so : true ≡ false = rw is at minus in cc) | inr is ↦ rw is refl ]
