-- The forms of words: words give the option that they begin with, and then what the words after it give.
use Rattle.std.proofs.Common.{◌≡◌, ◌∙◌, ℕ, ◌+◌, true, false, ◌&&◌, ◌||◌, inl, inr, List, [], ◌∷◌, ◌++◌, Option, Some, None, Bool}
use Rattle.std.proofs.Common.{option_map, option_and_then, refl, sym, ap, ap₂, arith, drop, eqb-true, subst, suc, if◌then◌else◌}
use Rattle.std.proofs.lemmas.Bool.{cases_Bool, and_parts, or_parts}
use Rattle.std.proofs.lemmas.List.Folds.{list_any-append}
use Rattle.std.proofs.lemmas.Grind.{flat_map-append}
use Rattle.std.specs.Prelude.{nat_eq}
use Rattle.std.specs.List.{list_any, flat_map, before_first, after_first, position_or_len}
use Rattle.command_line.specs.Words.{Text, Given, is_option, is_value, is_equals, cut, options_of}
use Rattle.command_line.specs.Forms.{options_in, if_named, given_as, with_value, with_words, first_option, with_rest}

-- ---- the first `=`

before_hyphens : (text : Text) → before_first is_equals (45 ∷ 45 ∷ text) ≡ 45 ∷ 45 ∷ before_first is_equals text
before_hyphens text =
    let n = position_or_len is_equals text in
    let e : 1 + (1 + n) ≡ suc (suc n) = omega arith in rw e refl

after_two_hyphens : (text : Text) → after_first is_equals (45 ∷ 45 ∷ text) ≡ after_first is_equals text
after_two_hyphens text =
    let n = position_or_len is_equals text in
    let e : 1 + (1 + n) + 1 ≡ suc (suc (n + 1)) = omega arith in rw e refl

all_before : (text : Text) → list_any is_equals text ≡ false → before_first is_equals text ≡ text
all_before [] e = refl
all_before (b ∷ text) e =
    let parts = or_parts (is_equals b) (list_any is_equals text) e in
    let n = position_or_len is_equals text in
    let at : 1 + n ≡ suc n = omega arith in
    rw (parts.0, at) (ap (λ t. b ∷ t) (all_before text parts.1))

-- ---- words that are no option or no value

pub hyphens_of : (a b : ℕ) (text : Text) → (nat_eq a 45 && nat_eq b 45) ≡ true → a ∷ b ∷ text ≡ 45 ∷ 45 ∷ text
hyphens_of a b text e =
    let both = and_parts (nat_eq a 45) (nat_eq b 45) e in
    ap₂ (λ x y. x ∷ y ∷ text) (eqb-true a 45 both.0) (eqb-true b 45 both.1)

no_option : (word : Text) (words : List Text) → is_option word ≡ false → options_of (word ∷ words) ≡ None
no_option word [] e = refl
no_option word (value ∷ words) e = rw e refl

no_value : (word value : Text) (words : List Text) → is_value value ≡ false → options_of (word ∷ value ∷ words) ≡ None
no_value word value words e = elim (cases_Bool (is_option word)) [ inl y ↦ rw (y, e) refl | inr n ↦ rw n refl ]

-- ---- an option in two words

-- an option of this name and value, if that is a value, before those that words give
abbrev before_options : Text → Text → List Text → Option (List Given)
before_options name value words = if is_value value then option_map (λ options. given_as name value ∷ options) (options_in words) else None

rest_of_words : (name value : Text) (words : List Text) → before_options name value words ≡ with_rest (with_value name value words)
rest_of_words name value words = go (is_value value)
  where
    go : (b : Bool) → (if b then option_map (λ options. given_as name value ∷ options) (options_in words) else None)
        ≡ with_rest (if b then Some (given_as name value, words) else None)
    go true = refl
    go false = refl

-- the next word is the value as it stands: one that begins with hyphens is no value, cut or not
value_after : (word value : Text) (words : List Text) → is_option word ≡ true
    → options_of (word ∷ flat_map cut (value ∷ words)) ≡ before_options (drop 2 word) value words
value_after word [] words e = rw e refl
value_after word (a ∷ []) words e = rw e refl
value_after word (a ∷ b ∷ []) words e = rw e refl
value_after word (a ∷ b ∷ c ∷ text) words e = elim (cases_Bool (nat_eq a 45 && nat_eq b 45)) [
  | inr n ↦ rw (n, e) refl
  | inl y ↦ subst Reads (sym (hyphens_of a b (c ∷ text) y)) (none (list_any is_equals (c ∷ text)) refl)
]
  where
    Reads : Text → Type 0
    Reads value = options_of (word ∷ flat_map cut (value ∷ words)) ≡ before_options (drop 2 word) value words

    none : (b : Bool) → list_any is_equals (c ∷ text) ≡ b → Reads (45 ∷ 45 ∷ c ∷ text)
    none true y =
        let after = after_first is_equals (45 ∷ 45 ∷ c ∷ text) in
        rw (y, before_hyphens (c ∷ text))
        (no_value word (45 ∷ 45 ∷ before_first is_equals (c ∷ text)) (after ∷ flat_map cut words) refl)
    none false n = rw n (no_value word (45 ∷ 45 ∷ c ∷ text) (flat_map cut words) refl)

whole_option : (c : ℕ) (text : Text) (words : List Text)
    → options_of ((45 ∷ 45 ∷ c ∷ text) ∷ flat_map cut words) ≡ with_rest (with_words (c ∷ text) None words)
whole_option c text [] = refl
whole_option c text (value ∷ words) = value_after (45 ∷ 45 ∷ c ∷ text) value words refl ∙ rest_of_words (c ∷ text) value words

-- ---- an option in one word

cut_option : (name value : Text) (words : List Text) → options_of ((45 ∷ 45 ∷ name) ∷ value ∷ flat_map cut words)
    ≡ with_rest (option_and_then (λ found. with_words found.0 found.1 words) (if_named name (Some value)))
cut_option [] value words = refl
cut_option (b ∷ name) value words = rest_of_words (b ∷ name) value words

with_hyphens : (c : ℕ) (text : Text) (words : List Text)
    → options_in ((45 ∷ 45 ∷ c ∷ text) ∷ words) ≡ with_rest (first_option ((45 ∷ 45 ∷ c ∷ text) ∷ words))
with_hyphens c text words = elim (cases_Bool (list_any is_equals (c ∷ text))) [
  | inl y ↦ rw (y, before_hyphens (c ∷ text), after_two_hyphens (c ∷ text))
      (cut_option (before_first is_equals (c ∷ text)) (after_first is_equals (c ∷ text)) words)
  | inr n ↦ rw (n, all_before (c ∷ text) n) (whole_option c text words)
]

-- words give the option that they begin with, and then what the words after it give
pub options_first : (word : Text) (words : List Text) → options_in (word ∷ words) ≡ with_rest (first_option (word ∷ words))
options_first [] words = no_option [] (flat_map cut words) refl
options_first (a ∷ []) words = no_option (a ∷ []) (flat_map cut words) refl
options_first (a ∷ b ∷ []) words =
    no_option (a ∷ b ∷ []) (flat_map cut words) refl
    ∙ elim (cases_Bool (nat_eq a 45 && nat_eq b 45)) [ inl y ↦ rw y refl | inr n ↦ rw n refl ]
options_first (a ∷ b ∷ c ∷ text) words = elim (cases_Bool (nat_eq a 45 && nat_eq b 45)) [
  | inl y ↦ subst (λ w. options_in (w ∷ words) ≡ with_rest (first_option (w ∷ words)))
      (sym (hyphens_of a b (c ∷ text) y)) (with_hyphens c text words)
  | inr n ↦ rw n (no_option (a ∷ b ∷ c ∷ text) (flat_map cut words) n)
]

-- ---- one word or two

-- a name without `=`, and a value, on either side of one
equals_between : (name value : Text) → list_any is_equals name ≡ false
    → (before_first is_equals (name ++ 61 ∷ value) ≡ name) × (after_first is_equals (name ++ 61 ∷ value) ≡ value)
equals_between [] value e = (refl, refl)
equals_between (b ∷ name) value e =
    let parts = or_parts (is_equals b) (list_any is_equals name) e in
    let rest = equals_between name value parts.1 in
    let n = position_or_len is_equals (name ++ 61 ∷ value) in
    let before : 1 + n ≡ suc n = omega arith in
    let after : 1 + n + 1 ≡ suc (n + 1) = omega arith in
    (rw (parts.0, before) (ap (λ t. b ∷ t) rest.0), rw (parts.0, after) rest.1)

cut_between : (name value : Text) → list_any is_equals name ≡ false → cut (45 ∷ 45 ∷ (name ++ 61 ∷ value)) ≡ (45 ∷ 45 ∷ name) ∷ value ∷ []
cut_between name value e =
    let sides = equals_between name value e in
    let text = name ++ 61 ∷ value in
    rw (an_option name, has_equals, before_hyphens text, after_two_hyphens text, sides.0, sides.1) refl
  where
    an_option : (name : Text) → is_option (45 ∷ 45 ∷ (name ++ 61 ∷ value)) ≡ true
    an_option [] = refl
    an_option (b ∷ name) = refl

    has_equals : list_any is_equals (name ++ 61 ∷ value) ≡ true
    has_equals = list_any-append is_equals name (61 ∷ value) ∙ ap (λ b. b || true) e

-- two words in a row that are no values are refused, wherever they stand
never_both : (before : List Text) (first second : Text) (after : List Text) → is_value first ≡ false → is_value second ≡ false
    → options_of (before ++ first ∷ second ∷ after) ≡ None
never_both [] first second after a b = no_value first second after b
never_both (x ∷ []) first second after a b = no_value x first (second ∷ after) a
never_both (x ∷ y ∷ before) first second after a b = rw (never_both before first second after a b) (go (is_option x && is_value y))
  where
    go : (b : Bool) → (if b then option_map (λ options. given_as (drop 2 x) y ∷ options) None else None) ≡ None
    go true = refl
    go false = refl

hyphens_no_value : (word : Text) → is_option word ≡ true → (is_value word ≡ false) × (is_value (before_first is_equals word) ≡ false)
hyphens_no_value [] e = absurd cc
hyphens_no_value (a ∷ []) e = absurd cc
hyphens_no_value (a ∷ b ∷ []) e = absurd cc
hyphens_no_value (a ∷ b ∷ c ∷ text) e =
    subst (λ w. (is_value w ≡ false) × (is_value (before_first is_equals w) ≡ false))
    (sym (hyphens_of a b (c ∷ text) e)) (refl, rw (before_hyphens (c ∷ text)) refl)

cut_name : (name : Text) → list_any is_equals name ≡ false → cut (45 ∷ 45 ∷ name) ≡ (45 ∷ 45 ∷ name) ∷ []
cut_name [] e = refl
cut_name (b ∷ name) e = rw e refl

-- in both forms the words give the same
pub one_or_two : (before after : List Text) (name value : Text) → list_any is_equals name ≡ false
    → options_in (before ++ (45 ∷ 45 ∷ (name ++ 61 ∷ value)) ∷ after) ≡ options_in (before ++ (45 ∷ 45 ∷ name) ∷ value ∷ after)
one_or_two before after name value e =
    ap options_of (flat_map-append cut before ((45 ∷ 45 ∷ (name ++ 61 ∷ value)) ∷ after))
    ∙ ap (λ cuts. options_of (flat_map cut before ++ (cuts ++ flat_map cut after))) (cut_between name value e)
    ∙ go (is_option value && list_any is_equals value) refl
    ∙ ap (λ cuts. options_of (flat_map cut before ++ (cuts ++ (cut value ++ flat_map cut after)))) (sym (cut_name name e))
    ∙ ap options_of (sym (flat_map-append cut before ((45 ∷ 45 ∷ name) ∷ value ∷ after)))
  where
    go : (b : Bool) → (is_option value && list_any is_equals value) ≡ b
        → options_of (flat_map cut before ++ (45 ∷ 45 ∷ name) ∷ value ∷ flat_map cut after)
        ≡ options_of (flat_map cut before ++ (45 ∷ 45 ∷ name) ∷ (cut value ++ flat_map cut after))
    go false n = rw n refl
    go true y =
        let hyphens = hyphens_no_value value (and_parts (is_option value) (list_any is_equals value) y).0 in
        let after_it = after_first is_equals value ∷ flat_map cut after in
        rw y (never_both (flat_map cut before) (45 ∷ 45 ∷ name) value (flat_map cut after) refl hyphens.0
        ∙ sym (never_both (flat_map cut before) (45 ∷ 45 ∷ name) (before_first is_equals value) after_it refl hyphens.1))
