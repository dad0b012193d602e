-- Names are looked up one by one: how that comes to a test of all options.
use Rattle.std.proofs.Common.{◌≡◌, ◌∙◌, Bool, true, false, not, ◌&&◌, ◌||◌, List, [], ◌∷◌, ◌++◌, Option, Some, None, is_some, option_map}
use Rattle.std.proofs.Common.{option_and_then, length, nat_eq, find, arith, refl, sym, ap, ap₂, if◌then◌else◌, bytes_eq}
use Rattle.std.proofs.lemmas.Bool.{ne_eqb}
use Rattle.std.proofs.lemmas.Bool.Decides.{same_from_decides}
use Rattle.std.proofs.lemmas.List.Folds.{list_any-append}
use Rattle.std.proofs.lemmas.Option.{some_pair_parts}
use Rattle.std.proofs.lemmas.Slice.Eq.{bytes_eq-Decides}
use Rattle.std.specs.List.{list_all, list_any}
use Rattle.std.specs.Borrow.{Bor}
use Rattle.clap.proofs.WalkLemmas.{list_any-map}
use Rattle.command_line.specs.Words.{Text, Given, Shape, Line, line_of, options_among, gives, are_among, are_distinct, if_allowed}
use Rattle.command_line.specs.Forms.{options_in, first_option, with_rest, is_among, is_new}
use Rattle.command_line.specs.Views.{texts, names_of}
use Rattle.command_line.proofs.FormLemmas.{options_first}

-- no option has one of the names seen before, nor that of an earlier option
abbrev are_new : List Text → List Given → Bool
are_new seen [] = true
are_new seen (option ∷ options) = not (is_among seen option.name) && are_new (seen ++ option.name ∷ []) options

-- the test of options that come after those of the names seen before
abbrev pub passes : List Text → List Text → Option (List Given) → Bool
passes names seen None = false
passes names seen (Some options) = are_among names options && are_new seen options

-- ---- at the beginning no name is seen

pub bytes_eq_sym : (a b : Text) → bytes_eq a b ≡ bytes_eq b a
bytes_eq_sym a b =
    let there = bytes_eq-Decides a b in
    let back = bytes_eq-Decides b a in
    same_from_decides (bytes_eq a b) (bytes_eq b a) there (λ e. sym (back.0 e), λ e. back.1 (sym e))

abbrev all_new : List Text → List Given → Bool
all_new seen = list_all (λ option. not (is_among seen option.name))

all_new_none : (options : List Given) → all_new [] options ≡ true
all_new_none [] = refl
all_new_none (option ∷ options) = all_new_none options

all_new_more : (seen : List Text) (name : Text) (options : List Given)
    → all_new (seen ++ name ∷ []) options ≡ (all_new seen options && not (gives name options))
all_new_more seen name [] = refl
all_new_more seen name (option ∷ options) =
    ap₂ (λ a b. not a && b) (list_any-append (λ listed. bytes_eq listed option.name) seen (name ∷ [])) (all_new_more seen name options)
    ∙ ap (λ b. not (is_among seen option.name || (b || false)) && (all_new seen options && not (gives name options)))
    (bytes_eq_sym name option.name)
    ∙ split (is_among seen option.name) (bytes_eq option.name name) (all_new seen options) (gives name options)
  where
    split : (p q r s : Bool) → (not (p || (q || false)) && (r && not s)) ≡ ((not p && r) && not (q || s))
    split true q r s = refl
    split false true true s = refl
    split false true false s = refl
    split false false true s = refl
    split false false false s = refl

new_is : (seen : List Text) (options : List Given) → are_new seen options ≡ (all_new seen options && are_distinct options)
new_is seen [] = refl
new_is seen (option ∷ options) =
    let more = all_new_more seen option.name options in
    let later = new_is (seen ++ option.name ∷ []) options ∙ ap (λ b. b && are_distinct options) more in
    ap (λ b. not (is_among seen option.name) && b) later
    ∙ gathered (not (is_among seen option.name)) (all_new seen options) (not (gives option.name options)) (are_distinct options)
  where
    gathered : (p q r s : Bool) → (p && ((q && r) && s)) ≡ ((p && q) && (r && s))
    gathered true true r s = refl
    gathered true false r s = refl
    gathered false q r s = refl

pub allowed_passes : (names : List Text) (options : Option (List Given))
    → is_some (option_and_then (if_allowed names) options) ≡ passes names [] options
allowed_passes names None = refl
allowed_passes names (Some options) =
    let all = new_is [] options ∙ ap (λ b. b && are_distinct options) (all_new_none options) in
    is_some_if (are_among names options && are_distinct options) ∙ ap (λ b. are_among names options && b) (sym all)
  where
    is_some_if : (b : Bool) → is_some (if b then Some options else None) ≡ b
    is_some_if true = refl
    is_some_if false = refl

-- ---- one option more is read

abbrev name_and_rest : Given × List Text → Text × List Text
name_and_rest found = (found.0.name, found.1)

-- the name of the option that words begin with, and the words after it
abbrev pub IsFirst : Option (Text × List Text) → List Text → Type 0
IsFirst found words = found ≡ option_map name_and_rest (first_option words)

-- words that begin with an option of this name give it, and then what the words after it give
record Begins (words : List Text) (name : Text) (after : List Text) : Type 0 where
  given : Given
  named : given.name ≡ name
  gives_it : options_in words ≡ option_map (λ options. given ∷ options) (options_in after)

begins : (words : List Text) (name : Text) (after : List Text) → IsFirst (Some (name, after)) words → Begins words name after
begins [] name after e = absurd cc
begins (word ∷ words) name after e = go (first_option (word ∷ words)) refl e
  where
    go : (first : Option (Given × List Text)) → first_option (word ∷ words) ≡ first
        → ◌≡◌ {A = Option (Text × List Text)} (Some (name, after)) (option_map name_and_rest first) → Begins (word ∷ words) name after
    go None is e = absurd cc
    go (Some found) is e =
        let both = some_pair_parts name found.0.name after found.1 e in
        record {
          given = found.0;
          named = sym both.0;
          gives_it = options_first word words ∙ ap with_rest is
              ∙ ap (λ rest. option_map (λ options. found.0 ∷ options) (options_in rest)) (sym both.1);
        }

-- the test of words is one of the name of their first option, and then of the words after it
pub read_one : (names seen words after : List Text) (name : Text) → IsFirst (Some (name, after)) words
    → passes names seen (options_in words) ≡ (is_new names seen name && passes names (seen ++ name ∷ []) (options_in after))
read_one names seen words after name e =
    let b = begins words name after e in
    ap (passes names seen) b.gives_it ∙ go b.given (options_in after)
    ∙ ap (λ n. is_new names seen n && passes names (seen ++ n ∷ []) (options_in after)) b.named
  where
    none : (p : Bool) → false ≡ (p && false)
    none true = refl
    none false = refl

    regrouped : (p q r s : Bool) → ((p && q) && (r && s)) ≡ ((p && r) && (q && s))
    regrouped false q r s = refl
    regrouped true true r s = refl
    regrouped true false true s = refl
    regrouped true false false s = refl

    go : (given : Given) (rest : Option (List Given)) → passes names seen (option_map (λ options. given ∷ options) rest)
        ≡ (is_new names seen given.name && passes names (seen ++ given.name ∷ []) rest)
    go given None = none (is_new names seen given.name)
    go given (Some options) =
        regrouped (is_among names given.name) (are_among names options)
        (not (is_among seen given.name)) (are_new (seen ++ given.name ∷ []) options)

-- words that begin with no option give none, but for no words
pub read_out : (names seen words : List Text) → IsFirst None words → passes names seen (options_in words) ≡ nat_eq (length words) 0
read_out names seen [] e = refl
read_out names seen (word ∷ words) e =
    let some_words = ne_eqb (length (word ∷ words)) 0 (λ z. absurd (omega arith)) in
    ap (passes names seen) (options_first word words) ∙ go (first_option (word ∷ words)) e ∙ sym some_words
  where
    go : (first : Option (Given × List Text)) → None ≡ option_map name_and_rest first → passes names seen (with_rest first) ≡ false
    go None e = refl
    go (Some found) e = absurd cc

-- ---- the line

is_some-map : {X Y : Type 0} (f : X → Y) (found : Option X) → is_some found ≡ is_some (option_map f found)
is_some-map f None = refl
is_some-map f (Some x) = refl

-- words say a line where those after the command are options of its shape
pub line_found : (shapes : List Shape) (command : Text) (words : List Text) (shape : Shape)
    → find (λ s. bytes_eq s.name command) shapes ≡ Some shape
    → is_some (options_among shape.options words) ≡ is_some (line_of shapes (command ∷ words))
line_found shapes command words shape is =
    rw is (is_some-map (λ options. record { command = command; options = options }) (options_among shape.options words))

pub line_there : (found : Option Line) → is_some found ≡ true → (line : Line) × (found ≡ Some line)
line_there None e = absurd cc
line_there (Some line) e = (line, refl)

-- ---- groups of names

-- a name stands among those of all groups where one of the groups has it
pub any_group : (name : Text) (groups : List (Bor (List (Bor Text))))
    → list_any (λ group. list_any (λ listed. bytes_eq listed.now name) group.now) groups ≡ is_among (names_of groups) name
any_group name [] = refl
any_group name (group ∷ groups) =
    ap₂ (λ a b. a || b) (list_any-map (λ listed. bytes_eq listed name) (λ (s : Bor Text). s.now) group.now) (any_group name groups)
    ∙ sym (list_any-append (λ listed. bytes_eq listed name) (texts group.now) (names_of groups))
