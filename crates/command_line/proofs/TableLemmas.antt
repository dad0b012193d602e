-- The table's command of clap, one more at a time, and how clap builds it.
use Rattle.std.proofs.Common.{◌≡◌, ◌∙◌, ℕ, ◌+◌, ◌<◌, Bool, true, false, List, [], ◌∷◌, ◌++◌, length, map, take}
use Rattle.std.proofs.Common.{fold, append-nil, append_assoc, Some, refl, sym, ap, ap₂, arith, get_or}
use Rattle.std.specs.List.{list_all, list_any, flat_map}
use Rattle.std.proofs.lemmas.List.{take_more, map-append}
use Rattle.std.proofs.lemmas.Grind.{flat_map-append}
use Rattle.clap.specs.Simple as clap
use Rattle.clap.specs.Simple.{App, with_rule, with_subcommand}
use Rattle.clap.specs.Walk.{Rule, is_early_multiple}
use Rattle.clap.specs.declared.builder.action.ArgAction.TheVariants.{Set}
use Rattle.clap.specs.declared.builder.value_parser.ValueParser.TheVariants as parser
use Rattle.command_line.specs.Words.{Text, Shape, Given}
use Rattle.command_line.specs.Table.{app_for, leaf_for, rule_for, with_option, row_for, given_of, AreGiven}

-- ---- one more option, and one more command

pub map_more : {X Y : Type 0} (f : X → Y) (xs : List X) (i : ℕ) (d : X) → i < length xs
    → map f (take (i + 1) xs) ≡ map f (take i xs) ++ f (get_or xs i d) ∷ []
map_more f xs i d lt = ap (map f) (take_more xs i d lt) ∙ map-append f (take i xs) (get_or xs i d ∷ [])

pub flat_map_one_more : {X Y : Type 0} (f : X → List Y) (xs : List X) (i : ℕ) (d : X) → i < length xs
    → flat_map f (take (i + 1) xs) ≡ flat_map f (take i xs) ++ f (get_or xs i d)
flat_map_one_more f xs i d lt =
    ap (flat_map f) (take_more xs i d lt) ∙ flat_map-append f (take i xs) (get_or xs i d ∷ [])
    ∙ ap (λ last. flat_map f (take i xs) ++ last) (append-nil (f (get_or xs i d)))

abbrev pub leaf_app : Text → List Text → App
leaf_app name options = record { top = leaf_for (record { name = name; options = options }); subs = [] }

pub one_option : (name : Text) (options : List Text) (option : Text)
    → with_rule (leaf_app name options) (rule_for option) ≡ leaf_app name (options ++ option ∷ [])
one_option name options option =
    let rules = map-append rule_for options (option ∷ []) in
    ap (λ rules. record { top = record (clap.new_shape name) { rules = rules }; subs = [] }) (sym rules)

pub more_options : (name : Text) (before names : List Text)
    → fold with_option (leaf_app name before) names ≡ leaf_app name (before ++ names)
more_options name before [] = ap (leaf_app name) (sym (append-nil before))
more_options name before (option ∷ names) =
    ap (λ app. fold with_option app names) (one_option name before option) ∙ more_options name (before ++ option ∷ []) names
    ∙ ap (leaf_app name) (append_assoc before (option ∷ []) names)

abbrev is_empty : List Shape → Bool
is_empty [] = true
is_empty (shape ∷ shapes) = false

-- until it has a subcommand, clap takes a command for one that has none
abbrev pub app_so_far : List Shape → App
app_so_far shapes = record (app_for shapes) { top = record (app_for shapes).top { is_leaf = is_empty shapes } }

never_empty : (shapes : List Shape) (shape : Shape) → is_empty (shapes ++ shape ∷ []) ≡ false
never_empty [] shape = refl
never_empty (first ∷ shapes) shape = refl

pub one_command : (shapes : List Shape) (shape : Shape)
    → with_subcommand (app_so_far shapes) (leaf_for shape) ≡ app_so_far (shapes ++ shape ∷ [])
one_command shapes shape =
    ap₂ (λ leaf subs. record { top = record (app_for []).top { is_leaf = leaf }; subs = subs })
    (sym (never_empty shapes shape)) (sym (map-append leaf_for shapes (shape ∷ [])))

pub all_commands : (shapes : List Shape) → 0 < length shapes → app_so_far shapes ≡ app_for shapes
all_commands [] lt = absurd (omega arith)
all_commands (shape ∷ shapes) lt = refl

-- ---- what is built

abbrev pub built_rule : Text → Rule
built_rule name = record (rule_for name) {
  action = Some Set;
  parser = Some parser.String;
  range = Some (record { start_inclusive = 1; end_inclusive = 1 });
}

abbrev pub built_leaf : Shape → clap.Shape
built_leaf shape = record (leaf_for shape) {
  no_binary_name = true;
  disable_help_flag = true;
  disable_help_subcommand = true;
  is_built = true;
  rules = map built_rule shape.options;
}

abbrev pub built_top : clap.Shape
built_top = record (app_for []).top { is_built = true }

abbrev pub built_app : List Shape → App
built_app shapes = record { top = built_top; subs = map built_leaf shapes }

filled_rules : (names : List Text) → clap.filled_from 1 (map rule_for names) ≡ map built_rule names
filled_rules [] = refl
filled_rules (name ∷ names) = ap (λ rules. built_rule name ∷ rules) (filled_rules names)

leaf_built : (shape : Shape)
    → clap.built_leaf (clap.inherited (clap.with_leaf_noted (clap.marked_built (app_for []).top)) (leaf_for shape)) ≡ built_leaf shape
leaf_built shape = ap (λ rules. record (built_leaf shape) { rules = rules }) (filled_rules shape.options)

subs_built : (shapes : List Shape) → (clap.built (app_for shapes)).subs ≡ map built_leaf shapes
subs_built [] = refl
subs_built (shape ∷ shapes) = ap₂ (λ (x : clap.Shape) (xs : List clap.Shape). x ∷ xs) (leaf_built shape) (subs_built shapes)

pub app_built : (shapes : List Shape) → clap.built (app_for shapes) ≡ built_app shapes
app_built shapes = ap (λ subs. record { top = built_top; subs = subs }) (subs_built shapes)

-- ---- it is a simple command of clap

simple_rules : (names : List Text) → list_all (λ (a : Rule). a.is_simple) (map rule_for names) ≡ true
simple_rules [] = refl
simple_rules (name ∷ names) = simple_rules names

simple_built_rules : (names : List Text) → list_all (λ (a : Rule). a.is_simple) (map built_rule names) ≡ true
simple_built_rules [] = refl
simple_built_rules (name ∷ names) = simple_built_rules names

never_early : (n : ℕ) (names : List Text) → list_any (is_early_multiple n) (map built_rule names) ≡ false
never_early n [] = refl
never_early n (name ∷ names) = never_early n names

simple_leaves : (shapes : List Shape) → list_all clap.is_simple_leaf (map leaf_for shapes) ≡ true
simple_leaves [] = refl
simple_leaves (shape ∷ shapes) = rw (simple_rules shape.options) (simple_leaves shapes)

ready_leaves : (shapes : List Shape) → list_all clap.is_ready_leaf (map built_leaf shapes) ≡ true
ready_leaves [] = refl
ready_leaves (shape ∷ shapes) = rw (simple_built_rules shape.options, never_early _ shape.options) (ready_leaves shapes)

pub app_simple : (shapes : List Shape) → clap.is_simple (app_for shapes) ≡ true
app_simple shapes = rw (simple_leaves shapes, ap (list_all clap.is_ready_leaf) (subs_built shapes) ∙ ready_leaves shapes) refl

-- ---- rows that hold what is given

pub given_rows : (options : List Given) → map given_of (map row_for options) ≡ options
given_rows [] = refl
given_rows (option ∷ options) = ap (λ rest. option ∷ rest) (given_rows options)

pub rows_given : (options : List Given) → AreGiven (map row_for options)
rows_given options = ap (map row_for) (sym (given_rows options))
