-- Clap takes the words of a line, and finds in them what the line gives.
use Rattle.std.proofs.Common.{◌≡◌, ◌∙◌, Bool, true, false, not, ◌&&◌, ◌||◌, List, [], ◌∷◌, ◌++◌, map, Option, Some, None, option_map}
use Rattle.std.proofs.Common.{option_and_then, refl, sym, ap, subst, fold, append_assoc, append-nil, inl, inr, if◌then◌else◌}
use Rattle.std.specs.Prelude.{find, codes}
use Rattle.std.specs.Str.{bytes_eq}
use Rattle.std.proofs.lemmas.Bool.{cases_Bool, and_parts}
use Rattle.clap.specs.Walk.{Names, Walk, walked, walk_from, nothing_held, answers_to, stop_after}
use Rattle.clap.specs.Takes.{walk_passes, turn_passes, built_takes, takes as clap_takes}
use Rattle.clap.specs.Simple as clap
use Rattle.command_line.specs.Words.{Text, Given, Shape, Line, are_among, are_distinct, if_allowed, options_among, line_of}
use Rattle.command_line.specs.Forms.{options_in}
use Rattle.command_line.specs.Table.{app_for, row_for}
use Rattle.command_line.proofs.RowLemmas.{same_bytes}
use Rattle.command_line.proofs.TableLemmas.{built_leaf, built_top, built_app, app_built, app_simple}
use Rattle.command_line.proofs.WalkLemmas.{level}

-- ---- the word of the command

abbrev is_named : Text → Shape → Bool
is_named c s = bytes_eq s.name c

-- clap finds the subcommand of that name
record Subcommand (shapes : List Shape) (c : Text) (s : Shape) : Type 0 where
  labelled : find (answers_to c) (map clap.label_of (map built_leaf shapes)) ≡ Some (s.name, [])
  found : find (λ x. answers_to c (clap.label_of x)) (map built_leaf shapes) ≡ Some (built_leaf s)
  named : s.name ≡ c

subcommand : (shapes : List Shape) (c : Text) (s : Shape) → find (is_named c) shapes ≡ Some s → Subcommand shapes c s
subcommand [] c s e = absurd cc
subcommand (x ∷ xs) c s e = elim (cases_Bool (bytes_eq x.name c)) [
  | inl same ↦ (
      let some : Some x ≡ Some s = rw same at e in
      let is : x ≡ s = cc in
      record {
        labelled = rw same (ap (λ (y : Shape). Some (y.name, [])) is);
        found = rw same (ap (λ (y : Shape). Some (built_leaf y)) is);
        named = ap (λ (y : Shape). y.name) (sym is) ∙ same_bytes x.name c same;
      })
  | inr other ↦ (
      let rest = subcommand xs c s (rw other at e) in
      record { labelled = rw other rest.labelled; found = rw other rest.found; named = rest.named })
]

-- ---- the words after it are the subcommand's

-- the walk, where it stopped at a subcommand, with the words after it
abbrev stopped_walk : Text → List Text → Walk
stopped_walk name words = record (walk_from nothing_held) { stopped = Some (name, words) }

stopped_words : (names : Names) (name : Text) (seen words : List Text)
    → fold (walked [] names) (stopped_walk name seen) words ≡ stopped_walk name (seen ++ words)
unfolding walked
stopped_words names name seen [] = ap (stopped_walk name) (sym (append-nil seen))
stopped_words names name seen (w ∷ words) =
    stopped_words names name (seen ++ w ∷ []) words ∙ ap (stopped_walk name) (append_assoc seen (w ∷ []) words)

stopped_pass : (names : Names) (name : Text) (seen words : List Text) → walk_passes built_top names (stopped_walk name seen) words ≡ true
unfolding walk_passes walked
stopped_pass names name seen [] = refl
stopped_pass names name seen (w ∷ words) = stopped_pass names name (seen ++ w ∷ []) words

top_step : (names : Names) (c name : Text) → find (answers_to c) names ≡ Some (name, [])
    → walked [] names (walk_from nothing_held) c ≡ stopped_walk name []
unfolding walked
top_step names c name e = rw e refl

top_pass : (names : Names) (c name : Text) → find (answers_to c) names ≡ Some (name, [])
    → turn_passes built_top names (walk_from nothing_held) c ≡ true
top_pass names c name e = rw e (go (bytes_eq name (codes "help")))
  where
    go : (b : Bool) → ((not b || true) && true) ≡ true
    go true = refl
    go false = refl

-- ---- all words

pub record Taken (shapes : List Shape) (words : List Text) (line : Line) : Type 0 where
  pub takes : clap_takes (app_for shapes) words ≡ true
  pub finds : clap.subcommand_of (app_for shapes) words ≡ Some (line.command, map row_for line.options)

module _ (shapes : List Shape) (c : Text) (words : List Text) (s : Shape) (is : find (is_named c) shapes ≡ Some s) (all : List Given)
    (given : options_in words ≡ Some all) (among : are_among s.options all ≡ true) (distinct : are_distinct all ≡ true) where
  met : Subcommand shapes c s
  met = subcommand shapes c s is

  stops : fold (walked [] (clap.names_of (built_app shapes))) (walk_from nothing_held) (c ∷ words) ≡ stopped_walk s.name words
  stops =
      let labels = clap.names_of (built_app shapes) in
      ap (λ w. fold (walked [] labels) w words) (top_step labels c s.name met.labelled) ∙ stopped_words labels s.name [] words

  entered : find (λ x. answers_to s.name (clap.label_of x)) (map built_leaf shapes) ≡ Some (built_leaf s)
  entered = ap (λ t. find (λ x. answers_to t (clap.label_of x)) (map built_leaf shapes)) met.named ∙ met.found

  passes : walk_passes built_top (clap.names_of (built_app shapes)) (walk_from nothing_held) (c ∷ words) ≡ true
  unfolding walk_passes
  passes =
      let labels = clap.names_of (built_app shapes) in
      rw (top_pass labels c s.name met.labelled, top_step labels c s.name met.labelled) (stopped_pass labels s.name [] words)

  takes_built : built_takes (built_app shapes) nothing_held (c ∷ words) ≡ true
  takes_built = rw (stops, entered, (level s words all given among distinct).takes, passes) refl

  rows_built : clap.entered (built_app shapes) (Some (s.name, words)) ≡ Some (s.name, map row_for all)
  rows_built = rw (entered, (level s words all given among distinct).finds) refl

  finds_built : clap.entered (built_app shapes) (stop_after [] (clap.names_of (built_app shapes)) (c ∷ words)) ≡ Some (c, map row_for all)
  finds_built =
      ap (λ (w : Walk). clap.entered (built_app shapes) w.stopped) stops ∙ rows_built ∙ ap (λ name. Some (name, map row_for all)) met.named

  taken_words : Taken shapes (c ∷ words) (record { command = c; options = all })
  taken_words = record {
    takes = rw (app_simple shapes) (ap (λ a. built_takes a nothing_held (c ∷ words)) (app_built shapes) ∙ takes_built);
    finds = ap (λ a. clap.entered a (stop_after (a.top).rules (clap.names_of a) (c ∷ words))) (app_built shapes) ∙ finds_built;
  }

abbrev line_from : Text → Option (List Given) → Option Line
line_from c = option_map (λ options. record { command = c; options = options })

pub taken : (shapes : List Shape) (words : List Text) (line : Line) → line_of shapes words ≡ Some line → Taken shapes words line
taken shapes [] line e = absurd cc
taken shapes (c ∷ words) line e = in_table (find (is_named c) shapes) refl e
  where
    allowed : (s : Shape) (all : List Given) → find (is_named c) shapes ≡ Some s → options_in words ≡ Some all
        → (b : Bool) → (are_among s.options all && are_distinct all) ≡ b
        → line_from c (if b then Some all else None) ≡ Some line → Taken shapes (c ∷ words) line
    allowed s all is given false ok e = absurd cc
    allowed s all is given true ok e =
        let both = and_parts (are_among s.options all) (are_distinct all) ok in
        let line_is : record { command = c; options = all } ≡ line = cc in
        subst (Taken shapes (c ∷ words)) line_is (taken_words shapes c words s is all given both.0 both.1)

    with_options : (s : Shape) (found : Option (List Given)) → find (is_named c) shapes ≡ Some s → options_in words ≡ found
        → line_from c (option_and_then (if_allowed s.options) found) ≡ Some line → Taken shapes (c ∷ words) line
    with_options s None is given e = absurd cc
    with_options s (Some all) is given e = allowed s all is given (are_among s.options all && are_distinct all) refl e

    in_table : (found : Option Shape) → find (is_named c) shapes ≡ found
        → option_and_then (λ shape. line_from c (options_among shape.options words)) found ≡ Some line → Taken shapes (c ∷ words) line
    in_table None is e = absurd cc
    in_table (Some s) is e = with_options s (options_in words) is refl e
