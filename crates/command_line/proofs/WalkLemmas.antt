-- The words of a subcommand: clap's walk over them passes, and ends with the rows of the options that they give.
use Rattle.std.proofs.Common.{◌≡◌, ◌∙◌, Bool, true, false, not, ◌||◌, cond, List, [], ◌∷◌, ◌++◌, map, Option, Some}
use Rattle.std.proofs.Common.{None, option_map, refl, sym, ap, subst, fold, append_assoc, append-nil, inl, inr}
use Rattle.std.specs.List.{list_all}
use Rattle.std.proofs.lemmas.Bool.{cases_Bool, and_parts}
use Rattle.clap.specs.Walk.{Held, Row, Rule, Walk, walked, walk_from, has_row, settled}
use Rattle.clap.specs.Walk.{reacted, finished, with_default, nothing_held, rows_after}
use Rattle.clap.specs.Takes.{walk_passes, turn_passes, settle_passes, level_passes, default_passes, is_given}
use Rattle.command_line.specs.Words.{Text, Given, Shape, is_value, are_among, are_distinct}
use Rattle.command_line.specs.Forms.{options_in, given_as, option_in, with_value, with_words, first_option, with_rest, is_among}
use Rattle.command_line.specs.Table.{row_for}
use Rattle.command_line.proofs.FormLemmas.{options_first}
use Rattle.command_line.proofs.RowLemmas.{by_long, by_id, not_before, rows_gives}
use Rattle.command_line.proofs.TableLemmas.{built_rule, built_leaf}
use Rattle.command_line.proofs.WordLemmas.{waiting_walk, pending_value, step_whole, step_name, step_value, Ready}
use Rattle.command_line.proofs.WordLemmas.{rules_of, pass_whole, pass_name, pass_value, ready_whole, ready_value}

-- a walk over words passes, and ends with the rows of these options
abbrev Ends : Shape → List Given → Walk → List Text → Type 0
Ends s gs w words =
    (walk_passes (built_leaf s) [] w words ≡ true)
    × ((h : Held) × (fold (walked (rules_of s) []) w words ≡ walk_from h) × Ready (rules_of s) gs h)

ends_cons : (s : Shape) (gs : List Given) (w after : Walk) (word : Text) (rest : List Text)
    → turn_passes (built_leaf s) [] w word ≡ true → walked (rules_of s) [] w word ≡ after → Ends s gs after rest → Ends s gs w (word ∷ rest)
unfolding walk_passes
ends_cons s gs w after word rest turn step r =
    (rw (turn, step) r.0, (r.1.0, ap (λ x. fold (walked (rules_of s) []) x rest) step ∙ r.1.1, r.1.2))

-- after some options, a walk over words that give the others
abbrev WalksOver : Shape → List Text → Type 0
WalksOver s words = (gs all : List Given) (h : Held) → Ready (rules_of s) gs h → options_in words ≡ Some all
    → are_among s.options all ≡ true → are_distinct (gs ++ all) ≡ true → Ends s (gs ++ all) (walk_from h) words

-- ---- the first of the options that are left

-- words that begin with an option give it, if it has a value, and then what the words after it give
given_parts : (name value : Text) (words : List Text) (all : List Given) → with_rest (with_value name value words) ≡ Some all
    → (is_value value ≡ true) × ((rest : List Given) × (options_in words ≡ Some rest) × (all ≡ given_as name value ∷ rest))
given_parts name value words all e = elim (cases_Bool (is_value value)) [
  | inl y ↦ (y, go (options_in words) (rw y at e))
  | inr n ↦ (let none : None ≡ Some all = rw n at e in absurd cc)
]
  where
    go : (found : Option (List Given)) → option_map (λ rest. given_as name value ∷ rest) found ≡ Some all
        → (rest : List Given) × (found ≡ Some rest) × (all ≡ given_as name value ∷ rest)
    go None e = absurd cc
    go (Some rest) e = (rest, refl, cc)

record First (s : Shape) (gs all : List Given) (g : Given) (rest : List Given) : Type 0 where
  listed : is_among s.options g.name ≡ true
  new : has_row g.name (map row_for gs) ≡ false
  among : are_among s.options rest ≡ true
  whole : (gs ++ g ∷ []) ++ rest ≡ gs ++ all
  distinct : are_distinct ((gs ++ g ∷ []) ++ rest) ≡ true

first_of_all : (s : Shape) (gs all : List Given) (g : Given) (rest : List Given) → all ≡ g ∷ rest
    → are_among s.options all ≡ true → are_distinct (gs ++ all) ≡ true → First s gs all g rest
first_of_all s gs all g rest is among distinct =
    let both = and_parts (is_among s.options g.name) (are_among s.options rest) (subst (λ x. are_among s.options x ≡ true) is among) in
    let whole : (gs ++ g ∷ []) ++ rest ≡ gs ++ all = append_assoc gs (g ∷ []) rest ∙ ap (λ x. gs ++ x) (sym is) in
    record {
      listed = both.0;
      new = rows_gives g.name gs ∙ not_before gs g rest (subst (λ x. are_distinct (gs ++ x) ≡ true) is distinct);
      among = both.1;
      whole = whole;
      distinct = subst (λ x. are_distinct x ≡ true) (sym whole) distinct;
    }

module _ (s : Shape) (gs all : List Given) (h : Held) (ready : Ready (rules_of s) gs h) (among : are_among s.options all ≡ true)
    (distinct : are_distinct (gs ++ all) ≡ true) where
  one_word : (w name value : Text) (words : List Text) → WalksOver s words → option_in w ≡ Some (name, Some value)
      → with_rest (with_value name value words) ≡ Some all → Ends s (gs ++ all) (walk_from h) (w ∷ words)
  one_word w name value words next is e =
      let parts = given_parts name value words all e in
      let f = first_of_all s gs all (given_as name value) parts.1.0 parts.1.2 among distinct in
      let found = by_long s.options name f.listed in
      let after = reacted (rules_of s) (built_rule name) (value ∷ []) h in
      let ends = next _ parts.1.0 after (ready_whole (rules_of s) h gs name value ready f.new) parts.1.1 f.among f.distinct in
      subst (λ x. Ends s x (walk_from h) (w ∷ words)) f.whole
      (ends_cons s _ (walk_from h) (walk_from after) w words
      (pass_whole s h gs w name value is found ready f.new) (step_whole (rules_of s) h w name value is found) ends)

  two_words : (w name value : Text) (words : List Text) → WalksOver s words → option_in w ≡ Some (name, None)
      → with_rest (with_value name value words) ≡ Some all → Ends s (gs ++ all) (walk_from h) (w ∷ value ∷ words)
  two_words w name value words next is e =
      let parts = given_parts name value words all e in
      let f = first_of_all s gs all (given_as name value) parts.1.0 parts.1.2 among distinct in
      let by_name = by_long s.options name f.listed in
      let found = by_id s.options name f.listed in
      let rows = (settled (rules_of s) h).rows in
      let waiting = waiting_walk name rows h.skip in
      let after = pending_value name value rows h.skip in
      let now_ready = ready_value (rules_of s) rows h.skip gs name value ready.1 f.new found in
      subst (λ x. Ends s x (walk_from h) (w ∷ value ∷ words)) f.whole
      (ends_cons s _ (walk_from h) waiting w (value ∷ words)
      (pass_name s h gs w name is by_name ready) (step_name (rules_of s) h w name is by_name)
      (ends_cons s _ waiting (walk_from after) value words
      (pass_value s rows h.skip name value parts.0) (step_value (rules_of s) rows h.skip name value parts.0 found)
      (next _ parts.1.0 after now_ready parts.1.1 f.among f.distinct)))

-- ---- all words

no_words : (s : Shape) → WalksOver s []
unfolding walk_passes
no_words s gs all h ready e among distinct =
    let none : [] ≡ all = cc in
    subst (λ x. Ends s x (walk_from h) []) (sym (append-nil gs) ∙ ap (λ x. gs ++ x) none) (refl, (h, refl, ready))

-- these words, and those after the first of them
abbrev Both : Shape → List Text → Type 0
Both s words = WalksOver s words × ((value : Text) (rest : List Text) → words ≡ value ∷ rest → WalksOver s rest)

one_more : (s : Shape) (w : Text) (words : List Text) → Both s words → WalksOver s (w ∷ words)
one_more s w words next gs all h ready e among distinct = go (option_in w) refl
  where
    here : with_rest (first_option (w ∷ words)) ≡ Some all
    here = sym (options_first w words) ∙ e

    waits : (name : Text) (words' : List Text) → words ≡ words' → option_in w ≡ Some (name, None)
        → with_rest (with_words name None words') ≡ Some all → Ends s (gs ++ all) (walk_from h) (w ∷ words')
    waits name [] same is e = absurd cc
    waits name (value ∷ rest) same is e = two_words s gs all h ready among distinct w name value rest (next.1 value rest same) is e

    inner : (name : Text) (value : Option Text) → option_in w ≡ Some (name, value) → Ends s (gs ++ all) (walk_from h) (w ∷ words)
    inner name (Some value) is = one_word s gs all h ready among distinct w name value words next.0 is (rw is at here)
    inner name None is = waits name words refl is (rw is at here)

    go : (found : Option (Text × Option Text)) → option_in w ≡ found → Ends s (gs ++ all) (walk_from h) (w ∷ words)
    go None is = let none : None ≡ Some all = rw is at here in absurd cc
    go (Some p) is = inner p.0 p.1 is

walks : (s : Shape) (words : List Text) → Both s words
walks s [] = (no_words s, λ value rest e. absurd cc)
walks s (w ∷ words) =
    let before = walks s words in
    (one_more s w words before, λ value rest e. (let same : words ≡ rest = cc in subst (WalksOver s) same before.0))

-- ---- after the walk

no_defaults : (names : List Text) (rows : List Row) → fold with_default rows (map built_rule names) ≡ rows
no_defaults [] rows = refl
no_defaults (name ∷ names) rows = ap (λ r. fold with_default r (map built_rule names)) (one (has_row name rows)) ∙ no_defaults names rows
  where
    one : (b : Bool) → cond b rows rows ≡ rows
    one true = refl
    one false = refl

defaults_pass : (names : List Text) → list_all default_passes (map built_rule names) ≡ true
defaults_pass [] = refl
defaults_pass (name ∷ names) = defaults_pass names

free_rules : (names : List Text) → list_all (λ (a : Rule). a.is_free) (map built_rule names) ≡ true
free_rules [] = refl
free_rules (name ∷ names) = free_rules names

none_required : (names : List Text) (rows : List Row)
    → list_all (λ (a : Rule). not a.required || is_given a.id rows) (map built_rule names) ≡ true
none_required [] rows = refl
none_required (name ∷ names) rows = none_required names rows

-- a subcommand takes words that give options of its own, each at most once, and finds these
pub record LevelTaken (s : Shape) (words : List Text) (all : List Given) : Type 0 where
  pub takes : level_passes (built_leaf s) [] nothing_held words false ≡ true
  pub finds : rows_after (rules_of s) [] words ≡ map row_for all

pub level : (s : Shape) (words : List Text) (all : List Given) → options_in words ≡ Some all → are_among s.options all ≡ true
    → are_distinct all ≡ true → LevelTaken s words all
level s words all e among distinct =
    let rules = rules_of s in
    let r = (walks s words).0 [] all nothing_held (refl, refl) e among distinct in
    let walk = fold (walked rules []) (walk_from nothing_held) words in
    let at_end : walk.held ≡ r.1.0 = ap (λ (w : Walk). w.held) r.1.1 in
    let settles : settle_passes rules false walk.held ≡ true = ap (settle_passes rules false) at_end ∙ r.1.2.0 in
    record {
      takes = rw (r.0, settles, defaults_pass s.options, free_rules s.options, none_required s.options (finished rules walk.held)) refl;
      finds = ap (λ h. finished rules h) at_end ∙ no_defaults s.options (settled rules r.1.0).rows ∙ r.1.2.1;
    }
