use Rattle.std.proofs.Common.{◌≡◌, ◌≢◌, ◌∷◌, [], ◌++◌, ◌&&◌, ◌-◌, ◌<◌, inl, inr, false, ℕ, get_or}
use Rattle.std.proofs.Common.{take, length, length-set, arith, sym, ap, ap₂, ◌∙◌, subst}
use Rattle.std.specs.List.{filter}
use Rattle.std.proofs.lemmas.Bool.{cases_eq, both_ways}
use Rattle.std.proofs.lemmas.List.{with_items_is}
use Rattle.min_tree.specs.Least.{greatest}
use Rattle.bit_rows.specs.Bits.{bit_in, word_bit}
use Rattle.elimination.specs.Dense.{AreBitRows, row_of, stage_after, width_of, lacks}
use Rattle.patterns.proofs.NumberLists.{has_at}
use Rattle.elimination.proofs.DenseBits.{row_get, put_own, put_others}
use Rattle.elimination.proofs.DenseSteps.{eliminated_rows, eliminated_bounds}
use Rattle.elimination.proofs.dense.eliminate.Goals as goal
use Rattle.elimination.proofs.dense.eliminate.Goals.{After-remove, After-words}

pub remove-requires : goal.remove-requires
remove-requires c =
    let le = c.requires.1.here.0.1 in
    let width = c.requires.1.dense.rows.alive_width in
    omega arith

-- the row of those that are left
gone : (c : After-remove) → bit_in c.remove.new.self c.args.v ≡ false
gone c =
    let le = c.requires.1.here.0.1 in
    let width = c.requires.1.dense.rows.alive_width in
    put_own c.args.search.now.alive c.remove.new.self c.args.v false c.remove.ensures (omega arith)

stays : (c : After-remove) (x : ℕ) → x ≢ c.args.v → bit_in c.remove.new.self x ≡ bit_in c.args.search.now.alive x
stays c = put_others c.args.search.now.alive c.remove.new.self c.args.v false c.remove.ensures

alive_len : (c : After-remove) → length c.remove.new.self ≡ length c.args.search.now.alive
alive_len c = ap length c.remove.ensures ∙ length-set c.args.search.now.alive c.args.v false

-- the row of the vertex
row_is : (c : After-words) → c.index.result.now ≡ row_of c.args.search.now.rows.items c.args.v
row_is c =
    let len = c.requires.1.dense.rows_len in
    let le = c.requires.1.here.0.1 in
    c.index.ensures ∙ row_get c.args.search.now.rows.items c.args.v c.index.result.now (omega arith)

row_len : (c : After-words) → length c.index.result.now ≡ width_of c.requires.0.order
row_len c = ap length (row_is c) ∙ c.requires.1.dense.rows.row_width c.args.v c.requires.1.here

pub lower_common-requires-clause-same : goal.lower_common-requires-clause-same
lower_common-requires-clause-same c =
    let len = alive_len (goal.at.lower_common-requires-clause-same c).After-remove in
    let width = c.requires.1.dense.rows.alive_width in
    let row = row_len (goal.at.lower_common-requires-clause-same c).After-words in
    let one = c.words.ensures.len in
    let two = c.words-2.ensures.len in
    omega arith

pub lower_common-requires-clause-few : goal.lower_common-requires-clause-few
lower_common-requires-clause-few c =
    let l = row_len (goal.at.lower_common-requires-clause-few c).After-words in
    let one = c.words.ensures.len in
    let few = c.requires.1.dense.few in
    omega arith

pub lower_common-requires-clause-inside : goal.lower_common-requires-clause-inside
lower_common-requires-clause-inside c = λ x t.
    let c' = (goal.at.lower_common-requires-clause-inside c).After-remove in
    let d = c.requires.1.dense in
    let in_alive = sym (c.words-2.ensures.bits x) ∙ t in
    let lt : x < length c.args.search.now.bounds = elim (cases_eq x c.args.v) [
      | inl e ↦ absurd (both_ways _ (gone c') (sym (ap (bit_in c.remove.new.self) e) ∙ in_alive))
      | inr ne ↦ let le = (d.rows.alive_from x (sym (stays c' x ne) ∙ in_alive)).0.1 in let len = d.bounds.len in omega arith
    ] in
    let put = ap length c.put.ensures ∙ length-set c.args.search.now.bounds c.args.v greatest in
    omega arith

pub keep_apart-kept-requires-clause-within : goal.keep_apart-kept-requires-clause-within
keep_apart-kept-requires-clause-within c = λ j lt.
    let d = c.requires.1.dense in
    let e = c.deref_mut.ensures.value in
    let l = ap length c.deref_mut.ensures.value in
    let h = d.rows.open_gone (get_or c.args.search.now.pivots.items j 0) (has_at c.args.search.now.pivots.items j (omega arith)) in
    let le = h.0.1 in
    let len = d.rows_len in
    let m = ap length c.deref.ensures.value in
    let g = ap (λ z. get_or z j 0) e in
    omega arith

pub keep_apart-kept-requires-clause-widths : goal.keep_apart-kept-requires-clause-widths
keep_apart-kept-requires-clause-widths c = λ j lt.
    let d = c.requires.1.dense in
    let e = c.deref_mut.ensures.value in
    let l = ap length c.deref_mut.ensures.value in
    let p = get_or c.args.search.now.pivots.items j 0 in
    let w = d.rows.open_width p (has_at c.args.search.now.pivots.items j (omega arith)) in
    let le = c.requires.1.here.0.1 in
    let here : c.args.v < length (row_of c.args.search.now.rows.items p) = omega arith in
    subst (λ z. c.args.v < length (row_of z (get_or c.deref_mut.result.now j 0))) (sym c.deref.ensures.value)
    (subst (λ z. c.args.v < length (row_of c.args.search.now.rows.items (get_or z j 0))) (sym e) here)

pub returns-clause-eliminated : goal.returns-clause-eliminated
returns-clause-eliminated c = λ stage choice.
    let d = choice.dense in
    let v = c.args.v in
    let search = c.args.search.now in
    let row = row_of c.args.search.now.rows.items in
    let opened = c.args.search.now.pivots.items in
    let alive = c.args.search.now.alive in
    let alive' = c.remove.new.self in
    let c' = (goal.at.returns-clause-eliminated c).After-remove in
    let len = alive_len c' in
    let cleared = gone c' in
    let others = stays c' in
    let opened_is : c.push.new.self.items ≡ filter (lacks row v) opened ++ v ∷ [] =
    c.in_ok-push.ensures.items ∙ ap (λ z. z ++ v ∷ []) (
    c.truncate.ensures.items
    ∙ ap (take c.keep_apart-kept.result)
    (with_items_is c.args.search.now.pivots c.keep_apart-kept.new.pivots (c.keep_apart-kept.auto.pivots ∙ c.deref_mut.ensures.len))
    ∙ c.keep_apart-kept.ensures
    ∙ ap (filter (lacks (row_of c.deref.result.now) v)) c.deref_mut.ensures.value
    ∙ ap (λ z. filter (lacks (row_of z) v) opened) c.deref.ensures.value
    ) in
    let own = row_is (goal.at.returns-clause-eliminated c).After-words in
    let both : (x : ℕ) → (word_bit c.words.result.now x && word_bit c.words-2.result.now x) ≡ (bit_in (row v) x && bit_in alive' x) = λ x.
    ap₂ (λ a b. a && b) (c.words.ensures.bits x ∙ ap (λ z. bit_in z x) own) (c.words-2.ensures.bits x) in
    record {
      order_is = d.order_is;
      few = d.few;
      rows_len = d.rows_len;
      rows = subst (λ z. AreBitRows (stage_after stage v) row z alive') (sym opened_is)
          (eliminated_rows stage row opened alive d.rows v choice.here choice.exact alive' len cleared others);
      bounds = eliminated_bounds stage row opened alive d.rows v choice.here choice.exact alive' len cleared others
          c.args.search.now.bounds c.lower_common.new.bounds d.bounds
          (c.lower_common.ensures.len ∙ ap length c.put.ensures ∙ length-set c.args.search.now.bounds v greatest)
          (λ x t. c.lower_common.ensures.common x (both x ∙ t) ∙ ap (λ z. get_or z x 0 - 1) c.put.ensures)
          (λ x f. c.lower_common.ensures.others x (both x ∙ f) ∙ ap (λ z. get_or z x 0) c.put.ensures);
    }
