use Rattle.std.proofs.Common.{◌≡◌, ℕ, ◌-◌, List, length, Some, None, true, ap, sym, subst, refl, ◌∙◌, set, get_or, inl, inr, rules}
use Rattle.std.specs.Prelude.{position, Contains, min}
use Rattle.mp_outside.specs.Outside.{one_more, Loads}
use Rattle.mp_outside.specs.MemFiles.{MemFile, FilesState, has_name, RaisesOnly}
use Rattle.mp_outside.proofs.NamedFiles.{Sets-set, RaisesOnly-held, RaisesOnly-shared, Rose-RaisesOnly}
use Rattle.mp_outside.proofs.NamedFiles.{later_counts, same_contents, found, none_found}
use Rattle.mp_outside.proofs.mem_files.MemFilesFiles.load.Goals as goal

-- the name is not held
pub returns-in_default : goal.returns-in_default
returns-in_default c =
    let files : List MemFile = c.self.inside.held.items in
    let name = c.args.name.now in
    let at : position (has_name name) files ≡ None =
    ap (λ (held : List MemFile). position (has_name name) held) (sym c.deref-2.ensures.value)
    ∙ sym c.position_of.ensures ∙ c.in_default.is in
    let absent = none_found (has_name name) files at in
    let old : FilesState = record {
      files = files;
      shared = c.self.inside.shared;
      most = c.self.inside.most;
      calls = c.self.inside.calls;
      failing = c.self.inside.failing.items;
    } in
    let new : FilesState = record {
      files = files;
      shared = c.saturating_add-self-inside-in_default.result;
      most = c.self.inside.most;
      calls = c.saturating_add-self-inside.result;
      failing = c.self.inside.failing.items;
    } in
    let raised : RaisesOnly old new name = RaisesOnly-shared old new name refl absent c.saturating_add-self-inside-in_default.ensures in
    record {
      bound = search rules;
      bytes = search rules;
      same = search rules;
      later = search rules;
      cause = rw (← c.self.view_is) (Rose-RaisesOnly old new name raised);
      fails = rw (← c.self.view_is) (λ _. inr (rw absent refl), λ _. refl);
      count = search rules;
      raised = rw (← c.self.view_is) raised;
      kept = search rules;
      counted = search rules;
    }

-- the call is listed
pub returns-then-fails : goal.returns-then-fails
returns-then-fails c =
    let files : List MemFile = c.self.inside.held.items in
    let file : MemFile = c.index_mut.result.now in
    let changed : MemFile = c.count_fault.new.self in
    let name = c.args.name.now in
    let at : position (has_name name) files ≡ Some c.in-Some.index =
    ap (λ (held : List MemFile). position (has_name name) held) (sym c.deref-2.ensures.value) ∙ sym c.in-Some.ensures in
    let is : file ≡ get_or files c.in-Some.index file = c.index_mut.ensures.value in
    let held = found name files c.in-Some.index file at is in
    let value = c.count_fault.ensures.value in
    let sets = Sets-set name files c.in-Some.index file changed at is (ap (λ (f : MemFile). f.name) value) in
    let old : FilesState = record {
      files = files;
      shared = c.self.inside.shared;
      most = c.self.inside.most;
      calls = c.self.inside.calls;
      failing = c.self.inside.failing.items;
    } in
    let new : FilesState = record {
      files = set files c.in-Some.index changed;
      shared = c.self.inside.shared;
      most = c.self.inside.most;
      calls = c.saturating_add-self-inside.result;
      failing = c.self.inside.failing.items;
    } in
    let raised : RaisesOnly old new name =
    RaisesOnly-held old new name file changed sets held refl (ap (λ (f : MemFile). f.faults) value) in
    record {
      bound = search rules;
      bytes = search rules;
      same = rw (← c.self.view_is) (same_contents old new name file changed sets held (ap (λ (f : MemFile). f.bytes) value));
      later = rw (← c.self.view_is) (later_counts old new name file changed sets held refl c.count_fault.ensures.later);
      cause = rw (← c.self.view_is) (Rose-RaisesOnly old new name raised);
      fails = rw (← c.self.view_is) (
        λ _. inl (rw (← c.deref.ensures.value, ← c.saturating_add-self-inside.ensures) (c.is_listed-fails.ensures.0 c.if-fails.true)),
        λ _. refl,
      );
      count = search rules;
      raised = rw (← c.self.view_is) raised;
      kept = search rules;
      counted = search rules;
    }

-- the bytes are given
pub returns : goal.returns
returns c =
    let files : List MemFile = c.self.inside.held.items in
    let file : MemFile = c.index.result.now in
    let name = c.args.name.now in
    let at : position (has_name name) files ≡ Some c.in-Some.index =
    ap (λ (held : List MemFile). position (has_name name) held) (sym c.deref-2.ensures.value) ∙ sym c.in-Some.ensures in
    let is : file ≡ get_or files c.in-Some.index file = c.index.ensures in
    let held = found name files c.in-Some.index file at is in
    let told : Contains c.self.inside.failing.items (one_more c.self.inside.calls) → c.is_listed-fails.result ≡ true =
    λ listed. c.is_listed-fails.ensures.1 (rw (c.deref.ensures.value, c.saturating_add-self-inside.ensures) listed) in
    record {
      bound = search rules;
      bytes = rw (← c.self.view_is, held)
          (subst (λ (text : List ℕ). Loads text c.args.place c.copy_from.result c.copy_from.new.buf) c.bytes.ensures
          (c.copy_from.ensures.bytes c.self.invariant));
      same = search rules;
      later = search rules;
      cause = search rules;
      fails = rw (← c.self.view_is, held)
          (λ e. absurd cc, λ fails. elim fails [ inl listed ↦ sym c.if-fails.false ∙ told listed | inr absent ↦ absurd cc ]);
      count = rw (← c.self.view_is, held) (c.copy_from.ensures.count ∙ ap
          (λ (text : List ℕ). min (min (length text - c.args.place) (length c.copy_from.new.buf)) c.self.inside.most) c.bytes.ensures);
      raised = search rules;
      kept = search rules;
      counted = search rules;
    }
