use Rattle.std.proofs.Common.{◌≡◌, List, Some, None, ap, sym, refl, ◌∙◌, get_or}
use Rattle.std.specs.Prelude.{position}
use Rattle.mp_outside.specs.MemFiles.{MemFile, has_name}
use Rattle.mp_outside.proofs.NamedFiles.{Sets-set, Sets-append, Puts-Sets, found, none_found}
use Rattle.mp_outside.proofs.mem_files.MemFiles.put.Goals as goal

pub returns-in-Some-clause-ok : goal.returns-in-Some-clause-ok
returns-in-Some-clause-ok c =
    let files : List MemFile = c.self.inside.held.items in
    let file : MemFile = c.index_mut.result.now in
    let changed : MemFile = c.replace_bytes.new.self in
    let name = c.args.name.now in
    let at : position (has_name name) files ≡ Some c.in-Some.index =
    ap (λ (held : List MemFile). position (has_name name) held) (sym c.deref.ensures.value) ∙ sym c.in-Some.ensures in
    let is : file ≡ get_or files c.in-Some.index file = c.index_mut.ensures.value in
    let sets = Sets-set name files c.in-Some.index file changed at is (ap (λ (f : MemFile). f.name) c.replace_bytes.ensures) in
    rw (← c.self.view_is)
    (Puts-Sets _ _ name c.args.bytes.now changed sets refl
    (ap (λ (f : MemFile). f.bytes) c.replace_bytes.ensures ∙ c.in_ok-bytes.ensures.items)
    (rw (found name files c.in-Some.index file at is) (ap (λ (f : MemFile). f.faults) c.replace_bytes.ensures)))

pub returns-in_ok-push-in-None-clause-ok : goal.returns-in_ok-push-in-None-clause-ok
returns-in_ok-push-in-None-clause-ok c =
    let files : List MemFile = c.self.inside.held.items in
    let file : MemFile = c.in_ok-file-in-None.file in
    let name = c.args.name.now in
    let at : position (has_name name) files ≡ None =
    ap (λ (held : List MemFile). position (has_name name) held) (sym c.deref.ensures.value) ∙ sym c.in-None.ensures in
    let made = c.in_ok-file-in-None.ensures in
    let sets = Sets-append name files file at (ap (λ (f : MemFile). f.name) made) in
    rw (← c.self.view_is, c.in_ok-push-in-None.ensures.items)
    (Puts-Sets _ _ name c.args.bytes.now file sets refl (ap (λ (f : MemFile). f.bytes) made ∙ c.in_ok-bytes.ensures.items)
    (rw (none_found (has_name name) files at) (ap (λ (f : MemFile). f.faults) made)))
