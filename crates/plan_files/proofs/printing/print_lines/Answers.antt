use Rattle.std.proofs.Common.{◌≡◌, ℕ, List, [], ◌∷◌, ◌++◌, length, take, refl, subst}
use Rattle.std.specs.Prelude.{Result, Ok, Err, OnErr}
use Rattle.plan_files.proofs.printing.print_lines.Goals as goal

-- what begins with a text begins with each text that this one begins with
kept : (a b z : List ℕ) → take (length (a ++ b)) z ≡ a ++ b → take (length a) z ≡ a
kept [] b z e = refl
kept (x ∷ a) b [] e = absurd cc
kept (x ∷ a) b (y ∷ z) e =
    let head : y ≡ x = cc in
    let tail : take (length (a ++ b)) z ≡ a ++ b = cc in
    let rest : take (length a) z ≡ a = kept a b z tail in
    cc

kept_twice : (old one two h t new : List ℕ) → one ≡ old ++ h → two ≡ one ++ t → take (length two) new ≡ two → take (length old) new ≡ old
kept_twice old one two h t new e f same =
    let mid : take (length one) new ≡ one = kept one t new (subst (λ (l : List ℕ). take (length l) new ≡ l) f same) in
    kept old h new (subst (λ (l : List ℕ). take (length l) new ≡ l) e mid)

on_err : {T E : Type 0} (P Q : Type 0) (r : Result T E) → (P → Q) → OnErr r P → OnErr r Q
on_err P Q (Ok v) more here = here
on_err P Q (Err e) more here = more here

pub returns-clause-err : goal.returns-clause-err
returns-clause-err c =
    on_err _ _ c.print_rest.result
    (kept_twice c.args.report.now c.print_header.new.report c.print_tasks.new.report _ _ c.print_rest.new.report
    c.in_ok-print_header.ensures.ok c.in_ok-print_tasks.ensures.ok)
    c.print_rest.ensures.err
