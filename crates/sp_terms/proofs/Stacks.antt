-- The stack rule: what a list of positions leaves is the postfix form of the terms on the stack.
use Rattle.std.proofs.Common.{◌≡◌, ℕ, zero, suc, ◌+◌, ◌-◌, ◌<◌, ◌≤◌, refl, sym, subst, ap, arith, ◌∙◌, List, [], ◌∷◌, ◌++◌}
use Rattle.std.proofs.Common.{length, length-append, take, drop, get_or, Option, Some, None, append_assoc, length-take}
use Rattle.std.specs.Prelude.{All, option_and_then}
use Rattle.std.proofs.lemmas.List.{append-nil, take-append-drop, take_at}
use Rattle.std.proofs.lemmas.List.Elements.{All-nil, All-cons, All-head, All-tail}
use Rattle.std.proofs.Math.Seq.{split_at, take-suc}
use Rattle.mp_system.specs.declared.system.Task.{Task}
use Rattle.sp_terms.specs.declared.position.Position.{Position}
use Rattle.sp_terms.specs.declared.position.Position.TheVariants.{Hold, Par}
use Rattle.sp_terms.specs.declared.position.Position.TheVariants as at
use Rattle.sp_terms.specs.Term.{Term, hold, series, par, Parts, no_parts, part, count, width_of, width_of_parts}
use Rattle.sp_terms.specs.Postfix.{gather, push, push_all, postfix, all_postfix, at_task}
use Rattle.lists.proofs.Options.{none_some, some_same}

pub head_same : {A : Type 0} {x y : A} {xs ys : List A} → x ∷ xs ≡ y ∷ ys → x ≡ y
head_same e = cc

pub tail_same : {A : Type 0} {x y : A} {xs ys : List A} → x ∷ xs ≡ y ∷ ys → xs ≡ ys
tail_same e = cc

-- what holds of each of two lists in a row
pub all-split : {A : Type 0} (P : A → Type 0) (xs ys : List A) → All P (xs ++ ys) → All P xs × All P ys
all-split P [] ys h = (All-nil P, h)
all-split P (x ∷ xs) ys h =
    let rest = all-split P xs ys (All-tail P x (xs ++ ys) h) in (All-cons P x xs (All-head P x (xs ++ ys) h) rest.0, rest.1)

-- the terms on the stack, above what was there
abbrev pub onto : Parts → List Term → List Term
onto no_parts stack = stack
onto (part t ts) stack = onto ts (t ∷ stack)

-- what was gathered stood on the stack
pub gathered : (k : ℕ) (stack : List Term) (us ts : Parts) (rest : List Term)
    → gather k stack us ≡ Some (ts, rest) → (onto us stack ≡ onto ts rest) × (count ts ≡ k + count us)
gathered zero stack us ts rest e = let p = some_same e in ((λ i. onto ((p i).0) ((p i).1)), ap (λ q. count q.0) (sym p) ∙ omega arith)
gathered (suc k) [] us ts rest e = absurd (none_some e)
gathered (suc k) (t ∷ stack) us ts rest e = let y = gathered k stack (part t us) ts rest e in (y.0, y.1 ∙ omega arith)

abbrev pub stack_postfix : List Term → List Position
stack_postfix [] = []
stack_postfix (t ∷ stack) = stack_postfix stack ++ postfix t

pub onto-postfix : (ts : Parts) (stack : List Term) → stack_postfix (onto ts stack) ≡ stack_postfix stack ++ all_postfix ts
onto-postfix no_parts stack = sym (append-nil (stack_postfix stack))
onto-postfix (part t ts) stack = onto-postfix ts (t ∷ stack) ∙ append_assoc (stack_postfix stack) (postfix t) (all_postfix ts)

-- what each position finds and leaves
pub data Pushed : Position → List Term → List Term → Type 0 where
  held : (size : ℕ) (stack : List Term) → Pushed (Hold size) stack (hold size ∷ stack)
  ran : (v : Task) (a b : Term) (stack : List Term) → Pushed (at_task v) (b ∷ a ∷ stack) (series a v b ∷ stack)
  beside : (ts : Parts) (stack : List Term) → gather (count ts) (onto ts stack) no_parts ≡ Some (ts, stack)
      → Pushed (Par (count ts)) (onto ts stack) (par ts ∷ stack)

pub pushed : (p : Position) (stack out : List Term) → push p stack ≡ Some out → Pushed p stack out
pushed (Hold size) stack out e = subst (Pushed (Hold size) stack) (some_same e) (held size stack)
pushed (at.Task x s t) [] out e = absurd (none_some e)
pushed (at.Task x s t) (b ∷ []) out e = absurd (none_some e)
pushed (at.Task x s t) (b ∷ a ∷ stack) out e =
    subst (Pushed (at.Task x s t) (b ∷ a ∷ stack)) (some_same e) (ran (record { extra = x; share = s; time = t }) a b stack)
pushed (Par k) stack out e = go (gather k stack no_parts) refl e
  where
    go : (o : Option (Parts × List Term)) → gather k stack no_parts ≡ o
        → option_and_then (λ p. Some (par p.0 ∷ p.1)) o ≡ Some out → Pushed (Par k) stack out
    go None h e = absurd (none_some e)
    go (Some (ts, rest)) h e =
        let y = gathered k stack no_parts ts rest h in
        let n : count ts ≡ k = omega (arith, y.1) in
        let s : onto ts rest ≡ stack = sym y.0 in
        let h2 : gather (count ts) (onto ts rest) no_parts ≡ Some (ts, rest) = (λ i. gather (n i) (s i) no_parts) ∙ h in
        subst (Pushed (Par k) stack) (some_same e)
        (subst (λ m. Pushed (Par m) stack (par ts ∷ rest)) n
        (subst (λ z. Pushed (Par (count ts)) z (par ts ∷ rest)) s (beside ts rest h2)))

pushed-postfix : (p : Position) (stack out : List Term) → Pushed p stack out → stack_postfix stack ++ p ∷ [] ≡ stack_postfix out
pushed-postfix p stack out (held size st) = refl
pushed-postfix p stack out (ran v a b st) = simp append_assoc
pushed-postfix p stack out (beside ts st e) =
    ap (λ q. q ++ Par (count ts) ∷ []) (onto-postfix ts st) ∙ append_assoc (stack_postfix st) (all_postfix ts) (Par (count ts) ∷ [])

pub all_pushed : (ps : List Position) (stack out : List Term) → push_all ps stack ≡ Some out → stack_postfix stack ++ ps ≡ stack_postfix out
all_pushed [] stack out e = append-nil (stack_postfix stack) ∙ ap stack_postfix (some_same e)
all_pushed (p ∷ ps) stack out e = go (push p stack) refl (λ next h. all_pushed ps next out h) e
  where
    go : (o : Option (List Term)) → push p stack ≡ o
        → ((next : List Term) → push_all ps next ≡ Some out → stack_postfix next ++ ps ≡ stack_postfix out)
        → option_and_then (push_all ps) o ≡ Some out → stack_postfix stack ++ p ∷ ps ≡ stack_postfix out
    go None h f e = absurd (none_some e)
    go (Some next) h f e =
        sym (append_assoc (stack_postfix stack) (p ∷ []) ps)
        ∙ ap (λ q. q ++ ps) (pushed-postfix p stack next (pushed p stack next h)) ∙ f next e

-- one list after the other
pub push_then : (ps more : List Position) (st stack : List Term)
    → push_all ps st ≡ Some stack → push_all (ps ++ more) st ≡ push_all more stack
push_then [] more st stack e = ap (push_all more) (some_same e)
push_then (p ∷ ps) more st stack e = go (push p st) (λ next h. push_then ps more next stack h) e
  where
    go : (o : Option (List Term)) → ((next : List Term) → push_all ps next ≡ Some stack → push_all (ps ++ more) next ≡ push_all more stack)
        → option_and_then (push_all ps) o ≡ Some stack
        → option_and_then (push_all (ps ++ more)) o ≡ push_all more stack
    go None f h = absurd (none_some h)
    go (Some next) f h = f next h

-- each prefix leaves a stack
pub prefix : (before after : List Position) (out : List Term) → push_all (before ++ after) [] ≡ Some out
    → (stack : List Term) × (push_all before [] ≡ Some stack) × (push_all after stack ≡ Some out)
prefix before after out e = go before [] e
  where
    pick : (o : Option (List Term)) (ps : List Position)
        → ((next : List Term) → push_all (ps ++ after) next ≡ Some out
        → (stack : List Term) × (push_all ps next ≡ Some stack) × (push_all after stack ≡ Some out))
        → option_and_then (push_all (ps ++ after)) o ≡ Some out
        → (stack : List Term) × (option_and_then (push_all ps) o ≡ Some stack) × (push_all after stack ≡ Some out)
    pick None ps f h = absurd (none_some h)
    pick (Some next) ps f h = f next h

    go : (ps : List Position) (st : List Term) → push_all (ps ++ after) st ≡ Some out
        → (stack : List Term) × (push_all ps st ≡ Some stack) × (push_all after stack ≡ Some out)
    go [] st h = (st, refl, h)
    go (p ∷ ps) st h = pick (push p st) ps (λ next k. go ps next k) h

-- a term's own positions leave it
abbrev joined : Parts → Parts → Parts
joined no_parts us = us
joined (part t ts) us = part t (joined ts us)

joined_none : (ts : Parts) → joined ts no_parts ≡ ts
joined_none no_parts = refl
joined_none (part t ts) = ap (part t) (joined_none ts)

gather_onto : (ts us : Parts) (k : ℕ) (stack : List Term) → gather (count ts + k) (onto ts stack) us ≡ gather k stack (joined ts us)
gather_onto no_parts us k stack = ap (λ n. gather n stack us) (omega arith)
gather_onto (part t ts) us k stack =
    ap (λ n. gather n (onto ts (t ∷ stack)) us) (move (count ts) k) ∙ gather_onto ts us (suc k) (t ∷ stack)
  where
    move : (n k : ℕ) → suc n + k ≡ n + suc k
    move n k = omega arith

taken : (ts : Parts) (stack : List Term) → gather (count ts) (onto ts stack) no_parts ≡ Some (ts, stack)
taken ts stack = ap (λ n. gather n (onto ts stack) no_parts) (zero_more (count ts))
    ∙ gather_onto ts no_parts 0 stack ∙ ap (λ us. Some (us, stack)) (joined_none ts)
  where
    zero_more : (n : ℕ) → n ≡ n + 0
    zero_more n = omega arith

mutual
  pub push-postfix : (t : Term) (ps : List Position) (stack : List Term) → push_all (postfix t ++ ps) stack ≡ push_all ps (t ∷ stack)
  push-postfix (hold size) ps stack = refl
  push-postfix (series a v b) ps stack =
      ap (λ q. push_all q stack) (append_assoc (postfix a) (postfix b ++ at_task v ∷ []) ps)
      ∙ push-postfix a ((postfix b ++ at_task v ∷ []) ++ ps) stack
      ∙ ap (λ q. push_all q (a ∷ stack)) (append_assoc (postfix b) (at_task v ∷ []) ps)
      ∙ push-postfix b (at_task v ∷ ps) (a ∷ stack)
  push-postfix (par ts) ps stack =
      ap (λ q. push_all q stack) (append_assoc (all_postfix ts) (Par (count ts) ∷ []) ps)
      ∙ push-all_postfix ts (Par (count ts) ∷ ps) stack
      ∙ ap (λ o. option_and_then (push_all ps) (option_and_then (λ p. Some (par p.0 ∷ p.1)) o)) (taken ts stack)

  pub push-all_postfix : (ts : Parts) (ps : List Position) (stack : List Term)
      → push_all (all_postfix ts ++ ps) stack ≡ push_all ps (onto ts stack)
  push-all_postfix no_parts ps stack = refl
  push-all_postfix (part t ts) ps stack =
      ap (λ q. push_all q stack) (append_assoc (postfix t) (all_postfix ts) ps)
      ∙ push-postfix t (all_postfix ts ++ ps) stack ∙ push-all_postfix ts ps (t ∷ stack)

pub whole_stack : (st : List Term) → push_all (stack_postfix st) [] ≡ Some st
whole_stack [] = refl
whole_stack (u ∷ st) =
    push_then (stack_postfix st) (postfix u) [] st (whole_stack st)
    ∙ ap (λ q. push_all q st) (sym (append-nil (postfix u))) ∙ push-postfix u [] st

mutual
  pub length-postfix : (t : Term) → length (postfix t) ≡ width_of t
  length-postfix (hold size) = refl
  length-postfix (series a v b) = length-append (postfix a) (postfix b ++ at_task v ∷ [])
      ∙ omega (arith, length-append (postfix b) (at_task v ∷ []), length-postfix a, length-postfix b)
  length-postfix (par ts) = length-append (all_postfix ts) (Par (count ts) ∷ []) ∙ omega (arith, length-all_postfix ts)

  pub length-all_postfix : (ts : Parts) → length (all_postfix ts) ≡ width_of_parts ts
  length-all_postfix no_parts = refl
  length-all_postfix (part t ts) = length-append (postfix t) (all_postfix ts) ∙ omega (arith, length-postfix t, length-all_postfix ts)

pub some-position : (t : Term) → 0 < width_of t
some-position (hold size) = omega arith
some-position (series a v b) = omega arith
some-position (par ts) = omega arith

-- below the top of the stack lies what stood there before the top term's own positions
pub record Under (ps : List Position) (n : ℕ) (t : Term) (stack : List Term) : Type 0 where
  pub room : width_of t ≤ n
  pub some : 0 < width_of t
  pub cut : take (n - width_of t) ps ++ postfix t ≡ take n ps
  pub is : push_all (take (n - width_of t) ps) [] ≡ Some stack

pub under : (ps : List Position) (n : ℕ) (t : Term) (stack : List Term)
    → n ≤ length ps → push_all (take n ps) [] ≡ Some (t ∷ stack) → Under ps n t stack
under ps n t stack le e =
    let eq : take n ps ≡ stack_postfix stack ++ postfix t = all_pushed (take n ps) [] (t ∷ stack) e in
    let len : n ≡ length (stack_postfix stack) + width_of t =
    omega (arith, length-take n ps, ap length eq, length-append (stack_postfix stack) (postfix t), length-postfix t) in
    let low : length (stack_postfix stack) ≡ n - width_of t = omega arith in
    let split : ps ≡ stack_postfix stack ++ (postfix t ++ drop n ps) =
    sym (take-append-drop n ps) ∙ ap (λ z. z ++ drop n ps) eq ∙ append_assoc (stack_postfix stack) (postfix t) (drop n ps) in
    let first : take (n - width_of t) ps ≡ stack_postfix stack =
    ap (take (n - width_of t)) split ∙ take_at (stack_postfix stack) (postfix t ++ drop n ps) (n - width_of t) low in
    record {
      room = omega arith;
      some = some-position t;
      cut = ap (λ z. z ++ postfix t) first ∙ sym eq;
      is = ap (λ z. push_all z []) first ∙ whole_stack stack;
    }

-- what a position of a list that leaves a stack finds and leaves
pub record Place (ps : List Position) (n : ℕ) (p : Position) : Type 0 where
  pub before : List Term
  pub after : List Term
  pub is : push_all (take n ps) [] ≡ Some before
  pub then : push_all (take (suc n) ps) [] ≡ Some after
  pub step : Pushed p before after

pub place : (ps : List Position) (out : List Term) (n : ℕ) (d : Position)
    → push_all ps [] ≡ Some out → n < length ps → Place ps n (get_or ps n d)
place ps out n d e lt =
    let cut : ps ≡ take n ps ++ get_or ps n d ∷ drop (suc n) ps = split_at ps n d lt in
    let (before, f, h) = prefix (take n ps) (get_or ps n d ∷ drop (suc n) ps) out (ap (λ z. push_all z []) (sym cut) ∙ e) in
    go before f (push (get_or ps n d) before) refl h
  where
    go : (before : List Term) → push_all (take n ps) [] ≡ Some before → (o : Option (List Term))
        → push (get_or ps n d) before ≡ o → option_and_then (push_all (drop (suc n) ps)) o ≡ Some out → Place ps n (get_or ps n d)
    go before f None k h = absurd (none_some h)
    go before f (Some after) k h = record {
      before = before;
      after = after;
      is = f;
      then = ap (λ z. push_all z []) (take-suc ps n d lt)
          ∙ push_then (take n ps) (get_or ps n d ∷ []) [] before f ∙ ap (option_and_then (push_all [])) k;
      step = pushed (get_or ps n d) before after k;
    }
