-- A certificate has at most as many claims as the term of its nodes has positions, and they are at most three for a node and one.
use Rattle.std.proofs.Common.{◌≡◌, ◌∙◌, ℕ, zero, suc, ◌+◌, ◌*◌, ◌<◌, ◌≤◌, if◌then◌else◌, eq-eqb, ne_eqb, Some}
use Rattle.std.proofs.Common.{List, [], ◌∷◌, ◌++◌, length, refl, sym, ap, arith, IsPermutation, length-append}
use Rattle.std.specs.List.{range_with_len}
use Rattle.std.proofs.lemmas.List.FromFn.{length-range_with_len}
use Rattle.std.proofs.lemmas.List.Sorted.{length_permutation}
use Rattle.sp_terms.specs.declared.position.Position.{Position}
use Rattle.trees.specs.declared.judged.NodeTest.TheVariants as tests
use Rattle.trees.specs.declared.judged.NodesRefusal.{NodesRefusal}
use Rattle.trees.specs.declared.judged.NodesRefusal.TheVariants as refused_nodes
use Rattle.trees.specs.declared.node.Node.{Node}
use Rattle.trees.specs.Forest.{Forest, no_trees, tree, roots_of, all_numbers, IsForestOf}
use Rattle.trees.specs.Tree.{IsTree}
use Rattle.trees.specs.TreeTerm.{beside_positions, own_positions, tree_positions, forest_positions}
use Rattle.claim_rules.specs.Claims.{Claim as RuleClaim}
use Rattle.plans.specs.declared.claim.Claim.{Claim as PlanClaim}
use Rattle.plans.specs.Plan.{PlanValue, IsPlan, RiseFrom, claim_at, claim_of}
use Rattle.claim_check.specs.Judged.{PassesAt}
use Rattle.c_calls.specs.declared.faults.Fault.{Fault}
use Rattle.c_calls.specs.declared.refusal.Refusal.{Refusal}
use Rattle.c_calls.specs.declared.refusal.Refusal.TheVariants as refusals
use Rattle.c_calls.specs.Answers.{IsCertificate}
use Rattle.c_calls.specs.Faults.{IsRefusedFor, answer_to, of_nodes}
use Rattle.c_calls.specs.Refusals.{IsCertifyRefusal, most_claims}

-- ---- claims at rising positions

-- a claim stands at a position, which is at least this far
record StandsFrom (claims : List PlanClaim) (far : ℕ) : Type 0 where
  at : ℕ
  claim : RuleClaim
  stands : claim_at claims at ≡ Some claim
  is_far : far ≤ at

-- the last of them stands as far as there are claims
last_stands : (n : ℕ) (c : PlanClaim) (cs : List PlanClaim) → RiseFrom n (c ∷ cs) → StandsFrom (c ∷ cs) (n + length (c ∷ cs))
last_stands n c [] rise = record {
  at = c.position;
  claim = claim_of c;
  stands = ap (λ b. if b then Some (claim_of c) else claim_at [] c.position) (eq-eqb c.position c.position refl);
  is_far = omega (arith, rise.0);
}
last_stands n c (d ∷ ds) rise =
    let last : StandsFrom (d ∷ ds) (c.position + length (d ∷ ds)) = last_stands c.position d ds rise.1 in
    record {
      at = last.at;
      claim = last.claim;
      stands = ap (λ b. if b then Some (claim_of c) else claim_at (d ∷ ds) last.at)
          (ne_eqb c.position last.at (λ e. omega (arith, e, last.is_far)))
          ∙ last.stands;
      is_far = omega (arith, rise.0, last.is_far);
    }

-- claims that pass stand at positions of the term
few_claims : (ps : List Position) (claims : List PlanClaim) → RiseFrom 0 claims → ((k : ℕ) → PassesAt ps (claim_at claims) k)
    → length claims ≤ length ps
few_claims ps [] rise pass = omega arith
few_claims ps (c ∷ cs) rise pass =
    let last : StandsFrom (c ∷ cs) (0 + length (c ∷ cs)) = last_stands 0 c cs rise in
    omega (arith, last.is_far, (pass last.at last.claim last.stands).1)

-- ---- positions of the term of a tree

one_beside : (k : ℕ) → length (beside_positions k) ≤ 1
one_beside zero = omega arith
one_beside (suc zero) = omega arith
one_beside (suc (suc k)) = omega arith

three_each : (nodes : List Node) (f : Forest) → length (tree_positions nodes f) ≤ 3 * length (all_numbers f)
three_each nodes no_trees = omega arith
three_each nodes (tree v children others) =
    let below = tree_positions nodes children in
    let join = beside_positions (length (roots_of children)) in
    omega (
      arith,
      length-append ((below ++ join) ++ own_positions nodes v) (tree_positions nodes others),
      length-append (below ++ join) (own_positions nodes v),
      length-append below join,
      length-append (all_numbers children ++ v ∷ []) (all_numbers others),
      length-append (all_numbers children) (v ∷ []),
      one_beside (length (roots_of children)),
      three_each nodes children,
      three_each nodes others,
    )

few_positions : (nodes : List Node) (f : Forest) → length (forest_positions nodes f) ≤ 3 * length (all_numbers f) + 1
few_positions nodes f =
    omega (
      arith,
      length-append (tree_positions nodes f) (beside_positions (length (roots_of f))),
      three_each nodes f,
      one_beside (length (roots_of f)),
    )

-- ---- refusals that tell of claims

-- no fault of nodes is of the kind of claims
not_of_nodes : (refusal : NodesRefusal) → (of_nodes refusal).fault.kind ≡ 3 → ⊥
not_of_nodes refused_nodes.NoNode kind = omega (arith, kind)
not_of_nodes refused_nodes.ManyNodes kind = omega (arith, kind)
not_of_nodes (refused_nodes.Node tests.Parent v) kind = omega (arith, kind)
not_of_nodes (refused_nodes.Node tests.Time v) kind = omega (arith, kind)
not_of_nodes (refused_nodes.Node tests.Size v) kind = omega (arith, kind)
not_of_nodes (refused_nodes.Node tests.LongTime v) kind = omega (arith, kind)
not_of_nodes refused_nodes.Total kind = omega (arith, kind)
not_of_nodes (refused_nodes.Cycle v) kind = omega (arith, kind)
not_of_nodes (refused_nodes.Share v) kind = omega (arith, kind)
not_of_nodes refused_nodes.NoMemory kind = omega (arith, kind)

-- what the law of forests says
abbrev pub EachOnce : Type 0
EachOnce =
    (nodes : List Node) (f : Forest) → IsTree nodes → IsForestOf nodes f → IsPermutation (all_numbers f) (range_with_len 1 (length nodes))

module _ (each : EachOnce) where
  pub most : (nodes : List Node) (plan : PlanValue) → IsTree nodes → IsPlan plan → IsCertificate nodes plan
      → length plan.claims ≤ most_claims (length nodes)
  most nodes plan is_tree within certificate =
      let f : Forest = certificate.term.0 in
      omega (
        arith,
        few_claims certificate.positions plan.claims within.rising certificate.accepted.claims,
        ap (λ (ps : List Position). length ps) certificate.term.2,
        few_positions nodes f,
        length_permutation (all_numbers f) (range_with_len 1 (length nodes)) (each nodes f is_tree certificate.term.1),
        length-range_with_len 1 (length nodes),
      )

  -- a refusal of the kind of claims: there is less room than is always enough, which is told
  by_kind : (nodes : List Node) (places room : ℕ) (refusal : Refusal) → IsCertifyRefusal nodes places room refusal
      → (answer_to refusal).fault.kind ≡ 3
      → (room < most_claims (length nodes)) × ((answer_to refusal).fault.value ≡ most_claims (length nodes))
  by_kind nodes places room (refusals.ClaimRoom needed) because kind =
      (omega (arith, because.past, most nodes because.plan because.tree because.within because.certificate), because.needed_is)
  by_kind nodes places room (refusals.Room needed) because kind = absurd (omega (arith, kind))
  by_kind nodes places room (refusals.Nodes refusal) because kind = absurd (not_of_nodes refusal kind)
  by_kind nodes places room refusals.NoMemory because kind = absurd (omega (arith, kind))
  by_kind nodes places room other because kind = absurd because

  pub told : (nodes : List Node) (places room status : ℕ) (fault : Fault) → IsRefusedFor (IsCertifyRefusal nodes places room) status fault
      → fault.kind ≡ 3 → (room < most_claims (length nodes)) × (fault.value ≡ most_claims (length nodes))
  told nodes places room status fault refused kind =
      let by = by_kind nodes places room refused.refusal refused.because (ap (λ (x : Fault). x.kind) (sym refused.fault_is) ∙ kind) in
      (by.0, ap (λ (x : Fault). x.value) refused.fault_is ∙ by.1)

  pub enough : (nodes : List Node) (places room status : ℕ) (fault : Fault) → most_claims (length nodes) ≤ room
      → IsRefusedFor (IsCertifyRefusal nodes places room) status fault → fault.kind ≡ 3 → ⊥
  enough nodes places room status fault is_enough refused kind =
      omega (arith, is_enough, (told nodes places room status fault refused kind).0)

  pub again : (nodes : List Node) (places room status second : ℕ) (fault other : Fault)
      → IsRefusedFor (IsCertifyRefusal nodes places room) status fault
      → fault.kind ≡ 3 → IsRefusedFor (IsCertifyRefusal nodes places fault.value) second other → other.kind ≡ 3 → ⊥
  again nodes places room status second fault other refused kind refused_again other_kind =
      enough nodes places fault.value second other
      (omega (arith, (told nodes places room status fault refused kind).1)) refused_again other_kind
