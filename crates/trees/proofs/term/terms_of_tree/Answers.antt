use Rattle.std.proofs.Common.{List, ℕ, sym, subst, ◌∙◌}
use Rattle.mp_system.specs.Renaming.{IsRenamed}
use Rattle.sp_terms.specs.declared.position.Position.{Position}
use Rattle.sp_terms.specs.SystemOfTerm.{system_of_term}
use Rattle.sp_terms.specs.Values.{IsTerms, term_of}
use Rattle.trees.specs.declared.node.Node.{Node}
use Rattle.trees.specs.Tree.{system_of_nodes}
use Rattle.trees.specs.Forest.{AreChildren, all_numbers}
use Rattle.trees.proofs.PositionLemmas.{flat-read}
use Rattle.trees.proofs.term.terms_of_tree.Goals as goal

pub new-requires : goal.new-requires
new-requires c =
    let nodes = c.args.tree.now in
    let is = c.nodes-nodes.ensures.tree in
    let f = c.forest_law.ensures.some nodes is in
    let rows = subst (λ (z : List Node). AreChildren z c.in_ok-children.children) c.nodes-nodes.ensures.value c.in_ok-children.ensures in
    let names = c.in_ok-names.ensures nodes f.0 is f.1 rows in
    let positions = flat-read nodes _ _ _ _ f.0 c.nodes-nodes.ensures.value c.deref.ensures.value f.1 names c.in_ok-positions.ensures in
    subst (λ (z : List Position). IsTerms z) (sym positions) (c.tree_term.ensures.terms nodes f.0 is f.1)

pub returns-clause-positions : goal.returns-clause-positions
returns-clause-positions c = λ f h.
    let nodes = c.args.tree.now in
    let is = c.nodes-nodes.ensures.tree in
    let rows = subst (λ (z : List Node). AreChildren z c.in_ok-children.children) c.nodes-nodes.ensures.value c.in_ok-children.ensures in
    let names = c.in_ok-names.ensures nodes f is h rows in
    let positions = flat-read nodes _ _ _ _ f c.nodes-nodes.ensures.value c.deref.ensures.value h names c.in_ok-positions.ensures in
    (c.new.ensures ∙ positions, c.new-2.ensures ∙ names)

pub returns-clause-system : goal.returns-clause-system
returns-clause-system c =
    let nodes = c.args.tree.now in
    let is = c.nodes-nodes.ensures.tree in
    let f = c.forest_law.ensures.some nodes is in
    let rows = subst (λ (z : List Node). AreChildren z c.in_ok-children.children) c.nodes-nodes.ensures.value c.in_ok-children.ensures in
    let names = c.in_ok-names.ensures nodes f.0 is f.1 rows in
    let positions = flat-read nodes _ _ _ _ f.0 c.nodes-nodes.ensures.value c.deref.ensures.value f.1 names c.in_ok-positions.ensures in
    subst (λ (z : List ℕ). IsRenamed z (system_of_term (term_of c.new.result)) (system_of_nodes nodes)) (sym (c.new-2.ensures ∙ names))
    (subst (λ (z : List Position). IsRenamed (all_numbers f.0) (system_of_term (term_of z)) (system_of_nodes nodes))
    (sym (c.new.ensures ∙ positions)) (c.tree_term.ensures.system nodes f.0 is f.1))
