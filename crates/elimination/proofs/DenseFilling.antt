-- A dense search as it is filled, and once it is full.
use Rattle.std.proofs.Common.{inl, inr, ℕ, sym, ap, ◌∙◌, IsTrue}
use Rattle.std.proofs.lemmas.Bool.{both_ways, false_from_ne_true}
use Rattle.patterns.specs.Pattern.{has}
use Rattle.elimination.specs.Elimination.{IsAdjacency}
use Rattle.bit_rows.specs.Bits.{bit_in}
use Rattle.elimination.specs.Dense.{Stage, IsStanding, IsFilling, IsDense}
use Rattle.elimination.specs.declared.dense.DenseSearch.{DenseSearch}

-- all that are left were put in
pub filled : (stage : Stage) (search : DenseSearch) → IsAdjacency stage.left → ((a b : ℕ) → IsTrue (stage.left a b) → IsStanding stage a)
    → IsFilling stage search
    → ((x : ℕ) → IsStanding stage x → IsTrue (bit_in search.alive x)) → IsDense stage search
filled stage search plain within s all =
    let none : (p : ℕ) → IsTrue (has search.pivots.items p) → ⊥ = λ p h. both_ways (has search.pivots.items p)
    (ap (λ z. has z p) s.none_open) h in
    record {
      order_is = s.order_is;
      few = s.few;
      rows_len = s.rows_len;
      rows = record {
        plain = plain;
        within = within;
        from = λ a b la lb near. inl ((s.full a (all a la)).exact b lb ∙ near);
        to = λ a b la lb h. elim h [ inl t ↦ sym ((s.full a (all a la)).exact b lb) ∙ t | inr o ↦ absurd (none o.0 o.1) ];
        alive_from = s.alive_from;
        alive_to = all;
        open_gone = λ p h. absurd (none p h);
        alive_width = s.alive_width;
        row_width = λ x lx. (s.full x (all x lx)).width;
        open_width = λ p h. absurd (none p h);
      };
      bounds = record {
        len = s.bounds_len;
        low = λ x lx. s.low x (all x lx);
        off = λ x le out. s.off x le (false_from_ne_true (bit_in search.alive x) (λ t. out (s.alive_from x t)));
      };
    }
