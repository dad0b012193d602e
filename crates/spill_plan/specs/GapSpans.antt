-- No public clause names this.
-- Gaps as spans of steps along a traversal.
use Rattle.std.specs.Prelude.{ℕ, suc, nat_lt, max, if◌then◌else◌, Option, Some, None, List, [], ◌∷◌, length, map}
use Rattle.shared_systems.specs.Shared.{SharedItem}
use Rattle.spill_plan.specs.declared.span.Span.{Span}
use Rattle.spill_plan.specs.Steps.{step_of}
use Rattle.spill_plan.specs.Gaps.{Gap}
use Rattle.spill_plan.specs.Spans.{start_of_item, end_of_item}

-- the step after the last of some steps that come before a place, or 0
abbrev pub latest_before : ℕ → List ℕ → ℕ
latest_before end [] = 0
latest_before end (s ∷ steps) = max (if nat_lt s end then suc s else 0) (latest_before end steps)

-- the part of a span before the step of a reader that comes after all readers before
abbrev pub span_to : (ℕ → ℕ) → Span → List ℕ → ℕ → Span
span_to step whole readers v =
    record { size = whole.size; start = max whole.start (latest_before (step v) (map step readers)); end = step v }

-- the parts before each reader, or all of the span
abbrev pub spans_to : (ℕ → ℕ) → Span → List ℕ → List Span
spans_to step whole [] = whole ∷ []
spans_to step whole (c ∷ cs) = map (span_to step whole (c ∷ cs)) (c ∷ cs)

-- from where the item is made to the end
abbrev pub whole_span : List ℕ → SharedItem → Span
whole_span order x = record { size = x.size; start = start_of_item order x.from; end = length order }

-- a gap starts where the item is made, and after each reader that stands before the gap's own
abbrev pub start_of_gap : List ℕ → SharedItem → Option ℕ → ℕ
start_of_gap order x None = start_of_item order x.from
start_of_gap order x (Some v) = max (start_of_item order x.from) (latest_before (step_of order v) (map (step_of order) x.readers))

abbrev pub span_until : List ℕ → SharedItem → Option ℕ → Span
span_until order x reader = record { size = x.size; start = start_of_gap order x reader; end = end_of_item order reader }

abbrev pub gap_span : List ℕ → Gap → Span
gap_span order gap = span_until order gap.item gap.reader
