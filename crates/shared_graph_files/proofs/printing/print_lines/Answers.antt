use Rattle.std.proofs.Common.{◌++◌, ◌∙◌, ℕ, length, map, ap, codes}
use Rattle.std.proofs.lemmas.Result.{on_ok_weaker}
use Rattle.mp_text.specs.Report.{line_text}
use Rattle.file_frame.specs.declared.version.Version.TheVariants.{Two}
use Rattle.file_frame.specs.Printed.{header_line, section_line, end_line}
use Rattle.shared_graph_files.specs.SharedGraphText.{task_line, item_line}
use Rattle.shared_graph_files.proofs.PrintedTexts.{whole_text}
use Rattle.shared_graph_files.proofs.printing.print_lines.Goals as goal

pub returns-clause-ok : goal.returns-clause-ok
returns-clause-ok c =
    let tasks = c.args.tasks.now in
    let items = c.args.items.now in
    on_ok_weaker c.print_end.result
    (whole_text (header_line (codes "graph") Two) (section_line (codes "tasks") (length tasks))
    (section_line (codes "items") (length items)) end_line (map task_line tasks) (map item_line items) c.args.report.now
    c.print_header.new.report c.print_section.new.report c.print_tasks.new.report c.print_section-2.new.report
    c.print_items.new.report c.print_end.new.report c.in_ok-print_header.ensures.ok c.in_ok-print_section.ensures.ok
    c.in_ok-print_tasks.ensures.ok
    (c.in_ok-print_section-2.ensures.ok
    ∙ ap (λ (n : ℕ). c.print_tasks.new.report ++ line_text (section_line (codes "items") n)) c.len.ensures)
    c.in_ok-print_items.ensures.ok) c.print_end.ensures.ok
