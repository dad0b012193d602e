-- The words of what is wrong with a workflow file.
use Rattle.std.specs.Prelude.{ℕ, List, codes}
use Rattle.workflow_files.specs.declared.kind.WorkflowKind.{WorkflowKind}
use Rattle.workflow_files.specs.declared.kind.WorkflowKind.TheVariants.{Header, Word, Number, StackShort, NotOneTerm}
use Rattle.workflow_files.specs.declared.kind.WorkflowKind.TheVariants.{TaskCount, NoEnd, Share}

-- the word for it in reports
abbrev pub word_of : WorkflowKind → List ℕ
word_of Header = codes "header"
word_of Word = codes "word"
word_of Number = codes "number"
word_of StackShort = codes "stack-short"
word_of NotOneTerm = codes "not-one-term"
word_of TaskCount = codes "task-count"
word_of NoEnd = codes "no-end"
word_of Share = codes "share"
