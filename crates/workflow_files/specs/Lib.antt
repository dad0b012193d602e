pub mod Kinds
pub mod Reader
pub mod WorkflowFile
pub mod WorkflowText
pub mod NamedText
