pub mod FrontTree
