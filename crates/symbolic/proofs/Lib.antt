pub mod FrontTreeLemmas
