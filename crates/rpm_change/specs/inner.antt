-- Laws on the definitions, for the crates above.
pub mod IndexLaws
