-- What private fields keep and show.
pub mod KeysLeft
pub mod Labels
pub mod Left
pub mod NamesLeft
pub mod Parts
pub mod Paths
pub mod Recent
pub mod Rows
pub mod Source
pub mod SourceElements
pub mod TagRows
