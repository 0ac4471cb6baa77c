-- What crates above cite, and what it is proved by.
pub mod Above
pub mod FromOne
pub mod Kept
pub mod Own
pub mod PackageLaws
pub mod RoomLaws
pub mod RowLaws
pub mod Running
pub mod StateLaws
