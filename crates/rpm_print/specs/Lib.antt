pub mod Closing
pub mod Frame
pub mod Prelude
pub mod Printed
pub mod Reads
pub mod Texts
pub mod inner
