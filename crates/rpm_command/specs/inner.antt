-- What private functions say.
pub mod Arguments
