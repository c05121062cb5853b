-- Laws on answers and on what a writer leaves, for every crate above.
pub mod Laws
