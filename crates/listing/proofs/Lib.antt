-- Laws on the definitions of the listing.
pub mod Laws
