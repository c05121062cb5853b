-- Laws on codes, on pairs of places, on what is put into the output, and on patterns whole.
pub mod Laws
