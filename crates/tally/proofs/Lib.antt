-- Laws on the cost word, the meter reply, the total and a run of meter calls.
pub mod Laws
