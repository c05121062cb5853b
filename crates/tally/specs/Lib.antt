-- Document 01, "Cost", and document 02, K5: the word, the meter reply, the total, a run of meter calls.
pub mod Cost
pub mod Reading
pub mod Total
pub mod Run
