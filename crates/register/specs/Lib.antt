pub mod Faults
pub mod Keys
pub mod State
pub mod Answers
pub mod Writes
pub mod Runs
