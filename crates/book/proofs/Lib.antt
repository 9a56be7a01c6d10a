pub mod Answers
pub mod Refusals
mod Books
