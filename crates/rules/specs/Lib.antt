pub mod Calls
pub mod Histories
pub mod Rules
pub mod Laws
pub mod Samples
pub mod Worked
pub mod Books
pub mod Premises
