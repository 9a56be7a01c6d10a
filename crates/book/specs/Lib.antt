pub mod Faults
pub mod Numbers
pub mod Ranges
pub mod Tags
pub mod Requests
pub mod Book
pub mod Checks
