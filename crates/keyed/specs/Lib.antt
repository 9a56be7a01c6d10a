pub mod Rows
pub mod Places
pub mod Tables
pub mod Laws
pub mod Reordered
