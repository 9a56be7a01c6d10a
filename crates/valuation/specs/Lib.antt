pub mod Keys
pub mod Apart
pub mod Raw
pub mod Values
pub mod Holdings
pub mod Markets
pub mod Grosses
