pub mod Keys
pub mod Entering
pub mod Pieces
pub mod Posted
pub mod Stepped
pub mod Rates
pub mod Rules
pub mod Products
