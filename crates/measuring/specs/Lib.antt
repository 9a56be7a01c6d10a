pub mod Numbers
pub mod SameRate
pub mod Requests
pub mod Units
pub mod Lines
pub mod Placed
pub mod Portfolios
