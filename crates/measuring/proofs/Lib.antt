mod Eights
mod Portfolios
