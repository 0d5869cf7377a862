pub mod Totals
pub mod Laws
pub mod Run
