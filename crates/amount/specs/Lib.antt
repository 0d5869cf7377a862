pub mod Amount
