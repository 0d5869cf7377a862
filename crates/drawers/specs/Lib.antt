pub mod Drawers
