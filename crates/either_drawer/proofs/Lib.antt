pub mod Drawer
pub mod Cases
