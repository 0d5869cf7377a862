pub mod Drawer
