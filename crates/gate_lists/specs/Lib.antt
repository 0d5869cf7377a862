pub mod Which
pub mod Stands
