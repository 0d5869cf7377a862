pub mod Element
pub mod Found
