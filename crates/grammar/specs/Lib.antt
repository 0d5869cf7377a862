pub mod Grammar
pub mod Claims
