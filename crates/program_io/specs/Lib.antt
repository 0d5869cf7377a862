pub mod Input
pub mod Wire
