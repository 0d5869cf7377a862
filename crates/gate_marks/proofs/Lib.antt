pub mod Rooms
pub mod Reading
pub mod Laws
pub mod Marks
pub mod MarkKinds
pub mod Described
