pub mod When
