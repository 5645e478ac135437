pub mod Shapes
pub mod Tests
pub mod Words
