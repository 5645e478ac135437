pub mod Shapes
pub mod Tests
