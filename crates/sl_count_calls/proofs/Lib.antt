pub mod Maps
pub mod StageColumns
pub mod Ends
pub mod Order
pub mod Delivering
pub mod OneMeaning
pub mod CountTexts
pub mod AnyInputs
