-- Definitions on which no call of the desk and no law rests.
pub mod Layout
