pub mod JsonDepths
pub mod JsonFilling
pub mod JsonKeys
pub mod Zips
pub mod HtmlLaws
pub mod MarkdownLaws
pub mod ShownSteps
pub mod TextLaws
mod CommaReading
mod CommaWriting
