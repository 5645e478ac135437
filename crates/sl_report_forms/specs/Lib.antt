-- What stands in the cells of sheets, their texts, and the forms of sheets.
pub mod Cells
pub mod CellTexts
pub mod CommaForm
pub mod Drafts
pub mod Heads
pub mod HtmlForm
pub mod JsonForm
pub mod MarkdownForm
pub mod NameTexts
pub mod Shown
pub mod Tables
pub mod TextForm
