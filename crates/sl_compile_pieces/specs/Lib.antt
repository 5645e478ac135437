-- The definitions of the plans of a rulebook's parts, a folder a topic.
pub mod arenas
pub mod scopes
pub mod awards
pub mod seats
pub mod columns
pub mod facts
pub mod nodes
pub mod exprs
pub mod covers
pub mod closing
pub mod inner
