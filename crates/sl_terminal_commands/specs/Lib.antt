-- What each request answers, what is said of it, and how it is written.
pub mod Beside
pub mod Comparisons
pub mod Files
pub mod Given
pub mod Replies
pub mod Requests
pub mod Said
pub mod Sums
pub mod Tellings
pub mod inner
