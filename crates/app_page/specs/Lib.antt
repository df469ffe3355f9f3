pub mod Html
pub mod Page
